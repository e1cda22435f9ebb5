-- Certificates that there is no plan of a class: sets of states, by which each step of any plan can
-- be judged, without a search. Against weak plans stands a set that no action leads out of, against
-- strong plans one that no action surely leads out of, and against strong cyclic plans a list of
-- sets such that no action leads out of one but at the risk of an earlier one.
use Rattle.std.specs.Prelude.{◌≡◌, ℕ, suc, ◌<◌, Bool, true, false, ◌||◌, List, [], take, length}
use Rattle.std.specs.Prelude.{slice_index_or}
use Rattle.std.specs.List.{Contains, list_all, list_any}
use Rattle.task_core.specs.Cubes.{Cube, matches}
use Rattle.task_core.specs.Vectors.{Vector}
use Rattle.task_core.specs.Systems.{System, Exec, IsState, goal_states}
use Rattle.task_core.specs.declared.classes.Class.{Class}
use Rattle.task_core.specs.declared.classes.Class.TheVariants.{Weak, Strong, Cyclic}

-- a set of states, by its cubes
abbrev pub CubeSet : Type 0
CubeSet = List Cube

-- a class of plans, and sets in their order
pub record PlainCertificate : Type 0 where
  pub class : Class
  pub sets : List CubeSet

-- a set holds the states that some of its cubes matches; none where it has no cube
abbrev pub holds_state : CubeSet → Vector → Bool
holds_state set v = list_any (λ cube. matches cube v) set

-- whether some of the sets holds a state
abbrev pub some_holds : List CubeSet → Vector → Bool
some_holds sets v = list_any (λ set. holds_state set v) sets

-- the set of this number, counted from 0; the empty one past the last
abbrev pub set_at : List CubeSet → ℕ → CubeSet
set_at sets i = slice_index_or sets i []

-- whether an action that leads to these states is no way out of set i. Weak: every outcome lies in
-- the set. Strong: some outcome does. Cyclic: some outcome lies in an earlier set, or every outcome
-- lies in this set or an earlier one
abbrev pub is_no_way_out : Class → List CubeSet → ℕ → List Vector → Bool
is_no_way_out Weak sets i next = list_all (holds_state (set_at sets i)) next
is_no_way_out Strong sets i next = list_any (holds_state (set_at sets i)) next
is_no_way_out Cyclic sets i next =
    list_any (some_holds (take i sets)) next || list_all (some_holds (take (suc i) sets)) next

-- some set holds this initial state
pub record HoldsInitial (sys : System) (certificate : PlainCertificate) (s : Vector) : Type 0 where
  pub initial : Contains sys.initial s
  pub held : some_holds certificate.sets s ≡ true

-- no set holds an initial state
abbrev pub HoldsNoInitial : System → PlainCertificate → Type 0
HoldsNoInitial sys certificate =
    (s : Vector) → Contains sys.initial s → some_holds certificate.sets s ≡ false

-- some set holds this goal state
pub record HoldsGoal (sys : System) (certificate : PlainCertificate) (s : Vector) : Type 0 where
  pub goal : Contains (goal_states sys) s
  pub held : some_holds certificate.sets s ≡ true

-- no set holds a goal state
abbrev pub HoldsNoGoal : System → PlainCertificate → Type 0
HoldsNoGoal sys certificate =
    (s : Vector) → Contains (goal_states sys) s → some_holds certificate.sets s ≡ false

-- action a can be executed in s, a state of set i
pub record CanAct (sys : System) (certificate : PlainCertificate) (i : ℕ) (s : Vector)
    (a : ℕ) : Type 0 where
  pub set : i < length certificate.sets
  pub state : IsState sys s
  pub held : holds_state (set_at certificate.sets i) s ≡ true
  pub executable : Exec sys s a

-- this action is a way out of set i, from this state of it
pub record IsWayOut (sys : System) (certificate : PlainCertificate) (i : ℕ) (s : Vector)
    (a : ℕ) : Type 0 where
  pub acts : CanAct sys certificate i s a
  pub leads : is_no_way_out certificate.class certificate.sets i (sys.next s a) ≡ false

-- no action is a way out of a set
abbrev pub HasNoWayOut : System → PlainCertificate → Type 0
HasNoWayOut sys certificate =
    (i : ℕ) (s : Vector) (a : ℕ) → CanAct sys certificate i s a
    → is_no_way_out certificate.class certificate.sets i (sys.next s a) ≡ true

-- the certificate is accepted: then no plan of its class exists
pub record IsAccepted (sys : System) (certificate : PlainCertificate) : Type 0 where
  pub start : Vector
  pub initial : HoldsInitial sys certificate start
  pub goal : HoldsNoGoal sys certificate
  pub actions : HasNoWayOut sys certificate

-- what can be wrong with a certificate: no set holds an initial state, or one holds this goal
-- state, or from this state of the set of this number this action is a way out
pub data CertificateFlaw : Type 0 where
  no_initial : CertificateFlaw
  some_goal : Vector → CertificateFlaw
  way_out : ℕ → Vector → ℕ → CertificateFlaw

-- it is the first thing that is wrong with the certificate, in this order
abbrev pub IsFirstFlaw : System → PlainCertificate → CertificateFlaw → Type 0
IsFirstFlaw sys certificate no_initial = HoldsNoInitial sys certificate
IsFirstFlaw sys certificate (some_goal s) =
    ((start : Vector) × HoldsInitial sys certificate start) × HoldsGoal sys certificate s
IsFirstFlaw sys certificate (way_out i s a) =
    ((start : Vector) × HoldsInitial sys certificate start) × HoldsNoGoal sys certificate
    × IsWayOut sys certificate i s a
