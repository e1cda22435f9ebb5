-- How large the sets of a verdict are, and what its board has.
use Rattle.std.specs.Prelude.{◌≡◌, ℕ, ◌<◌, ◌≤◌, ◌+◌, Bool, false, List, [], ◌∷◌, length, take, Contains, ⊤}
use Rattle.dd_nodes.specs.Subfunctions.{Function}
use Rattle.dd_ops.specs.Operations.{or_of}
use Rattle.dd_sets.specs.LiveSets.{IsLive, IsSets, nothing, set_of}
use Rattle.dd_sets.specs.Rooms.{Rough, Small}
use Rattle.dd_sets.specs.declared.slots.SetId.{SetId}
use Rattle.encode_task.specs.Slots.{Encoded}
use Rattle.encode_task.specs.TaskSets.{cube_set, goal_states_set, initial_set, space_set}
use Rattle.preimage.specs.WorkingSets.{IsMadeByRounds, PreimageFits, first_every, first_some}
use Rattle.task_core.specs.Cubes.{Cube}
use Rattle.task_core.specs.Tasks.{action_count, fluent_count}
use Rattle.task_core.specs.declared.classes.Class.{Class}
use Rattle.task_core.specs.declared.classes.Class.TheVariants.{Weak, Strong, Cyclic}
use Rattle.task_core.specs.declared.tasks.Task.{Task}
use Rattle.plan_rules.specs.Plans.{IsCubeOf}
use Rattle.plan_certs.specs.Certificates.{CubeSet, PlainCertificate, set_at}
use Rattle.plan_certs.specs.Named.{IsSetOf}
use Rattle.slot_board.specs.Board.{At, IsSmall, Start}
use Rattle.slot_board.specs.Board.{set_at as set_at_place}
use Rattle.cert_check.specs.Sets.{is_left, states_in, states_of, way_out_set}

-- the round sets of a verdict: the initial states, all states, those of each set of the certificate, and
-- those of its first sets
pub data IsRoundSet (task : Task) (certificate : PlainCertificate) : Function → Type 0 where
  initial : IsRoundSet task certificate (initial_set task)
  space : IsRoundSet task certificate (space_set task)
  one_set : (set : CubeSet) → Contains certificate.sets set
      → IsRoundSet task certificate (states_in task set)
  first_sets : (j : ℕ) → IsRoundSet task certificate (states_of task (take j certificate.sets))

-- the working sets of a verdict: the goal states, those that the first cubes of a set match, and what
-- belongs to a round set, where some and where every outcome leads into it
pub data IsWorkingSet (task : Task) (certificate : PlainCertificate) : Function → Type 0 where
  goal : IsWorkingSet task certificate (goal_states_set task)
  first_cubes : (set : CubeSet) → Contains certificate.sets set → (j : ℕ)
      → IsWorkingSet task certificate (states_in task (take j set))
  by_some : (set : Function) → IsMadeByRounds task first_some (IsRoundSet task certificate) set
      → IsWorkingSet task certificate set
  by_every : (set : Function) → IsMadeByRounds task first_every (IsRoundSet task certificate) set
      → IsWorkingSet task certificate set

-- each working set is small by a width
pub record BoundsJudgedSets (width : ℕ) (task : Task) (certificate : PlainCertificate) : Type 0 where
  pub wide : fluent_count task + 2 ≤ width
  pub each : (set : Function) → IsWorkingSet task certificate set
      → Small (fluent_count task) width set

-- Private: the preimages that a way out is found by
abbrev pub WayFits : ℕ → Class → Task → Function → Function → ℕ → Type 0
WayFits width Weak task earlier set a = PreimageFits width task a first_every set
WayFits width Strong task earlier set a = PreimageFits width task a first_some set
WayFits width Cyclic task earlier set a =
    PreimageFits width task a first_some earlier
    × PreimageFits width task a first_every (or_of earlier set)

-- Private: what a verdict's sets are small, or rough, by
pub record AreFit (width : ℕ) (class : Class) (task : Task) (sets : List CubeSet) : Type 0 where
  pub wide : fluent_count task + 2 ≤ width
  pub initial : Small (fluent_count task) width (initial_set task)
  pub goal : Small (fluent_count task) width (goal_states_set task)
  pub space : Small (fluent_count task) width (space_set task)
  pub cubes : (cube : Cube) → IsCubeOf (fluent_count task) cube
      → Small (fluent_count task) width (cube_set cube)
  pub first_cubes : (set : CubeSet) → Contains sets set → (j : ℕ)
      → Small (fluent_count task) width (states_in task (take j set))
  pub first_sets : (j : ℕ) → Small (fluent_count task) width (states_of task (take j sets))
  pub ways : (i : ℕ) → i < length sets → (a : ℕ) → a < action_count task
      → WayFits width class task (states_of task (take i sets)) (states_in task (set_at sets i)) a
  pub left : (i : ℕ) → i < length sets → (a : ℕ) → a < action_count task
      → Rough (fluent_count task) width
      (way_out_set class task (states_of task (take i sets)) (states_in task (set_at sets i)) a)

-- Private: the board has its five places, of which those for a cube and for what is left may hold rough
-- sets
pub record IsBoard (start : Start) : Type 0 where
  pub five : start.places ≡ 5
  pub cube : Contains start.rough 2
  pub left : Contains start.rough 4

-- Private: what one set asks of the board
pub record SetFits (start : Start) (set : CubeSet) : Type 0 where
  pub board : IsBoard start
  pub in_task : IsSetOf (fluent_count start.task) set
  pub space : IsSmall start (space_set start.task)
  pub cubes : (cube : Cube) → IsCubeOf (fluent_count start.task) cube
      → IsSmall start (cube_set cube)
  pub firsts : (j : ℕ) → IsSmall start (states_in start.task (take j set))

-- Private: what a way out of one set asks of it
pub record LeaveFits (start : Start) (class : Class) (f : Function) (set : CubeSet)
    : Type 0 where
  pub by_set : SetFits start set
  pub union : IsSmall start f
  pub joined : IsSmall start (or_of f (states_in start.task set))
  pub ways : (a : ℕ) → a < action_count start.task
      → WayFits start.width class start.task f (states_in start.task set) a
  pub left : (a : ℕ) → a < action_count start.task
      → Rough (fluent_count start.task) start.width
      (way_out_set class start.task f (states_in start.task set) a)

-- Private: the union is f; and the set is g; and what may be left is b
pub record HasUnion (start : Start) (now : Encoded) (slots : List SetId) (f : Function)
    : Type 0 where
  pub at : At start now slots
  pub sound : IsSets now.sets
  pub union : set_at_place now.sets slots 0 ≡ f

pub record HasSet (start : Start) (now : Encoded) (slots : List SetId) (f g : Function)
    : Type 0 where
  pub by_union : HasUnion start now slots f
  pub set : set_at_place now.sets slots 1 ≡ g

pub record HasLeft (start : Start) (now : Encoded) (slots : List SetId) (f g b : Function)
    : Type 0 where
  pub by_set : HasSet start now slots f g
  pub left : set_at_place now.sets slots 4 ≡ b

-- Private: what a set that is kept asks, where the union is f
pub record CommonFits (start : Start) (f h : Function) (kept : SetId) : Type 0 where
  pub board : IsBoard start
  pub live : IsLive start.enc.sets kept.0
  pub holds : set_of start.enc.sets kept.0 ≡ h
  pub union : IsSmall start f
  pub small : IsSmall start h

-- Private: what the cubes of a set ask, where b may be left
pub record CubesFit (start : Start) (b : Function) (set : CubeSet) : Type 0 where
  pub board : IsBoard start
  pub in_task : IsSetOf (fluent_count start.task) set
  pub rough : Rough (fluent_count start.task) start.width b

-- Private: the union with the states of more sets
abbrev pub union_after : Task → Function → List CubeSet → Function
union_after task f [] = f
union_after task f (set ∷ sets) = union_after task (or_of f (states_in task set)) sets

-- Private: what sets ask in turn, the union being f before them
abbrev pub SetsFit : Start → Class → Function → List CubeSet → Type 0
SetsFit start class f [] = ⊤
SetsFit start class f (set ∷ sets) =
    LeaveFits start class f set
    × SetsFit start class (or_of f (states_in start.task set)) sets

-- Private: it is found whether some action is a way out of a set; where none is, its states are
-- joined to the union
pub record IsLookedAt (start : Start) (now : Encoded) (slots : List SetId) (class : Class)
    (f : Function) (set : CubeSet) (found : Bool) : Type 0 where
  pub at : At start now slots
  pub sound : IsSets now.sets
  pub is : found ≡ is_left class start.task f set
  pub union : found ≡ false → HasUnion start now slots (or_of f (states_in start.task set))

-- Private: what a whole verdict asks
pub record JudgeFits (start : Start) (class : Class) (sets : List CubeSet) : Type 0 where
  pub board : IsBoard start
  pub sets_fit : SetsFit start class nothing sets
  pub union : IsSmall start (states_of start.task sets)
  pub initial : IsSmall start (initial_set start.task)
  pub goal : IsSmall start (goal_states_set start.task)
