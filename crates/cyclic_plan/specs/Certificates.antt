-- What a search for a certificate finds: the sets of states that the rounds lose.
use Rattle.std.specs.Prelude.{◌≡◌, ℕ, ◌<◌, true, false, List, map, Option, Some, None, Vec}
use Rattle.std.specs.Prelude.{Result, Ok, Err}
use Rattle.std.specs.declared.alloc.Global.{Global}
use Rattle.dd_sets.specs.declared.errors.SetErr.{SetErr}
use Rattle.dd_sets.specs.declared.errors.SetErr.TheVariants.{Full}
use Rattle.dd_sets.specs.declared.slots.SetId.{SetId}
use Rattle.encode_task.specs.Slots.{Encoded}
use Rattle.task_core.specs.Solutions.{HasNoSolution, IsSolution}
use Rattle.task_core.specs.Systems.{IsVector, System}
use Rattle.task_core.specs.Tables.{IsTable, Table}
use Rattle.task_core.specs.Tasks.{system_of}
use Rattle.task_core.specs.Vectors.{Vector}
use Rattle.task_core.specs.declared.classes.Class.TheVariants.{Cyclic}
use Rattle.slot_board.specs.Board.{At, HasNoRoom, Start, set_at}
use Rattle.plan_certs.specs.Named.{plain_certificate, set_of}
use Rattle.plan_certs.specs.Printed.{IsFirstWhole, IsPrinted, lost_set, lost_sets}
use Rattle.plan_certs.specs.declared.certificates.Certificate.{Certificate}
use Rattle.plan_certs.specs.declared.certificates.StateSet.{StateSet}
use Rattle.cyclic_plan.specs.Stages.{Agrees, HasRounds}

-- each of the first n rounds loses some state
abbrev pub LosesSome : System → ℕ → Type 0
LosesSome sys n =
    (r : ℕ) → r < n → (v : Vector) × IsVector sys v × (lost_set sys r v ≡ true)

-- round r loses none
abbrev pub LosesNoState : System → ℕ → Type 0
LosesNoState sys r = (v : Vector) → IsVector sys v → lost_set sys r v ≡ false

-- some table is a solution
abbrev pub HasSolution : System → Type 0
HasSolution sys = (table : Table) × IsTable sys table × IsSolution Cyclic sys table

-- Private: after round r, what it lost stands at 6
pub record HasLost (start : Start) (now : Encoded) (slots : List SetId) (r : ℕ) : Type 0 where
  pub rounds : HasRounds start now slots r
  pub holds_lost : Agrees start (set_at now.sets slots 6) (lost_set (system_of start.task) r)

-- Private: the sets so far
pub record HasLostSets (start : Start) (now : Encoded) (slots : List SetId) (r : ℕ)
    (sets : List StateSet) : Type 0 where
  pub lost : HasLost start now slots r
  pub some : LosesSome (system_of start.task) r
  pub are : map set_of sets ≡ lost_sets (system_of start.task) r

-- Private: all sets, and what the last round leaves
pub record HasAllSets (start : Start) (now : Encoded) (slots : List SetId)
    (sets : List StateSet) : Type 0 where
  pub rounds : ℕ
  pub so_far : HasLostSets start now slots rounds sets
  pub none : LosesNoState (system_of start.task) rounds

-- Private: what the search for a certificate ends with
abbrev pub CertificateEnds : Start → Encoded → List SetId
    → Result (Option (Vec StateSet Global)) SetErr → Type 0
CertificateEnds start now slots (Ok (Some sets)) =
    At start now slots × HasNoSolution Cyclic (system_of start.task)
    × (n : ℕ) × IsFirstWhole (system_of start.task) n
    × (map set_of sets.items ≡ lost_sets (system_of start.task) n)
CertificateEnds start now slots (Ok None) = At start now slots × HasSolution (system_of start.task)
CertificateEnds start now slots (Err e) =
    At start now slots × (e ≡ Full → HasNoRoom start now)

-- Private: the same of the certificate
abbrev pub Certifies : Start → Encoded → List SetId → Result (Option Certificate) SetErr → Type 0
Certifies start now slots (Ok (Some certificate)) =
    HasNoSolution Cyclic (system_of start.task)
    × IsPrinted Cyclic (system_of start.task) (plain_certificate certificate)
Certifies start now slots (Ok None) = HasSolution (system_of start.task)
Certifies start now slots (Err e) = e ≡ Full → HasNoRoom start now
