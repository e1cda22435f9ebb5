-- What a verdict says of a certificate.
use Rattle.std.specs.Prelude.{ℕ, not, if◌then◌else◌, List}
use Rattle.dd_sets.specs.LiveSets.{nothing}
use Rattle.encode_task.specs.TaskSets.{goal_states_set, initial_set}
use Rattle.task_core.specs.Systems.{System}
use Rattle.task_core.specs.Tasks.{fluent_count}
use Rattle.task_core.specs.Vectors.{Vector}
use Rattle.task_core.specs.declared.classes.Class.{Class}
use Rattle.task_core.specs.declared.tasks.Task.{Task}
use Rattle.plan_certs.specs.Certificates.{CubeSet, IsAccepted, IsFirstFlaw, PlainCertificate, no_initial, some_goal, way_out}
use Rattle.cert_check.specs.Sets.{meets, some_is_left, states_of}
use Rattle.cert_check.specs.declared.verdict.Flaw.TheVariants.{Initial, Goal, Action}
use Rattle.cert_check.specs.declared.verdict.Judged.{Judged}
use Rattle.cert_check.specs.declared.verdict.Judged.TheVariants.{Accepted, Rejected}

-- a certificate is accepted, or this is the first thing that is wrong with it: no set holds an initial
-- state, some set holds some goal state, or some action is a way out of some set
abbrev pub IsVerdict : System → PlainCertificate → Judged → Type 0
IsVerdict sys certificate Accepted = IsAccepted sys certificate
IsVerdict sys certificate (Rejected Initial) = IsFirstFlaw sys certificate no_initial
IsVerdict sys certificate (Rejected Goal) =
    (s : Vector) × IsFirstFlaw sys certificate (some_goal s)
IsVerdict sys certificate (Rejected Action) =
    (i : ℕ) × (s : Vector) × (a : ℕ) × IsFirstFlaw sys certificate (way_out i s a)

-- Private: the verdict as it is found on the sets of a task: where only the actions are left to look
-- at, and from the beginning
abbrev pub judged_actions : Class → Task → List CubeSet → Judged
judged_actions class task sets =
    if some_is_left class task nothing sets then Rejected Action else Accepted

abbrev pub judgement : Class → Task → List CubeSet → Judged
judgement class task sets =
    if not (meets (fluent_count task) (states_of task sets) (initial_set task)) then
    Rejected Initial
    else if meets (fluent_count task) (states_of task sets)
    (goal_states_set task) then Rejected Goal
    else judged_actions class task sets
