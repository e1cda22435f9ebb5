-- Private: a task with another initial state.
use Rattle.std.specs.Prelude.{◌≡◌, ◌++◌, ℕ, [], List, ⊤}
use Rattle.dead_ends.specs.DeadEnds.{HasPlanFrom, IsDeadEnd}
use Rattle.task_core.specs.Initial.{entries_of, facts_of}
use Rattle.task_core.specs.Systems.{System}
use Rattle.task_core.specs.Tasks.{fluent_count, initial_states, system_of}
use Rattle.task_core.specs.Vectors.{Vector}
use Rattle.task_core.specs.declared.classes.Class.{Class}
use Rattle.task_core.specs.declared.tasks.Task.{Task}
use Rattle.dead_ends.specs.ToldRuns.{IsFirstDeadEnd}
use Rattle.dead_ends.specs.declared.outlooks.Outlook.{Outlook}
use Rattle.dead_ends.specs.declared.outlooks.Outlook.TheVariants.{DeadEnd, Plan, Unknown}

-- the tasks differ in their initial states at most
pub record IsLike (task other : Task) : Type 0 where
  pub fluents : other.fluents ≡ task.fluents
  pub actions : other.actions ≡ task.actions
  pub goal : other.goal ≡ task.goal
  pub invariant : other.invariant ≡ task.invariant

-- nothing of the initial state of a task is uncertain, and it is this vector
pub record StartsAt (v : Vector) (task : Task) : Type 0 where
  pub facts : facts_of (fluent_count task) task.init ≡ v
  pub entries : entries_of task.init ≡ []

-- what there is from a state
abbrev pub HasOutlook : Class → System → Vector → Outlook → Type 0
HasOutlook class sys v Plan = HasPlanFrom class sys v
HasOutlook class sys v DeadEnd = IsDeadEnd class sys v
HasOutlook class sys v Unknown = ⊤

-- a list begins with another
abbrev pub IsFrontOf : List Vector → List Vector → Type 0
IsFrontOf all front = (rest : List Vector) × (all ≡ front ++ rest)

-- the initial state of this number is the first from which there is no plan of the class, and the other
-- task begins in it
pub record IsFirstStart (class : Class) (task : Task) (number : ℕ) (other : Task) : Type 0 where
  pub first : IsFirstDeadEnd class (system_of task) (initial_states task) number
  pub starts : StartsAt first.state other
