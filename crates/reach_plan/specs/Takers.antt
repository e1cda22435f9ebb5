-- What is found before it becomes rules: for each action the set in which it is taken.
use Rattle.std.specs.Prelude.{◌≡◌, ℕ, ◌<◌, Bool, true, false, List, [], length}
use Rattle.dd_sets.specs.LiveSets.{LiveSets}
use Rattle.dd_sets.specs.declared.slots.SetId.{SetId}
use Rattle.slot_board.specs.Board.{set_at}
use Rattle.task_core.specs.Solutions.{HasNoSolution}
use Rattle.task_core.specs.Systems.{IsVector}
use Rattle.task_core.specs.Tasks.{action_count, system_of}
use Rattle.task_core.specs.Vectors.{Vector, value_of}
use Rattle.task_core.specs.declared.classes.Class.{Class}
use Rattle.task_core.specs.declared.tasks.Task.{Task}
use Rattle.plan_theory.specs.Layers.{IsLastLayer}
use Rattle.plan_theory.specs.LayerPlans.{takers}
use Rattle.reach_plan.specs.Steps.{LeadToLast}
use Rattle.slot_board.specs.declared.steps.Step.{Step}
use Rattle.reach_plan.specs.declared.takers.Takers.{Takers}
use Rattle.reach_plan.specs.declared.takers.Takers.TheVariants.{Board, NoPlan}

-- there is a slot for each action, in the order of their numbers, with the states that take it in
-- the printed table
pub record HoldTakers (class : Class) (task : Task) (sets : LiveSets) (slots : List SetId)
    : Type 0 where
  pub layers : ℕ
  pub last : IsLastLayer class (system_of task) layers
  pub long : length slots ≡ action_count task
  pub takes : (a : ℕ) (v : Vector) → a < action_count task → IsVector (system_of task) v
      → set_at sets slots a (value_of v) ≡ takers class (system_of task) layers a v

-- what a search for them found: these slots, or that there is no solution
abbrev pub AreFound : Class → Task → LiveSets → Takers → Type 0
AreFound class task sets (Board board) = HoldTakers class task sets board.slots.items
AreFound class task sets NoPlan = HasNoSolution class (system_of task)

-- the slots that it handed out
abbrev pub slots_of : Takers → List SetId
slots_of (Board board) = board.slots.items
slots_of NoPlan = []

-- whether some layer is the last one, to which these steps lead, or there is no solution
abbrev pub IsDecided : Class → Task → List Step → Bool → Type 0
IsDecided class task steps true = LeadToLast class task steps
IsDecided class task steps false = HasNoSolution class (system_of task)
