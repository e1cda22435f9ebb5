-- The printed table on the board of a search: for each action, the states that take it.
use Rattle.std.specs.Prelude.{◌≡◌, ℕ, ◌+◌, ◌<◌, ◌≤◌, List, true}
use Rattle.dd_sets.specs.LiveSets.{IsSets}
use Rattle.dd_sets.specs.declared.slots.SetId.{SetId}
use Rattle.encode_task.specs.Made.{MadeOf}
use Rattle.encode_task.specs.Slots.{Encoded}
use Rattle.plan_theory.specs.LayerPlans.{is_action}
use Rattle.task_core.specs.Tasks.{action_count, fluent_count, system_of}
use Rattle.task_core.specs.declared.tasks.Task.{Task}
use Rattle.slot_board.specs.Board.{At, Start, set_at}
use Rattle.plan_theory.specs.LargestSets.{IsLargestSet, covers}
use Rattle.plan_theory.specs.Pairs.{Pairs}
use Rattle.plan_theory.specs.CyclicPlans.{progress_action}
use Rattle.cyclic_plan.specs.Stages.{Agrees, place_count, rough_places}

-- where a search for a task began, with a width for its working sets: its board has places for seven
-- sets and two for each action
abbrev pub start_of : (task : Task) (enc : Encoded) → MadeOf task enc → (width : ℕ)
    → fluent_count task + 2 ≤ width → Start
start_of task enc made width wide = record {
  task = task;
  enc = enc;
  made = made;
  places = place_count (action_count task);
  spare = action_count task + 17;
  width = width;
  wide = wide;
  rough = rough_places;
}

-- the place of the states that take an action, of so many actions
abbrev pub takers_place : ℕ → ℕ → ℕ
takers_place actions a = 7 + actions + a

-- the board has the table that is printed for the largest set of pairs: for each action, in a slot
-- of its own besides those of the start, the states of which it is the action. And each initial
-- state is a goal state or has a pair
pub record HasTable (start : Start) (now : Encoded) (slots : List SetId) : Type 0 where
  pub at : At start now slots
  pub places : start.places ≡ place_count (action_count start.task)
  pub sound : IsSets now.sets
  pub pairs : Pairs
  pub largest : IsLargestSet (system_of start.task) pairs
  pub covered : covers (system_of start.task) pairs ≡ true
  pub taken : (a : ℕ) → a < action_count start.task
      → Agrees start (set_at now.sets slots (takers_place (action_count start.task) a))
      (λ v. is_action a (progress_action (system_of start.task) pairs v))
