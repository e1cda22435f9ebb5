-- The printed table on the board of a search: for each context, next context and action the states
-- in which the action is taken.
use Rattle.std.specs.Prelude.{◌≡◌, ℕ, suc, ◌+◌, ◌<◌, ◌≤◌, length, true}
use Rattle.plan_theory.specs.GuardedSets.{anywhere}
use Rattle.plan_theory.specs.UntilChains.{UntilSets, covers_until}
use Rattle.plan_theory.specs.UntilPrinted.{until_states}
use Rattle.encode_task.specs.Made.{MadeOf}
use Rattle.encode_task.specs.Slots.{Encoded}
use Rattle.task_core.specs.Tasks.{action_count, fluent_count}
use Rattle.task_core.specs.declared.tasks.Task.{Task}
use Rattle.slot_board.specs.Board.{Scene}
use Rattle.context_plan.specs.Rounds.{turning_at}
use Rattle.context_plan.specs.Scenes.{SameStates, Start, rules_place, states_at, sys_of}
use Rattle.context_plan.specs.Steps.{HasTakers}

-- where a search for a task and so many stages began, with a width
abbrev pub start_of : (task : Task) (enc : Encoded) → MadeOf task enc → (stages width : ℕ)
    → fluent_count task + 2 ≤ width → Start
start_of task enc made n w wide = record {
  task = task;
  enc = enc;
  made = made;
  stages = n;
  width = w;
  wide = wide;
  guard = anywhere;
}

-- the board has, for each context, its states and those that take each action towards its stage;
-- and each initial state is one of the first context
pub record HasTable (start : Start) (x : Scene) (chain : UntilSets) : Type 0 where
  pub stages : length chain.stages ≡ start.stages
  pub takers : HasTakers start x chain (suc start.stages)
  pub covered : covers_until (sys_of start) chain ≡ true

-- and, for a context and a next one, which are counted from 0, and which is not before it, the states
-- that turn to it stand at 4
pub record HasTurning (start : Start) (x : Scene) (chain : UntilSets) (c j : ℕ) : Type 0 where
  pub table : HasTable start x chain
  pub from : c ≤ j
  pub few : j ≤ start.stages
  pub turning : SameStates start (states_at x 4) (turning_at (sys_of start) chain c j)

-- and the states in which each action is taken stand at its place, as the printed rules have it
pub record HasRuleStates (start : Start) (x : Scene) (chain : UntilSets) (c j : ℕ) : Type 0 where
  pub table : HasTable start x chain
  pub sets : (a : ℕ) → a < action_count start.task
      → SameStates start (states_at x (rules_place (action_count start.task) start.stages + a))
      (until_states (sys_of start) chain (suc c) (suc j) a)
