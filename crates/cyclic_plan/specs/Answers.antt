-- Private: what the planner's parts answer.
use Rattle.std.specs.Prelude.{◌≡◌, ℕ, Bool, true, false, List, Result, Ok, Err}
use Rattle.std.specs.List.{list_all}
use Rattle.task_core.specs.Solutions.{HasNoSolution}
use Rattle.task_core.specs.Tasks.{system_of}
use Rattle.task_core.specs.declared.classes.Class.TheVariants.{Cyclic}
use Rattle.dd_sets.specs.declared.errors.SetErr.{SetErr}
use Rattle.dd_sets.specs.declared.errors.SetErr.TheVariants.{Full}
use Rattle.dd_sets.specs.declared.slots.SetId.{SetId}
use Rattle.encode_task.specs.Slots.{Encoded}
use Rattle.slot_board.specs.Board.{At, HasNoRoom, Start}
use Rattle.plan_theory.specs.PairRounds.{IsLastRound}
use Rattle.plan_theory.specs.PairRounds.{round as round_of}
use Rattle.cyclic_plan.specs.Stages.{HasRounds}
use Rattle.cyclic_plan.specs.Steps.{AreStepsFrom}
use Rattle.cyclic_plan.specs.Takers.{HasTable}
use Rattle.slot_board.specs.declared.steps.Step.{Step}

-- what a search leaves: the printed table on its board, or that no table is a solution
abbrev pub Ends : Start → Encoded → List SetId → Result Bool SetErr → Type 0
Ends start now slots (Ok true) = HasTable start now slots
Ends start now slots (Ok false) =
    At start now slots × HasNoSolution Cyclic (system_of start.task)
Ends start now slots (Err e) = At start now slots × (e ≡ Full → HasNoRoom start now)

-- the rounds end with the last one, which leaves each initial state, and whose steps are kept, or no
-- table is a solution
abbrev pub RoundsEnd : Start → Encoded → List SetId → List Step → Result Bool SetErr → Type 0
RoundsEnd start now slots steps (Ok true) = (r : ℕ) × IsLastRound (system_of start.task) r
    × (list_all (round_of (system_of start.task) r) (system_of start.task).initial ≡ true)
    × HasRounds start now slots r
    × AreStepsFrom start (round_of (system_of start.task) r) 0 0 steps
RoundsEnd start now slots steps (Ok false) =
    At start now slots × HasNoSolution Cyclic (system_of start.task)
RoundsEnd start now slots steps (Err e) = At start now slots × (e ≡ Full → HasNoRoom start now)
