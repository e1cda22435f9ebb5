-- Private: that what the parts of a search for a patrol goal make is small, by the width of its start.
-- Rounds and visits are counted from 0.
use Rattle.std.specs.Prelude.{◌≡◌, ℕ, ◌<◌, ◌≤◌, true, Contains, List, length}
use Rattle.plan_theory.specs.Patrols.{covers_patrol, patrol_round, visited}
use Rattle.encode_task.specs.TaskSets.{initial_set, space_set}
use Rattle.slot_board.specs.Board as board
use Rattle.task_core.specs.Cubes.{SetOfVectors}
use Rattle.task_core.specs.Tasks.{action_count}
use Rattle.task_core.specs.declared.conditions.Cond.{Cond}
use Rattle.context_plan.specs.Chains.{visit_sets}
use Rattle.context_plan.specs.PatrolWorkingSets.{first_visits_in, visit_at, visit_taken_in}
use Rattle.context_plan.specs.Scenes.{Start, board_of, guarded, sys_of}
use Rattle.context_plan.specs.Sizes.{IsSmall, RoundFits, TurnsFit}
use Rattle.context_plan.specs.declared.rounds.Way.TheVariants.{Growing}

-- what a round leaves of the states
abbrev pub round_of : Start → List Cond → ℕ → SetOfVectors
round_of start conds r = patrol_round (sys_of start) (visit_sets conds) r

-- where a visit is made in it
abbrev pub made_in : Start → List Cond → ℕ → ℕ → SetOfVectors
made_in start conds r i =
    visited (sys_of start) (round_of start conds r) (visit_at (visit_sets conds) i)

-- where work is done within what a round leaves
abbrev pub within_round : Start → List Cond → ℕ → Start
within_round start conds r = guarded start (round_of start conds r)

-- what a search makes is small
pub record PatrolFits (start : Start) (conds : List Cond) : Type 0 where
  pub initial : board.IsSmall (board_of start) (initial_set start.task)
  pub space : board.IsSmall (board_of start) (space_set start.task)
  pub visits : (cond : Cond) → Contains conds cond → board.ConditionFits (board_of start) cond
  pub left : (r : ℕ) → RoundFits (within_round start conds r) (round_of start conds r)
  pub near : (r i : ℕ) → i < length conds
      → TurnsFit Growing (within_round start conds r) (made_in start conds r i)
  pub first : (r j : ℕ) → j ≤ length conds
      → IsSmall start (first_visits_in (sys_of start) (visit_sets conds) r j)
  pub taken : (i k a : ℕ) → covers_patrol (sys_of start) (visit_sets conds) ≡ true
      → i < length conds → a < action_count start.task
      → IsSmall start (visit_taken_in (sys_of start) (visit_sets conds) i k a)
