-- What is made for the rules is small, or rough where it may be.
use Rattle.std.proofs.Common.{◌≡◌, ℕ, ◌+◌, ◌<◌, ◌≤◌, length, sym, subst, inr, arith}
use Rattle.dd_ops.specs.Operations.{and_of, minus_of}
use Rattle.slot_board.specs.Board as board
use Rattle.slot_board.specs.Board.{Scene, set_at}
use Rattle.plan_theory.specs.UntilChains.{UntilSets}
use Rattle.task_core.specs.Tasks.{action_count}
use Rattle.context_plan.specs.Rounds.{from_stage, turning_at}
use Rattle.context_plan.specs.Scenes.{Start, board_of, met_place, states_at, sys_of, takers_place}
use Rattle.context_plan.specs.Steps.{HasRest}
use Rattle.context_plan.specs.Tables.{HasTurning}
use Rattle.context_plan.proofs.RuleSteps.{rest_met, turning_left}
use Rattle.context_plan.proofs.SizeSteps.{at_small, fits_meet, fits_small, may_two, placed_small, small_same}
use Rattle.context_plan.proofs.TakenSteps.{takers_within}

pub rest_fits : (start : Start) (x : Scene) (chain : UntilSets) (c j met : ℕ) → length chain.stages ≡ start.stages → c ≤ j → j < start.stages → met ≡ met_place j → HasRest start x chain c j
    → board.Fits (board_of start) 3 (and_of (set_at x.0.sets x.1 3) (set_at x.0.sets x.1 met))
rest_fits start x chain c j met long from less is_met h =
    subst (λ k. board.Fits (board_of start) 3 (and_of (set_at x.0.sets x.1 3) (set_at x.0.sets x.1 k))) (sym is_met)
    (fits_small start 3 (and_of (set_at x.0.sets x.1 3) (set_at x.0.sets x.1 (met_place j))) (from_stage (sys_of start) chain c (j + 1)) (h.has.fits.later c (j + 1) (omega arith) (omega arith))
    (λ v is. sym (rest_met start x chain c j long from (omega arith) h v is)))

pub turning_fits_at : (start : Start) (x : Scene) (chain : UntilSets) (c j met : ℕ) → length chain.stages ≡ start.stages → c ≤ j → j ≤ start.stages → met ≡ met_place j → HasRest start x chain c j
    → board.Fits (board_of start) 4 (minus_of (set_at x.0.sets x.1 3) (set_at x.0.sets x.1 met))
turning_fits_at start x chain c j met long from few is_met h =
    subst (λ k. board.Fits (board_of start) 4 (minus_of (set_at x.0.sets x.1 3) (set_at x.0.sets x.1 k))) (sym is_met)
    (fits_small start 4 (minus_of (set_at x.0.sets x.1 3) (set_at x.0.sets x.1 (met_place j))) (turning_at (sys_of start) chain c j) (h.has.fits.turning c j from few)
    (λ v is. sym (turning_left start x chain c j long from few h v is)))

-- the states that take an action
pub action_place : (start : Start) (x : Scene) (chain : UntilSets) (c j takers a : ℕ) → takers ≡ takers_place (action_count start.task) start.stages j → a < action_count start.task → HasTurning start x chain c j → takers + a < length x.1
action_place start x chain c j takers a is_takers below h =
    let few = h.few in
    let within = takers_within start x h.table.takers.ready.at j (omega arith) in
    omega arith

pub action_fits : (start : Start) (x : Scene) (chain : UntilSets) (c j takers a : ℕ) → takers ≡ takers_place (action_count start.task) start.stages j → a < action_count start.task → HasTurning start x chain c j
    → board.Fits (board_of start) 2 (and_of (set_at x.0.sets x.1 4) (set_at x.0.sets x.1 (takers + a)))
action_fits start x chain c j takers a is_takers below h =
    let within = action_place start x chain c j takers a is_takers below h in
    fits_meet start 2 (set_at x.0.sets x.1 4) (set_at x.0.sets x.1 (takers + a)) may_two
    (at_small start x 4 (small_same start (turning_at (sys_of start) chain c j) (states_at x 4) (λ v is. sym (h.turning v is)) (h.table.takers.fits.turning c j h.from h.few)))
    (placed_small start x h.table.takers.ready.at (takers + a) within (inr (omega arith)))
