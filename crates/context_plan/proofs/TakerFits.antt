-- What is made while actions are taken is small, or rough where it may be.
use Rattle.std.proofs.Common.{◌≡◌, ℕ, ◌+◌, ◌<◌, ◌≤◌, not, ◌&&◌, ◌||◌, length, sym, ◌∙◌, inl, inr, arith}
use Rattle.std.specs.List.{list_any, range_with_len}
use Rattle.dd_ops.specs.Operations.{and_of, minus_of, or_of}
use Rattle.slot_board.specs.Board as board
use Rattle.slot_board.specs.Board.{Scene, set_at}
use Rattle.slot_board.specs.declared.board.Outcomes.TheVariants as Outcomes
use Rattle.slot_board.proofs.BoardSlots.{made_at}
use Rattle.plan_theory.specs.Layers.{must_lead}
use Rattle.task_core.specs.Tasks.{action_count}
use Rattle.context_plan.specs.Rounds.{first_lead, turn_by}
use Rattle.context_plan.specs.Scenes.{IsAt, IsGuarded, Moved, Start, board_of, led_inside, states_at, sys_in}
use Rattle.context_plan.specs.Sizes.{ClimbFits, ShareFits}
use Rattle.context_plan.specs.Steps.{Climbs, Shared}
use Rattle.context_plan.specs.declared.rounds.Way.TheVariants.{Growing}
use Rattle.context_plan.proofs.SceneSteps.{copied_states, low, moved_low, moved_other, moved_in, same_length}
use Rattle.context_plan.proofs.SizeSteps.{at_small, fits_minus, fits_rough, fits_small, lead_fits, may_four, may_three, placed_small, share_fits_as, small_same}
use Rattle.context_plan.proofs.TakerSteps.{climb_hit, climb_joined, climb_widened, share_joined, share_left, share_met}

-- the places of the actions' states, by the task's actions
pub within_now : (start : Start) (x : Scene) (takers : ℕ) → IsAt start x → takers + length x.0.actions ≤ length x.1 → takers + action_count start.task ≤ length x.1
within_now start x takers at within = let e : length x.0.actions ≡ action_count start.task = (made_at (board_of start) x.0 x.1 at).actions in omega arith

-- states are shared out
module _ (start : Start) (x w : Scene) (takers a : ℕ) (high : 8 ≤ takers) (long : takers + action_count start.task ≤ length w.1) (below : a < action_count start.task) (h : Shared start x w takers a)
    (fits : ShareFits start (states_at x 0) (states_at x 3) (λ k. states_at x (takers + k))) where
  pub share_leads : board.LeadFits (board_of start) Outcomes.Every a (set_at w.0.sets w.1 0)
  share_leads = lead_fits start w 0 a (states_at x 0) h.changed.ready h.near (fits.lead a below)

  pub share_meets : (one : Scene) → Moved start w one 2 (led_inside start w a) → board.Fits (board_of start) 2 (and_of (set_at one.0.sets one.1 3) (set_at one.0.sets one.1 2))
  share_meets one first =
      fits_small start 2 (and_of (set_at one.0.sets one.1 3) (set_at one.0.sets one.1 2)) (first_lead (sys_in start) (states_at x 0) (states_at x 3) a) (fits.first a below)
      (λ v is. sym (share_met start x w one takers a high long below h first v is))

  pub share_joins : (one two : Scene) → Moved start w one 2 (led_inside start w a) → Moved start one two 2 (and_of (set_at one.0.sets one.1 3) (set_at one.0.sets one.1 2))
      → board.Fits (board_of start) (takers + a) (or_of (set_at two.0.sets two.1 (takers + a)) (set_at two.0.sets two.1 2))
  share_joins one two first second =
      fits_small start (takers + a) (or_of (set_at two.0.sets two.1 (takers + a)) (set_at two.0.sets two.1 2)) (λ v. states_at x (takers + a) v || first_lead (sys_in start) (states_at x 0) (states_at x 3) a v) (fits.taken a below)
      (λ v is. sym (share_joined start x w one takers a high long below h first two second v is))

  pub share_leaves : (one two three : Scene) → Moved start w one 2 (led_inside start w a) → Moved start one two 2 (and_of (set_at one.0.sets one.1 3) (set_at one.0.sets one.1 2))
      → Moved start two three (takers + a) (or_of (set_at two.0.sets two.1 (takers + a)) (set_at two.0.sets two.1 2)) → board.Fits (board_of start) 3 (minus_of (set_at three.0.sets three.1 3) (set_at three.0.sets three.1 2))
  share_leaves one two three first second third =
      fits_rough start 3 (minus_of (set_at three.0.sets three.1 3) (set_at three.0.sets three.1 2)) (λ v. states_at x 3 v && not (list_any (must_lead (sys_in start) (states_at x 0) v) (range_with_len 0 (a + 1)))) may_three
      (fits.left (a + 1) (omega arith))
      (λ v is. sym (share_left start x w one takers a high long below h first two second three third v is))

-- a round is made in which the new states take their actions
module _ (start : Start) (x w : Scene) (takers a : ℕ) (high : 8 ≤ takers) (long : takers + action_count start.task ≤ length w.1) (below : a < action_count start.task) (h : Climbs start x w takers a)
    (fits : ClimbFits start (states_at x 0) (λ k. states_at x (takers + k))) where
  pub climb_leads : board.LeadFits (board_of start) Outcomes.Every a (set_at w.0.sets w.1 0)
  climb_leads = lead_fits start w 0 a (states_at x 0) h.changed.ready h.near (fits.round.lead a below)

  pub climb_leaves : (one : Scene) → Moved start w one 2 (led_inside start w a) → board.Fits (board_of start) 4 (minus_of (set_at one.0.sets one.1 2) (set_at one.0.sets one.1 1))
  climb_leaves one first =
      let ready = moved_in start w one 2 _ h.changed.ready (λ e. absurd (omega arith)) first in
      fits_minus start 4 (set_at one.0.sets one.1 2) (set_at one.0.sets one.1 1) may_four
      (at_small start one 2
      (small_same start (λ v. must_lead (sys_in start) (states_at x 0) v a) (states_at one 2) (λ v is. sym (climb_hit start x w one takers a high long below h first v is)) (fits.round.hits a below)))
      (placed_small start one ready.at 1 (low start one ready.at 1 (omega arith)) (inl (omega arith)))

  pub climb_joins : (one two : Scene) → Moved start w one 2 (led_inside start w a) → Moved start one two 4 (minus_of (set_at one.0.sets one.1 2) (set_at one.0.sets one.1 1))
      → board.Fits (board_of start) (takers + a) (or_of (set_at two.0.sets two.1 (takers + a)) (set_at two.0.sets two.1 4))
  climb_joins one two first second =
      fits_small start (takers + a) (or_of (set_at two.0.sets two.1 (takers + a)) (set_at two.0.sets two.1 4)) (λ v. states_at x (takers + a) v || first_lead (sys_in start) (states_at x 0) (λ u. not (states_at x 0 u)) a v) (fits.taken a below)
      (λ v is. sym (climb_joined start x w one takers a high long below h first two second v is))

  pub climb_widens : (one two three : Scene) → Moved start w one 2 (led_inside start w a) → Moved start one two 4 (minus_of (set_at one.0.sets one.1 2) (set_at one.0.sets one.1 1))
      → Moved start two three (takers + a) (or_of (set_at two.0.sets two.1 (takers + a)) (set_at two.0.sets two.1 4)) → board.Fits (board_of start) 1 (or_of (set_at three.0.sets three.1 1) (set_at three.0.sets three.1 2))
  climb_widens one two three first second third =
      fits_small start 1 (or_of (set_at three.0.sets three.1 1) (set_at three.0.sets three.1 2)) (turn_by Growing (sys_in start) (states_at x 0) (a + 1)) (fits.round.turned Growing (a + 1) (omega arith))
      (λ v is. sym (climb_widened start x w one takers a high long below h first two second three third v is))

-- the states of a place were copied
pub high_small : (start : Start) (x : Scene) (place : ℕ) → IsGuarded start x → 8 ≤ place → place < length x.1 → board.IsSmall (board_of start) (set_at x.0.sets x.1 place)
high_small start x place ready high within = placed_small start x ready.at place within (inr (omega arith))

pub high_again : (start : Start) (x m : Scene) (near rest : ℕ) → IsGuarded start x → 8 ≤ rest → rest < length x.1 → Moved start x m 0 (set_at x.0.sets x.1 near) → board.IsSmall (board_of start) (set_at m.0.sets m.1 rest)
high_again start x m near rest ready high within first =
    let same : length m.1 ≡ length x.1 = same_length start x m ready.at first.at in
    high_small start m rest (moved_in start x m 0 _ ready (λ e. absurd (omega arith)) first) high (omega arith)

pub share_copied : (start : Start) (x one two : Scene) (near rest takers : ℕ) → 8 ≤ near → 8 ≤ rest → near < takers → rest < takers → takers + action_count start.task ≤ length x.1 → IsGuarded start x
    → Moved start x one 0 (set_at x.0.sets x.1 near) → Moved start one two 3 (set_at one.0.sets one.1 rest) → ShareFits start (states_at x near) (states_at x rest) (λ k. states_at x (takers + k))
    → ShareFits start (states_at two 0) (states_at two 3) (λ k. states_at two (takers + k))
share_copied start x one two near rest takers high also apart beside long ready first second fits =
    let same : length one.1 ≡ length x.1 = same_length start x one ready.at first.at in
    let longer : length two.1 ≡ length x.1 = same_length start x two ready.at second.at in
    let near_is : states_at two 0 ≡ states_at x near = moved_low start one two 3 _ second 0 (omega arith) (λ e. absurd (omega arith)) ∙ copied_states start x one 0 near first in
    let rest_is : states_at two 3 ≡ states_at x rest = copied_states start one two 3 rest second ∙ moved_other start x one 0 _ first rest (omega arith) (λ e. absurd (omega arith)) in
    share_fits_as start (states_at x near) (states_at x rest) (states_at two 0) (states_at two 3) (λ k. states_at x (takers + k)) (λ k. states_at two (takers + k)) near_is rest_is
    (λ a below.
    moved_other start one two 3 _ second (takers + a) (omega arith) (λ e. absurd (omega arith))
    ∙ moved_other start x one 0 _ first (takers + a) (omega arith) (λ e. absurd (omega arith))) fits
