use Rattle.std.proofs.Common.{◌∙◌, arith, sym}
use Rattle.std.proofs.lemmas.Result.{err_from_is_err_and}
use Rattle.slot_board.specs.Board.{set_at}
use Rattle.slot_board.proofs.BoardSlots.{left_with, passed, went}
use Rattle.board_steps.proofs.StepLemmas.{shows_moved}
use Rattle.judge_sets.proofs.SettleSteps.{begin_can, begin_made, goal_fits, goal_now}
use Rattle.judge_sets.proofs.StepFacts.{place_in, shown, slot_in}
use Rattle.judge_sets.proofs.settling.begin.Goals as goal

pub put_goal-requires-clause-working : goal.put_goal-requires-clause-working
put_goal-requires-clause-working c = let r = c.requires.ready in (r.0.start, r.1.there.at)

pub put_goal-requires-clause-place : goal.put_goal-requires-clause-place
put_goal-requires-clause-place c =
    let r = c.requires.ready in
    slot_in r.0 c.args.enc.now c.args.board.now.slots.items r.1.there 4 (place_in r.0 4 (omega arith))

pub put_goal-requires-clause-live : goal.put_goal-requires-clause-live
put_goal-requires-clause-live c =
    let r = c.requires.ready in
    (goal_now r.0 c.unwrap-goal.result c.args.enc.now c.args.board.now.slots.items r.1 (sym c.goal.ensures ∙ c.unwrap-goal.ensures)).0

pub returns-in_err-put_goal : goal.returns-in_err-put_goal
returns-in_err-put_goal c scene has =
    let enc = c.args.enc.now in
    let slots = c.args.board.now.slots.items in
    passed scene.start c.put_goal.new.enc c.put_goal.new.board.slots.items _ _ c.put_goal.result c.from_residual.result _ c.in_err-put_goal.was (err_from_is_err_and c.from_residual.result c.from_residual.ensures.1)
    (c.put_goal.ensures scene.start has.there.at (goal_fits scene c.unwrap-goal.result enc slots has (sym c.goal.ensures ∙ c.unwrap-goal.ensures)))

pub make_all-requires : goal.make_all-requires
make_all-requires c =
    let r = c.requires.ready in
    let enc = c.args.enc.now in
    let slots = c.args.board.now.slots.items in
    let is = sym c.goal.ensures ∙ c.unwrap-goal.ensures in
    let moved = went r.0.start c.put_goal.new.enc c.put_goal.new.board.slots.items _ c.put_goal.result _ c.in_ok-put_goal.was (c.put_goal.ensures r.0.start r.1.there.at (goal_fits r.0 c.unwrap-goal.result enc slots r.1 is)) in (
      r.0.start,
      _,
      shows_moved r.0.start enc c.put_goal.new.enc slots c.put_goal.new.board.slots.items (set_at enc.sets slots) 4 _ (shown r.0 enc slots r.1.there) moved,
      begin_can r.0 c.unwrap-goal.result enc slots r.1 is,
    )

pub returns : goal.returns
returns c scene has =
    let enc = c.args.enc.now in
    let slots = c.args.board.now.slots.items in
    let is = sym c.goal.ensures ∙ c.unwrap-goal.ensures in
    let moved = went scene.start c.put_goal.new.enc c.put_goal.new.board.slots.items _ c.put_goal.result _ c.in_ok-put_goal.was (c.put_goal.ensures scene.start has.there.at (goal_fits scene c.unwrap-goal.result enc slots has is)) in
    left_with scene.start c.make_all.new.enc c.make_all.new.board.slots.items _ _ c.make_all.result
    (λ shows. begin_made scene c.unwrap-goal.result enc slots has is c.make_all.new.enc c.make_all.new.board.slots.items shows)
    (c.make_all.ensures scene.start _ (shows_moved scene.start enc c.put_goal.new.enc slots c.put_goal.new.board.slots.items (set_at enc.sets slots) 4 _ (shown scene enc slots has.there) moved) (begin_can scene c.unwrap-goal.result enc slots has is))
