use Rattle.std.proofs.Common.{arith}
use Rattle.std.proofs.lemmas.Result.{err_from_is_err_and}
use Rattle.slot_board.specs.Board.{set_at}
use Rattle.slot_board.proofs.BoardSlots.{action_within, went}
use Rattle.slot_board.proofs.Endings.{passed_on}
use Rattle.judge_sets.proofs.GrowSteps.{hits_can, hits_told}
use Rattle.judge_sets.proofs.StepFacts.{place_in, shown, slot_in}
use Rattle.judge_sets.proofs.fixpoints.find_hits.Goals as goal

pub make_all-requires : goal.make_all-requires
make_all-requires c =
    let r = c.requires.ready in
    let enc = c.args.enc.now in
    let slots = c.args.board.now.slots.items in
    let low = action_within r.0.start enc slots c.args.a.0 r.2.has.by_steps.there.at c.requires.action in
    (r.0.start, set_at enc.sets slots, shown r.0 enc slots r.2.has.by_steps.there, hits_can r.0 c.args.outcomes r.1 c.args.a enc slots r.2 low)

pub returns-in_err-make_all : goal.returns-in_err-make_all
returns-in_err-make_all c scene set by =
    let enc = c.args.enc.now in
    let slots = c.args.board.now.slots.items in
    let low = action_within scene.start enc slots c.args.a.0 by.has.by_steps.there.at c.requires.action in
    passed_on scene.start c.make_all.new.enc c.make_all.new.board.slots.items _ _ c.make_all.result c.from_residual.result _ c.in_err-make_all.was (err_from_is_err_and c.from_residual.result c.from_residual.ensures.1)
    (c.make_all.ensures scene.start (set_at enc.sets slots) (shown scene enc slots by.has.by_steps.there) (hits_can scene c.args.outcomes set c.args.a enc slots by low))

pub is_empty-requires-clause-working : goal.is_empty-requires-clause-working
is_empty-requires-clause-working c =
    let r = c.requires.ready in
    let enc = c.args.enc.now in
    let slots = c.args.board.now.slots.items in
    let low = action_within r.0.start enc slots c.args.a.0 r.2.has.by_steps.there.at c.requires.action in
    let done = went r.0.start c.make_all.new.enc c.make_all.new.board.slots.items _ c.make_all.result _ c.in_ok-make_all.was (c.make_all.ensures r.0.start (set_at enc.sets slots) (shown r.0 enc slots r.2.has.by_steps.there) (hits_can r.0 c.args.outcomes r.1 c.args.a enc slots r.2 low)) in
    (r.0.start, done.at)

pub is_empty-requires-clause-place : goal.is_empty-requires-clause-place
is_empty-requires-clause-place c =
    let r = c.requires.ready in
    let enc = c.args.enc.now in
    let slots = c.args.board.now.slots.items in
    let low = action_within r.0.start enc slots c.args.a.0 r.2.has.by_steps.there.at c.requires.action in
    let done = went r.0.start c.make_all.new.enc c.make_all.new.board.slots.items _ c.make_all.result _ c.in_ok-make_all.was (c.make_all.ensures r.0.start (set_at enc.sets slots) (shown r.0 enc slots r.2.has.by_steps.there) (hits_can r.0 c.args.outcomes r.1 c.args.a enc slots r.2 low)) in
    slot_in r.0 c.make_all.new.enc c.make_all.new.board.slots.items (record { at = done.at; sound = done.sound }) 3 (place_in r.0 3 (omega arith))

pub returns : goal.returns
returns c scene set by =
    let enc = c.args.enc.now in
    let slots = c.args.board.now.slots.items in
    let low = action_within scene.start enc slots c.args.a.0 by.has.by_steps.there.at c.requires.action in
    let done = went scene.start c.make_all.new.enc c.make_all.new.board.slots.items _ c.make_all.result _ c.in_ok-make_all.was (c.make_all.ensures scene.start (set_at enc.sets slots) (shown scene enc slots by.has.by_steps.there) (hits_can scene c.args.outcomes set c.args.a enc slots by low)) in
    hits_told scene c.args.outcomes set c.args.a enc slots by low c.make_all.new.enc c.make_all.new.board.slots.items done c.is_empty.result c.is_empty.ensures
