use Rattle.std.proofs.Common.{◌≡◌, arith, length}
use Rattle.std.proofs.lemmas.Result.{err_from_is_err_and}
use Rattle.slot_board.specs.Board.{set_at}
use Rattle.slot_board.proofs.BoardSlots.{same_actions, went}
use Rattle.slot_board.proofs.Endings.{passed_on}
use Rattle.judge_sets.proofs.JudgeSteps.{copy_can, copy_made, shrunk_test, shrunk_told}
use Rattle.judge_sets.proofs.StepFacts.{place_in, shown, slot_in}
use Rattle.judge_sets.proofs.verdict.stays_in.Goals as goal

pub make_all-requires : goal.make_all-requires
make_all-requires c =
    let r = c.requires.ready in
    let enc = c.args.enc.now in
    let slots = c.args.board.now.slots.items in
    (r.0.start, set_at enc.sets slots, shown r.0 enc slots r.2.there, copy_can r.0 r.1 c.args.place enc slots r.2 r.3 r.4 c.requires.place)

pub returns-in_err-make_all : goal.returns-in_err-make_all
returns-in_err-make_all c scene from has begin is =
    let enc = c.args.enc.now in
    let slots = c.args.board.now.slots.items in
    passed_on scene.start c.make_all.new.enc c.make_all.new.board.slots.items _ _ c.make_all.result c.from_residual.result _ c.in_err-make_all.was (err_from_is_err_and c.from_residual.result c.from_residual.ensures.1)
    (c.make_all.ensures scene.start (set_at enc.sets slots) (shown scene enc slots has.there) (copy_can scene from c.args.place enc slots has begin is c.requires.place))

pub shrink-requires-clause-ready : goal.shrink-requires-clause-ready
shrink-requires-clause-ready c =
    let r = c.requires.ready in
    let enc = c.args.enc.now in
    let slots = c.args.board.now.slots.items in
    let done = went r.0.start c.make_all.new.enc c.make_all.new.board.slots.items _ c.make_all.result _ c.in_ok-make_all.was (c.make_all.ensures r.0.start (set_at enc.sets slots) (shown r.0 enc slots r.2.there) (copy_can r.0 r.1 c.args.place enc slots r.2 r.3 r.4 c.requires.place)) in
    (r.0, r.1, r.1, copy_made r.0 r.1 c.args.place enc slots r.2 r.3 r.4 c.requires.place c.make_all.new.enc c.make_all.new.board.slots.items done)

pub shrink-requires-clause-actions : goal.shrink-requires-clause-actions
shrink-requires-clause-actions c =
    let r = c.requires.ready in
    let enc = c.args.enc.now in
    let slots = c.args.board.now.slots.items in
    let done = went r.0.start c.make_all.new.enc c.make_all.new.board.slots.items _ c.make_all.result _ c.in_ok-make_all.was (c.make_all.ensures r.0.start (set_at enc.sets slots) (shown r.0 enc slots r.2.there) (copy_can r.0 r.1 c.args.place enc slots r.2 r.3 r.4 c.requires.place)) in
    let e : length c.make_all.new.enc.actions ≡ length c.args.enc.now.actions = same_actions r.0.start c.args.enc.now c.make_all.new.enc c.args.board.now.slots.items c.make_all.new.board.slots.items r.2.there.at done.at in
    omega (arith, c.requires.actions)

pub returns-in_err-shrink : goal.returns-in_err-shrink
returns-in_err-shrink c scene from has begin is =
    let enc = c.args.enc.now in
    let slots = c.args.board.now.slots.items in
    let done = went scene.start c.make_all.new.enc c.make_all.new.board.slots.items _ c.make_all.result _ c.in_ok-make_all.was (c.make_all.ensures scene.start (set_at enc.sets slots) (shown scene enc slots has.there) (copy_can scene from c.args.place enc slots has begin is c.requires.place)) in
    passed_on scene.start c.shrink.new.enc c.shrink.new.board.slots.items _ _ c.shrink.result c.from_residual-in_err-shrink.result _ c.in_err-shrink.was (err_from_is_err_and c.from_residual-in_err-shrink.result c.from_residual-in_err-shrink.ensures.1)
    (c.shrink.ensures scene from from (copy_made scene from c.args.place enc slots has begin is c.requires.place c.make_all.new.enc c.make_all.new.board.slots.items done))

pub covers_initial-requires-clause-working : goal.covers_initial-requires-clause-working
covers_initial-requires-clause-working c =
    let r = c.requires.ready in
    let enc = c.args.enc.now in
    let slots = c.args.board.now.slots.items in
    let done = went r.0.start c.make_all.new.enc c.make_all.new.board.slots.items _ c.make_all.result _ c.in_ok-make_all.was (c.make_all.ensures r.0.start (set_at enc.sets slots) (shown r.0 enc slots r.2.there) (copy_can r.0 r.1 c.args.place enc slots r.2 r.3 r.4 c.requires.place)) in
    let all = went r.0.start c.shrink.new.enc c.shrink.new.board.slots.items _ c.shrink.result _ c.in_ok-shrink.was (c.shrink.ensures r.0 r.1 r.1 (copy_made r.0 r.1 c.args.place enc slots r.2 r.3 r.4 c.requires.place c.make_all.new.enc c.make_all.new.board.slots.items done)) in
    (r.0.start, all.has.by_steps.there.at)

pub covers_initial-requires-clause-place : goal.covers_initial-requires-clause-place
covers_initial-requires-clause-place c =
    let r = c.requires.ready in
    let enc = c.args.enc.now in
    let slots = c.args.board.now.slots.items in
    let done = went r.0.start c.make_all.new.enc c.make_all.new.board.slots.items _ c.make_all.result _ c.in_ok-make_all.was (c.make_all.ensures r.0.start (set_at enc.sets slots) (shown r.0 enc slots r.2.there) (copy_can r.0 r.1 c.args.place enc slots r.2 r.3 r.4 c.requires.place)) in
    let all = went r.0.start c.shrink.new.enc c.shrink.new.board.slots.items _ c.shrink.result _ c.in_ok-shrink.was (c.shrink.ensures r.0 r.1 r.1 (copy_made r.0 r.1 c.args.place enc slots r.2 r.3 r.4 c.requires.place c.make_all.new.enc c.make_all.new.board.slots.items done)) in
    slot_in r.0 c.shrink.new.enc c.shrink.new.board.slots.items all.has.by_steps.there 6 (place_in r.0 6 (omega arith))

pub returns : goal.returns
returns c scene from has begin is =
    let enc = c.args.enc.now in
    let slots = c.args.board.now.slots.items in
    let done = went scene.start c.make_all.new.enc c.make_all.new.board.slots.items _ c.make_all.result _ c.in_ok-make_all.was (c.make_all.ensures scene.start (set_at enc.sets slots) (shown scene enc slots has.there) (copy_can scene from c.args.place enc slots has begin is c.requires.place)) in
    let all = went scene.start c.shrink.new.enc c.shrink.new.board.slots.items _ c.shrink.result _ c.in_ok-shrink.was (c.shrink.ensures scene from from (copy_made scene from c.args.place enc slots has begin is c.requires.place c.make_all.new.enc c.make_all.new.board.slots.items done)) in
    shrunk_told scene c.shrink.new.enc c.covers_initial.new.enc c.shrink.new.board.slots.items from all c.covers_initial.result
    (c.covers_initial.ensures.left scene.start all.has.by_steps.there.at (shrunk_test scene c.shrink.new.enc c.shrink.new.board.slots.items from all))
    (c.covers_initial.ensures.answer scene.start all.has.by_steps.there.at)
