use Rattle.std.proofs.Common.{arith}
use Rattle.std.proofs.lemmas.Result.{err_from_is_err_and}
use Rattle.slot_board.proofs.BoardSlots.{went}
use Rattle.slot_board.proofs.Endings.{passed_on}
use Rattle.judge_sets.proofs.JudgeSteps.{grown_test, grown_told, part_grown}
use Rattle.judge_sets.proofs.StepFacts.{place_in, slot_in}
use Rattle.judge_sets.proofs.verdict.leads_to_end.Goals as goal

pub grow-requires-clause-ready : goal.grow-requires-clause-ready
grow-requires-clause-ready c = let r = c.requires.ready in (r.0, _, part_grown r.0 c.args.outcomes c.args.enc.now c.args.board.now.slots.items r.1)

pub grow-requires-clause-actions : goal.grow-requires-clause-actions
grow-requires-clause-actions c = c.requires.actions

pub returns-in_err-grow : goal.returns-in_err-grow
returns-in_err-grow c scene part =
    passed_on scene.start c.grow.new.enc c.grow.new.board.slots.items _ _ c.grow.result c.from_residual.result _ c.in_err-grow.was (err_from_is_err_and c.from_residual.result c.from_residual.ensures.1)
    (c.grow.ensures scene _ (part_grown scene c.args.outcomes c.args.enc.now c.args.board.now.slots.items part))

pub begin_well-requires-clause-working : goal.begin_well-requires-clause-working
begin_well-requires-clause-working c =
    let r = c.requires.ready in
    let all = went r.0.start c.grow.new.enc c.grow.new.board.slots.items _ c.grow.result _ c.in_ok-grow.was (c.grow.ensures r.0 _ (part_grown r.0 c.args.outcomes c.args.enc.now c.args.board.now.slots.items r.1)) in
    (r.0.start, all.has.by_steps.there.at)

pub begin_well-requires-clause-place : goal.begin_well-requires-clause-place
begin_well-requires-clause-place c =
    let r = c.requires.ready in
    let all = went r.0.start c.grow.new.enc c.grow.new.board.slots.items _ c.grow.result _ c.in_ok-grow.was (c.grow.ensures r.0 _ (part_grown r.0 c.args.outcomes c.args.enc.now c.args.board.now.slots.items r.1)) in
    slot_in r.0 c.grow.new.enc c.grow.new.board.slots.items all.has.by_steps.there 4 (place_in r.0 4 (omega arith))

pub returns : goal.returns
returns c scene part =
    let all = went scene.start c.grow.new.enc c.grow.new.board.slots.items _ c.grow.result _ c.in_ok-grow.was (c.grow.ensures scene _ (part_grown scene c.args.outcomes c.args.enc.now c.args.board.now.slots.items part)) in
    grown_told scene c.args.outcomes c.grow.new.enc c.begin_well.new.enc c.grow.new.board.slots.items all c.begin_well.result
    (c.begin_well.ensures.left scene.start all.has.by_steps.there.at (grown_test scene c.args.outcomes c.grow.new.enc c.grow.new.board.slots.items all))
    (c.begin_well.ensures.answer scene.start all.has.by_steps.there.at)
