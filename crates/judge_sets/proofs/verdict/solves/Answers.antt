use Rattle.std.proofs.Common.{◌≡◌, ◌∙◌, arith, length, sym}
use Rattle.std.proofs.lemmas.Result.{err_from_is_err_and}
use Rattle.slot_board.proofs.BoardSlots.{same_actions}
use Rattle.slot_board.proofs.Endings.{found_of, passed_on}
use Rattle.judge_sets.proofs.JudgeSteps.{not_told, told_of}
use Rattle.judge_sets.proofs.verdict.solves.Goals as goal

pub leads_to_end-requires-clause-ready : goal.leads_to_end-requires-clause-ready
leads_to_end-requires-clause-ready c = c.requires.ready

pub leads_to_end-requires-clause-actions : goal.leads_to_end-requires-clause-actions
leads_to_end-requires-clause-actions c = c.requires.actions

pub returns-in_err-leads_to_end : goal.returns-in_err-leads_to_end
returns-in_err-leads_to_end c scene part =
    passed_on scene.start c.leads_to_end.new.enc c.leads_to_end.new.board.slots.items _ _ c.leads_to_end.result c.from_residual.result _ c.in_err-leads_to_end.was (err_from_is_err_and c.from_residual.result c.from_residual.ensures.1) (c.leads_to_end.ensures scene part)

pub returns-then-not-branch : goal.returns-then-not-branch
returns-then-not-branch c scene part =
    let told = told_of scene c.args.class c.outcomes_of-outcomes.result c.outcomes_of-outcomes.ensures c.leads_to_end.new.enc c.leads_to_end.new.board.slots.items _
    (found_of scene.start c.leads_to_end.new.enc c.leads_to_end.new.board.slots.items _ c.leads_to_end.result _ c.in_ok-leads_to_end.was (c.leads_to_end.ensures scene part)) in
    (told.grown.has.by_steps, not_told scene c.leads_to_end.new.enc c.leads_to_end.new.board.slots.items c.args.class told.grown (sym told.is ∙ (let h = c.if-not-branch.true in cc)))

pub keeps_on-requires-clause-ready : goal.keeps_on-requires-clause-ready
keeps_on-requires-clause-ready c =
    let r = c.requires.ready in
    let told = told_of r.0 c.args.class c.outcomes_of-outcomes.result c.outcomes_of-outcomes.ensures c.leads_to_end.new.enc c.leads_to_end.new.board.slots.items _
    (found_of r.0.start c.leads_to_end.new.enc c.leads_to_end.new.board.slots.items _ c.leads_to_end.result _ c.in_ok-leads_to_end.was (c.leads_to_end.ensures r.0 r.1)) in
    (r.0, told.grown, sym told.is ∙ (let h = c.if-not-branch.false in cc))

pub keeps_on-requires-clause-actions : goal.keeps_on-requires-clause-actions
keeps_on-requires-clause-actions c =
    let r = c.requires.ready in
    let told = told_of r.0 c.args.class c.outcomes_of-outcomes.result c.outcomes_of-outcomes.ensures c.leads_to_end.new.enc c.leads_to_end.new.board.slots.items _
    (found_of r.0.start c.leads_to_end.new.enc c.leads_to_end.new.board.slots.items _ c.leads_to_end.result _ c.in_ok-leads_to_end.was (c.leads_to_end.ensures r.0 r.1)) in
    let e : length c.leads_to_end.new.enc.actions ≡ length c.args.enc.now.actions = same_actions r.0.start c.args.enc.now c.leads_to_end.new.enc c.args.board.now.slots.items c.leads_to_end.new.board.slots.items r.1.there.at told.grown.has.by_steps.there.at in
    omega (arith, c.requires.actions)

pub returns : goal.returns
returns c scene part =
    let told = told_of scene c.args.class c.outcomes_of-outcomes.result c.outcomes_of-outcomes.ensures c.leads_to_end.new.enc c.leads_to_end.new.board.slots.items _
    (found_of scene.start c.leads_to_end.new.enc c.leads_to_end.new.board.slots.items _ c.leads_to_end.result _ c.in_ok-leads_to_end.was (c.leads_to_end.ensures scene part)) in
    c.keeps_on.ensures scene told.grown (sym told.is ∙ (let h = c.if-not-branch.false in cc))
