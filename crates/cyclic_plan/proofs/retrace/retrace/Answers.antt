-- The goal states first, then step by step.
use Rattle.std.proofs.Common.{◌≡◌, ◌∙◌, ◌+◌, arith, drop, length, subst, sym}
use Rattle.std.proofs.lemmas.List.{drop_all, drop_more}
use Rattle.std.proofs.lemmas.Result.{err_from_is_err_and}
use Rattle.task_core.specs.Tasks.{action_count}
use Rattle.slot_board.specs.Board.{Fits}
use Rattle.slot_board.proofs.BoardSlots.{passed, same_actions, went}
use Rattle.cyclic_plan.specs.Stages.{none_taken}
use Rattle.cyclic_plan.specs.Steps.{RetracedOn}
use Rattle.slot_board.specs.declared.steps.Step.TheVariants.{Grow}
use Rattle.cyclic_plan.proofs.Followed.{retraced_all, retraced_first}
use Rattle.cyclic_plan.proofs.Premises.{copy_goal}
use Rattle.cyclic_plan.proofs.retrace.retrace.Goals as goal

pub copy_of-requires-clause-working : goal.copy_of-requires-clause-working
copy_of-requires-clause-working c = let r = c.requires.ready in (r.0, r.3.round.at)

pub copy_of-requires-clause-place : goal.copy_of-requires-clause-place
copy_of-requires-clause-place c =
    let h = c.requires.ready.3.round in
    let e : length c.args.board.now.slots.items ≡ 7 + action_count c.requires.ready.0.task + action_count c.requires.ready.0.task = h.at.long ∙ h.places in
    omega arith

pub copy_of-requires-clause-from : goal.copy_of-requires-clause-from
copy_of-requires-clause-from c =
    let h = c.requires.ready.3.round in
    let e : length c.args.board.now.slots.items ≡ 7 + action_count c.requires.ready.0.task + action_count c.requires.ready.0.task = h.at.long ∙ h.places in
    omega arith

pub returns-in_err-copy_of : goal.returns-in_err-copy_of
returns-in_err-copy_of c start left near ready small follows =
    let p = err_from_is_err_and c.from_residual.result c.from_residual.ensures.1 in
    passed start c.copy_of.new.enc c.copy_of.new.self.slots.items _ _ c.copy_of.result c.from_residual.result _ c.in_err-copy_of.was p (c.copy_of.ensures start ready.round.at (copy_goal start c.args.enc.now c.args.board.now.slots.items left none_taken ready.round 3))

pub copy_of-requires-2-clause-working : goal.copy_of-requires-2-clause-working
copy_of-requires-2-clause-working c =
    let r = c.requires.ready in
    (r.0, (went r.0 c.copy_of.new.enc c.copy_of.new.self.slots.items _ c.copy_of.result _ c.in_ok-copy_of.was (c.copy_of.ensures r.0 r.3.round.at (copy_goal r.0 c.args.enc.now c.args.board.now.slots.items r.1 none_taken r.3.round 3))).at)

pub copy_of-requires-2-clause-place : goal.copy_of-requires-2-clause-place
copy_of-requires-2-clause-place c =
    let r = c.requires.ready in
    let m = went r.0 c.copy_of.new.enc c.copy_of.new.self.slots.items _ c.copy_of.result _ c.in_ok-copy_of.was (c.copy_of.ensures r.0 r.3.round.at (copy_goal r.0 c.args.enc.now c.args.board.now.slots.items r.1 none_taken r.3.round 3)) in
    let e : length c.copy_of.new.self.slots.items ≡ 7 + action_count r.0.task + action_count r.0.task = m.at.long ∙ r.3.round.places in
    omega arith

pub copy_of-requires-2-clause-from : goal.copy_of-requires-2-clause-from
copy_of-requires-2-clause-from c =
    let r = c.requires.ready in
    let m = went r.0 c.copy_of.new.enc c.copy_of.new.self.slots.items _ c.copy_of.result _ c.in_ok-copy_of.was (c.copy_of.ensures r.0 r.3.round.at (copy_goal r.0 c.args.enc.now c.args.board.now.slots.items r.1 none_taken r.3.round 3)) in
    let e : length c.copy_of.new.self.slots.items ≡ 7 + action_count r.0.task + action_count r.0.task = m.at.long ∙ r.3.round.places in
    omega arith

pub returns-in_err-copy_of-2 : goal.returns-in_err-copy_of-2
returns-in_err-copy_of-2 c start left near ready small follows =
    let p = err_from_is_err_and c.from_residual-in_err-copy_of-2.result c.from_residual-in_err-copy_of-2.ensures.1 in
    let m = went start c.copy_of.new.enc c.copy_of.new.self.slots.items _ c.copy_of.result _ c.in_ok-copy_of.was (c.copy_of.ensures start ready.round.at (copy_goal start c.args.enc.now c.args.board.now.slots.items left none_taken ready.round 3)) in
    passed start c.copy_of-2.new.enc c.copy_of-2.new.self.slots.items _ _ c.copy_of-2.result c.from_residual-in_err-copy_of-2.result _ c.in_err-copy_of-2.was p (c.copy_of-2.ensures start m.at (subst (Fits start 4) (sym m.here) (copy_goal start c.args.enc.now c.args.board.now.slots.items left none_taken ready.round 4)))

pub loop-step-init : goal.loop-step-init
loop-step-init c start left near ready small follows =
    let m = went start c.copy_of.new.enc c.copy_of.new.self.slots.items _ c.copy_of.result _ c.in_ok-copy_of.was (c.copy_of.ensures start ready.round.at (copy_goal start c.args.enc.now c.args.board.now.slots.items left none_taken ready.round 3)) in
    let w = went start c.copy_of-2.new.enc c.copy_of-2.new.self.slots.items _ c.copy_of-2.result _ c.in_ok-copy_of-2.was (c.copy_of-2.ensures start m.at (subst (Fits start 4) (sym m.here) (copy_goal start c.args.enc.now c.args.board.now.slots.items left none_taken ready.round 4))) in
    retraced_first start c.args.enc.now c.copy_of.new.enc c.copy_of-2.new.enc c.args.board.now.slots.items c.copy_of.new.self.slots.items c.copy_of-2.new.self.slots.items left near c.args.steps.now ready m w follows

pub retrace_step-requires-clause-ready : goal.retrace_step-requires-clause-ready
retrace_step-requires-clause-ready c =
    let r = c.requires.ready in
    let more = drop_more c.args.steps.now c.loop-step.step-index (Grow (record { 0 = 0 })) c.loop-step-test.true in
    let k = subst (RetracedOn r.0 c.loop-step.enc c.loop-step.board.slots.items r.1) more (c.loop-step.invariant r.0 r.1 r.2 r.3 r.4 r.5) in
    (r.0, r.1, k.0, k.1, drop (c.loop-step.step-index + 1) c.args.steps.now, k.2, r.4)

pub retrace_step-requires-clause-actions : goal.retrace_step-requires-clause-actions
retrace_step-requires-clause-actions c =
    let r = c.requires.ready in
    let e : length c.loop-step.enc.actions ≡ length c.args.enc.now.actions = same_actions r.0 c.args.enc.now c.loop-step.enc c.args.board.now.slots.items c.loop-step.board.slots.items r.3.round.at (c.loop-step.invariant r.0 r.1 r.2 r.3 r.4 r.5).2.by_next.by_near.round.at in
    omega (arith, c.requires.actions)

pub returns-in_err-retrace_step : goal.returns-in_err-retrace_step
returns-in_err-retrace_step c start left near ready small follows =
    let p = err_from_is_err_and c.from_residual-in_err-retrace_step.result c.from_residual-in_err-retrace_step.ensures.1 in
    let more = drop_more c.args.steps.now c.loop-step.step-index (Grow (record { 0 = 0 })) c.loop-step-test.true in
    let k = subst (RetracedOn start c.loop-step.enc c.loop-step.board.slots.items left) more (c.loop-step.invariant start left near ready small follows) in
    passed start c.retrace_step.new.enc c.retrace_step.new.board.slots.items _ _ c.retrace_step.result c.from_residual-in_err-retrace_step.result _ c.in_err-retrace_step.was p (c.retrace_step.ensures start left k.0 k.1 (drop (c.loop-step.step-index + 1) c.args.steps.now) k.2 small)

pub loop-step-preserved : goal.loop-step-preserved
loop-step-preserved c start left near ready small follows =
    let more = drop_more c.args.steps.now c.loop-step.step-index (Grow (record { 0 = 0 })) c.loop-step-test.true in
    let k = subst (RetracedOn start c.loop-step.enc c.loop-step.board.slots.items left) more (c.loop-step.invariant start left near ready small follows) in
    went start c.retrace_step.new.enc c.retrace_step.new.board.slots.items _ c.retrace_step.result _ c.in_ok-retrace_step.was (c.retrace_step.ensures start left k.0 k.1 (drop (c.loop-step.step-index + 1) c.args.steps.now) k.2 small)

pub returns : goal.returns
returns c start left near ready small follows =
    retraced_all start c.loop-step.enc c.loop-step.board.slots.items left
    (subst (RetracedOn start c.loop-step.enc c.loop-step.board.slots.items left) (drop_all c.loop-step.step-index c.args.steps.now (omega (arith, c.loop-step-test.false))) (c.loop-step.invariant start left near ready small follows))
