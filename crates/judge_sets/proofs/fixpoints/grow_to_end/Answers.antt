use Rattle.std.proofs.Common.{◌≡◌, arith, length, true≢false}
use Rattle.std.proofs.lemmas.Result.{err_from_is_err_and}
use Rattle.task_core.specs.Tasks.{action_count}
use Rattle.slot_board.proofs.BoardSlots.{same_actions, same_fluents}
use Rattle.slot_board.proofs.Endings.{found_of, passed_on}
use Rattle.judge_sets.proofs.GrowSteps.{grow_less}
use Rattle.judge_sets.proofs.fixpoints.grow_to_end.Goals as goal

pub loop-grew-init : goal.loop-grew-init
loop-grew-init c scene set has = (set, has, λ e. absurd (true≢false e))

pub grow_once-requires-clause-ready : goal.grow_once-requires-clause-ready
grow_once-requires-clause-ready c = let r = c.requires.ready in let k = c.loop-grew.invariant r.0 r.1 r.2 in (r.0, k.0, k.1)

pub grow_once-requires-clause-actions : goal.grow_once-requires-clause-actions
grow_once-requires-clause-actions c =
    let r = c.requires.ready in
    let e : length c.loop-grew.enc.actions ≡ length c.args.enc.now.actions = same_actions r.0.start c.args.enc.now c.loop-grew.enc c.args.board.now.slots.items c.loop-grew.board.slots.items r.2.by_steps.there.at (c.loop-grew.invariant r.0 r.1 r.2).1.by_steps.there.at in
    omega (arith, c.requires.actions)

pub returns-in_err-grew : goal.returns-in_err-grew
returns-in_err-grew c scene set has =
    let k = c.loop-grew.invariant scene set has in
    passed_on scene.start c.grow_once.new.enc c.grow_once.new.board.slots.items _ _ c.grow_once.result c.from_residual.result _ c.in_err-grew.was (err_from_is_err_and c.from_residual.result c.from_residual.ensures.1) (c.grow_once.ensures scene k.0 k.1)

pub loop-grew-smaller : goal.loop-grew-smaller
loop-grew-smaller c =
    let r = c.requires.ready in
    let k = c.loop-grew.invariant r.0 r.1 r.2 in
    let after = found_of r.0.start c.grow_once.new.enc c.grow_once.new.board.slots.items _ c.grow_once.result _ c.in_ok-grew.was (c.grow_once.ensures r.0 k.0 k.1) in
    grow_less r.0 c.args.outcomes c.loop-grew.enc c.grow_once.new.enc c.loop-grew.board.slots.items c.grow_once.new.board.slots.items k.0 (action_count r.0.start.task) c.args.enc.now.fluents c.loop-grew.grew c.in_ok-grew.grew
    (same_fluents r.0.start c.args.enc.now c.args.board.now.slots.items r.2.by_steps.there.at) c.loop-grew-test.true k.1 after

pub loop-grew-preserved : goal.loop-grew-preserved
loop-grew-preserved c scene set has =
    let k = c.loop-grew.invariant scene set has in
    let after = found_of scene.start c.grow_once.new.enc c.grow_once.new.board.slots.items _ c.grow_once.result _ c.in_ok-grew.was (c.grow_once.ensures scene k.0 k.1) in
    (after.set, after.has, λ e. (after.same e).1)

pub returns : goal.returns
returns c scene set has = let k = c.loop-grew.invariant scene set has in record { set = k.0; has = k.1; none = k.2 c.loop-grew-test.false }
