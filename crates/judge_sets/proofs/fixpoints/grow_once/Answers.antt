use Rattle.std.proofs.Common.{◌≡◌, ℕ, arith, length, subst}
use Rattle.std.proofs.lemmas.Result.{err_from_is_err_and}
use Rattle.task_core.specs.Tasks.{action_count}
use Rattle.slot_board.proofs.BoardSlots.{made_at, same_actions}
use Rattle.slot_board.proofs.Endings.{found_of, passed_on}
use Rattle.judge_sets.specs.Places.{HasGained}
use Rattle.judge_sets.proofs.GrowSteps.{gained_more, gained_none}
use Rattle.judge_sets.proofs.fixpoints.grow_once.Goals as goal

pub loop-a-init : goal.loop-a-init
loop-a-init c scene set has = gained_none scene c.args.outcomes c.args.enc.now c.args.board.now.slots.items set has

pub grow_by-requires-clause-ready : goal.grow_by-requires-clause-ready
grow_by-requires-clause-ready c = let r = c.requires.ready in let half = c.loop-a.invariant r.0 r.1 r.2 in (r.0, half.set, half.has)

pub grow_by-requires-clause-action : goal.grow_by-requires-clause-action
grow_by-requires-clause-action c =
    let r = c.requires.ready in
    let e : length c.loop-a.enc.actions ≡ length c.args.enc.now.actions = same_actions r.0.start c.args.enc.now c.loop-a.enc c.args.board.now.slots.items c.loop-a.board.slots.items r.2.by_steps.there.at (c.loop-a.invariant r.0 r.1 r.2).has.by_steps.there.at in
    omega (arith, c.requires.actions)

pub returns-in_err-gained : goal.returns-in_err-gained
returns-in_err-gained c scene set has =
    let half = c.loop-a.invariant scene set has in
    passed_on scene.start c.grow_by.new.enc c.grow_by.new.board.slots.items _ _ c.grow_by.result c.from_residual.result _ c.in_err-gained.was (err_from_is_err_and c.from_residual.result c.from_residual.ensures.1) (c.grow_by.ensures scene half.set half.has)

pub loop-a-preserved : goal.loop-a-preserved
loop-a-preserved c scene set has =
    let half = c.loop-a.invariant scene set has in
    gained_more scene c.args.outcomes c.loop-a.enc c.grow_by.new.enc c.loop-a.board.slots.items c.grow_by.new.board.slots.items set c.loop-a.a c.loop-a.grew c.in_ok-gained.gained c.either-grew.result c.either-grew.ensures half
    (found_of scene.start c.grow_by.new.enc c.grow_by.new.board.slots.items _ c.grow_by.result _ c.in_ok-gained.was (c.grow_by.ensures scene half.set half.has))

pub returns : goal.returns
returns c scene set has =
    let e : length c.args.enc.now.actions ≡ action_count scene.start.task = (made_at scene.start c.args.enc.now c.args.board.now.slots.items has.by_steps.there.at).actions in
    let n : c.loop-a.a ≡ action_count scene.start.task = omega (arith, c.requires.actions) in
    subst (λ (k : ℕ). HasGained scene c.args.outcomes c.loop-a.enc c.loop-a.board.slots.items set k c.loop-a.grew) n (c.loop-a.invariant scene set has)
