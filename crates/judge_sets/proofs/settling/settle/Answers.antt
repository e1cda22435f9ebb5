use Rattle.std.proofs.Common.{◌≡◌, ℕ, arith, length, subst}
use Rattle.std.proofs.lemmas.Result.{err_from_is_err_and}
use Rattle.task_core.specs.Tasks.{action_count}
use Rattle.slot_board.proofs.BoardSlots.{made_at, passed, same_actions, went}
use Rattle.judge_sets.specs.Places.{HasPart}
use Rattle.judge_sets.proofs.settling.settle.Goals as goal

pub begin-requires-clause-ready : goal.begin-requires-clause-ready
begin-requires-clause-ready c = c.requires.ready

pub returns-in_err-begin : goal.returns-in_err-begin
returns-in_err-begin c scene has =
    passed scene.start c.begin.new.enc c.begin.new.board.slots.items _ _ c.begin.result c.from_residual.result _ c.in_err-begin.was (err_from_is_err_and c.from_residual.result c.from_residual.ensures.1) (c.begin.ensures scene has)

pub loop-a-init : goal.loop-a-init
loop-a-init c scene has = went scene.start c.begin.new.enc c.begin.new.board.slots.items _ c.begin.result _ c.in_ok-begin.was (c.begin.ensures scene has)

pub split-requires-clause-ready : goal.split-requires-clause-ready
split-requires-clause-ready c = let r = c.requires.ready in (r.0, c.loop-a.invariant r.0 r.1)

pub split-requires-clause-action : goal.split-requires-clause-action
split-requires-clause-action c =
    let r = c.requires.ready in
    let e : length c.loop-a.enc.actions ≡ length c.args.enc.now.actions = same_actions r.0.start c.args.enc.now c.loop-a.enc c.args.board.now.slots.items c.loop-a.board.slots.items r.1.there.at (c.loop-a.invariant r.0 r.1).there.at in
    omega (arith, c.requires.actions)

pub returns-in_err-split : goal.returns-in_err-split
returns-in_err-split c scene has =
    passed scene.start c.split.new.enc c.split.new.board.slots.items _ _ c.split.result c.from_residual-in_err-split.result _ c.in_err-split.was (err_from_is_err_and c.from_residual-in_err-split.result c.from_residual-in_err-split.ensures.1) (c.split.ensures scene (c.loop-a.invariant scene has))

pub loop-a-preserved : goal.loop-a-preserved
loop-a-preserved c scene has = went scene.start c.split.new.enc c.split.new.board.slots.items _ c.split.result _ c.in_ok-split.was (c.split.ensures scene (c.loop-a.invariant scene has))

pub returns : goal.returns
returns c scene has =
    let e : length c.args.enc.now.actions ≡ action_count scene.start.task = (made_at scene.start c.args.enc.now c.args.board.now.slots.items has.there.at).actions in
    let n : c.loop-a.a ≡ action_count scene.start.task = omega (arith, c.requires.actions) in
    subst (λ (k : ℕ). HasPart scene c.loop-a.enc c.loop-a.board.slots.items k) n (c.loop-a.invariant scene has)
