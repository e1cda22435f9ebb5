use Rattle.std.proofs.Common.{◌≡◌, ℕ, arith, length, subst}
use Rattle.std.proofs.lemmas.Result.{err_from_is_err_and}
use Rattle.task_core.specs.Tasks.{action_count, system_of}
use Rattle.cyclic_plan.specs.Rounds.{HasDropped}
use Rattle.slot_board.proofs.BoardSlots.{made_at, passed, same_actions, went}
use Rattle.cyclic_plan.proofs.Narrowing.{loses_none_more}
use Rattle.cyclic_plan.proofs.rounds.drop_pairs.Goals as goal

pub loop-a-init : goal.loop-a-init
loop-a-init c start r ready = (ready, λ same a below. absurd (omega arith))

pub keep_left-requires-clause-ready : goal.keep_left-requires-clause-ready
keep_left-requires-clause-ready c = let r = c.requires.ready in (r.0, r.1, (c.loop-a.invariant r.0 r.1 r.2).0)

pub keep_left-requires-clause-action : goal.keep_left-requires-clause-action
keep_left-requires-clause-action c =
    let r = c.requires.ready in
    let e : length c.loop-a.enc.actions ≡ length c.args.enc.now.actions = same_actions r.0 c.args.enc.now c.loop-a.enc c.args.board.now.slots.items c.loop-a.board.slots.items r.2.round.at (c.loop-a.invariant r.0 r.1 r.2).0.round.at in
    omega (arith, c.requires.actions)

pub loop-a-preserved : goal.loop-a-preserved
loop-a-preserved c start r ready =
    let i = c.loop-a.invariant start r ready in (
      went start c.keep_left.new.enc c.keep_left.new.board.slots.items _ c.keep_left.result _ c.in_ok-loses.was (c.keep_left.ensures.left start r i.0),
      loses_none_more (system_of start.task) r c.loop-a.a c.in_ok-loses.loses c.loop-a.lost c.either-lost.result c.either-lost.ensures (c.in_ok-loses.ensures.lost start r i.0) i.1,
    )

pub returns-in_err-loses-clause-left : goal.returns-in_err-loses-clause-left
returns-in_err-loses-clause-left c start r ready =
    let p = err_from_is_err_and c.from_residual.result c.from_residual.ensures.1 in
    passed start c.keep_left.new.enc c.keep_left.new.board.slots.items _ _ c.keep_left.result c.from_residual.result _ c.in_err-loses.was p (c.keep_left.ensures.left start r (c.loop-a.invariant start r ready).0)

pub returns-clause-left : goal.returns-clause-left
returns-clause-left c start r ready =
    let e : length c.args.enc.now.actions ≡ action_count start.task = (made_at start c.args.enc.now c.args.board.now.slots.items ready.round.at).actions in
    let n : c.loop-a.a ≡ action_count start.task = omega (arith, c.requires.actions) in
    subst (λ (k : ℕ). HasDropped start c.loop-a.enc c.loop-a.board.slots.items r k) n (c.loop-a.invariant start r ready).0

pub returns-clause-lost : goal.returns-clause-lost
returns-clause-lost c start r ready same a below =
    let e : length c.args.enc.now.actions ≡ action_count start.task = (made_at start c.args.enc.now c.args.board.now.slots.items ready.round.at).actions in
    let n : c.loop-a.a ≡ action_count start.task = omega (arith, c.requires.actions) in
    (c.loop-a.invariant start r ready).1 same a (omega arith)
