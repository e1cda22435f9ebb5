use Rattle.std.proofs.Common.{◌≡◌, arith, length}
use Rattle.std.proofs.lemmas.Result.{err_from_is_err_and}
use Rattle.task_core.specs.Tasks.{action_count}
use Rattle.slot_board.proofs.BoardSlots.{made_at, passed, same_actions, went}
use Rattle.cyclic_plan.proofs.Premises.{outside_made}
use Rattle.cyclic_plan.proofs.StageSteps.{pairs_all, outside_found}
use Rattle.cyclic_plan.proofs.rounds.keep_pairs.Goals as goal

pub keep-requires-clause-ready : goal.keep-requires-clause-ready
keep-requires-clause-ready c = let r = c.requires.ready in (r.0, r.1, r.2, c.loop-a.invariant r.0 r.1 r.2 r.3)

pub keep-requires-clause-action : goal.keep-requires-clause-action
keep-requires-clause-action c =
    let r = c.requires.ready in
    let e : length c.loop-a.enc.actions ≡ length c.args.enc.now.actions = same_actions r.0 c.args.enc.now c.loop-a.enc c.args.board.now.slots.items c.loop-a.board.slots.items r.3.at (c.loop-a.invariant r.0 r.1 r.2 r.3).round.at in
    omega (arith, c.requires.actions)

pub returns-in_err-keep : goal.returns-in_err-keep
returns-in_err-keep c start left taken ready =
    let p = err_from_is_err_and c.from_residual-in_err-keep.result c.from_residual-in_err-keep.ensures.1 in
    passed start c.keep.new.enc c.keep.new.board.slots.items _ _ c.keep.result c.from_residual-in_err-keep.result _ c.in_err-keep.was p (c.keep.ensures start left taken (c.loop-a.invariant start left taken ready))

pub returns : goal.returns
returns c start left taken ready =
    let e : length c.args.enc.now.actions ≡ action_count start.task = (made_at start c.args.enc.now c.args.board.now.slots.items ready.at).actions in
    pairs_all start c.loop-a.enc c.loop-a.board.slots.items left taken c.loop-a.a (omega (arith, c.requires.actions)) (c.loop-a.invariant start left taken ready)

pub returns-in_err-combine : goal.returns-in_err-combine
returns-in_err-combine c start left taken ready =
    let p = err_from_is_err_and c.from_residual.result c.from_residual.ensures.1 in
    passed start c.combine.new.enc c.combine.new.self.slots.items _ _ c.combine.result c.from_residual.result _ c.in_err-combine.was p (c.combine.ensures start ready.at (outside_made start c.args.enc.now c.args.board.now.slots.items left taken ready))

pub loop-a-init : goal.loop-a-init
loop-a-init c start left taken ready =
    outside_found start c.args.enc.now c.combine.new.enc c.args.board.now.slots.items c.combine.new.self.slots.items left taken ready
    (went start c.combine.new.enc c.combine.new.self.slots.items _ c.combine.result _ c.in_ok-combine.was (c.combine.ensures start ready.at (outside_made start c.args.enc.now c.args.board.now.slots.items left taken ready)))
