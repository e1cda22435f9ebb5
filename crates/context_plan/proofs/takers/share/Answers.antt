use Rattle.context_plan.proofs.SceneSteps.{same_length}
use Rattle.context_plan.proofs.TakerSteps.{shared_none, shared_all}
use Rattle.context_plan.specs.Scenes.{board_of}
use Rattle.slot_board.proofs.BoardSlots.{went, passed, made_at, same_actions}
use Rattle.std.proofs.Common.{◌≡◌, arith, length}
use Rattle.std.proofs.lemmas.Result.{err_from_is_err_and}
use Rattle.task_core.specs.Tasks.{action_count}
use Rattle.context_plan.proofs.takers.share.Goals as goal

pub loop-a-init : goal.loop-a-init
loop-a-init c start ready fits = shared_none start (c.args.enc.now, c.args.board.now.slots.items) c.args.takers ready

pub share_one-requires-clause-ready : goal.share_one-requires-clause-ready
share_one-requires-clause-ready c =
    let start = c.requires.ready.0 in
    let ready = c.requires.ready.1 in
    let fits = c.requires.ready.2 in
    (start, (c.args.enc.now, c.args.board.now.slots.items), (c.loop-a.invariant start ready fits), fits)

pub share_one-requires-clause-action : goal.share_one-requires-clause-action
share_one-requires-clause-action c =
    let start = c.requires.ready.0 in
    let ready = c.requires.ready.1 in
    let fits = c.requires.ready.2 in
    let e : length c.loop-a.enc.actions ≡ length c.args.enc.now.actions = same_actions (board_of start) c.args.enc.now c.loop-a.enc c.args.board.now.slots.items c.loop-a.board.slots.items ready.at (c.loop-a.invariant start ready fits).changed.ready.at in
    omega (arith, c.requires.actions)

pub share_one-requires-clause-places : goal.share_one-requires-clause-places
share_one-requires-clause-places c =
    let start = c.requires.ready.0 in
    let ready = c.requires.ready.1 in
    let fits = c.requires.ready.2 in
    let e : length c.loop-a.enc.actions ≡ length c.args.enc.now.actions = same_actions (board_of start) c.args.enc.now c.loop-a.enc c.args.board.now.slots.items c.loop-a.board.slots.items ready.at (c.loop-a.invariant start ready fits).changed.ready.at in
    let l : length c.loop-a.board.slots.items ≡ length c.args.board.now.slots.items = same_length start (c.args.enc.now, c.args.board.now.slots.items) (c.loop-a.enc, c.loop-a.board.slots.items) ready.at (c.loop-a.invariant start ready fits).changed.ready.at in
    omega (arith, c.requires.actions, c.requires.places)

pub returns-in_err-share_one : goal.returns-in_err-share_one
returns-in_err-share_one c start ready fits =
    let p = err_from_is_err_and c.from_residual.result c.from_residual.ensures.1 in
    passed (board_of start) c.share_one.new.enc c.share_one.new.board.slots.items _ _ c.share_one.result c.from_residual.result _ c.in_err-share_one.was p (c.share_one.ensures start (c.args.enc.now, c.args.board.now.slots.items) (c.loop-a.invariant start ready fits) fits)

pub loop-a-preserved : goal.loop-a-preserved
loop-a-preserved c start ready fits = went (board_of start) c.share_one.new.enc c.share_one.new.board.slots.items _ c.share_one.result _ c.in_ok-share_one.was (c.share_one.ensures start (c.args.enc.now, c.args.board.now.slots.items) (c.loop-a.invariant start ready fits) fits)

pub returns : goal.returns
returns c start ready fits =
    let e : length c.args.enc.now.actions ≡ action_count start.task = (made_at (board_of start) c.args.enc.now c.args.board.now.slots.items ready.at).actions in
    shared_all start (c.args.enc.now, c.args.board.now.slots.items) (c.loop-a.enc, c.loop-a.board.slots.items) c.args.takers c.loop-a.a (omega (arith, c.requires.actions)) (c.loop-a.invariant start ready fits)
