use Rattle.std.proofs.Common.{◌≡◌, arith, length}
use Rattle.std.proofs.lemmas.Result.{err_from_is_err_and}
use Rattle.slot_board.proofs.BoardSlots.{passed, same_actions, went}
use Rattle.judge_sets.proofs.sweeps.shrink.Goals as goal

pub shrink_in_sweeps-requires-clause-ready : goal.shrink_in_sweeps-requires-clause-ready
shrink_in_sweeps-requires-clause-ready c = let r = c.requires.ready in (r.0, r.1, record { set = r.2; has = r.3 })

pub shrink_in_sweeps-requires-clause-actions : goal.shrink_in_sweeps-requires-clause-actions
shrink_in_sweeps-requires-clause-actions c = c.requires.actions

pub returns-in_err-shrink_in_sweeps : goal.returns-in_err-shrink_in_sweeps
returns-in_err-shrink_in_sweeps c scene from set has =
    passed scene.start c.shrink_in_sweeps.new.enc c.shrink_in_sweeps.new.board.slots.items _ _ c.shrink_in_sweeps.result c.from_residual.result _ c.in_err-shrink_in_sweeps.was (err_from_is_err_and c.from_residual.result c.from_residual.ensures.1) (c.shrink_in_sweeps.ensures scene from (record { set = set; has = has }))

pub shrink_to_end-requires-clause-ready : goal.shrink_to_end-requires-clause-ready
shrink_to_end-requires-clause-ready c =
    let r = c.requires.ready in
    let still = went r.0.start c.shrink_in_sweeps.new.enc c.shrink_in_sweeps.new.board.slots.items _ c.shrink_in_sweeps.result _ c.in_ok-shrink_in_sweeps.was (c.shrink_in_sweeps.ensures r.0 r.1 (record { set = r.2; has = r.3 })) in
    (r.0, r.1, still.set, still.has)

pub shrink_to_end-requires-clause-actions : goal.shrink_to_end-requires-clause-actions
shrink_to_end-requires-clause-actions c =
    let r = c.requires.ready in
    let still = went r.0.start c.shrink_in_sweeps.new.enc c.shrink_in_sweeps.new.board.slots.items _ c.shrink_in_sweeps.result _ c.in_ok-shrink_in_sweeps.was (c.shrink_in_sweeps.ensures r.0 r.1 (record { set = r.2; has = r.3 })) in
    let e : length c.shrink_in_sweeps.new.enc.actions ≡ length c.args.enc.now.actions = same_actions r.0.start c.args.enc.now c.shrink_in_sweeps.new.enc c.args.board.now.slots.items c.shrink_in_sweeps.new.board.slots.items r.3.by_steps.there.at still.has.by_steps.there.at in
    omega (arith, c.requires.actions)

pub returns : goal.returns
returns c scene from set has =
    let still = went scene.start c.shrink_in_sweeps.new.enc c.shrink_in_sweeps.new.board.slots.items _ c.shrink_in_sweeps.result _ c.in_ok-shrink_in_sweeps.was (c.shrink_in_sweeps.ensures scene from (record { set = set; has = has })) in
    c.shrink_to_end.ensures scene from still.set still.has
