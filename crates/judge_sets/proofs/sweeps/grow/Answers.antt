use Rattle.std.proofs.Common.{◌≡◌, arith, length}
use Rattle.std.proofs.lemmas.Result.{err_from_is_err_and}
use Rattle.slot_board.proofs.BoardSlots.{passed, same_actions, went}
use Rattle.judge_sets.proofs.sweeps.grow.Goals as goal

pub grow_in_sweeps-requires-clause-ready : goal.grow_in_sweeps-requires-clause-ready
grow_in_sweeps-requires-clause-ready c = let r = c.requires.ready in (r.0, record { set = r.1; has = r.2 })

pub grow_in_sweeps-requires-clause-actions : goal.grow_in_sweeps-requires-clause-actions
grow_in_sweeps-requires-clause-actions c = c.requires.actions

pub returns-in_err-grow_in_sweeps : goal.returns-in_err-grow_in_sweeps
returns-in_err-grow_in_sweeps c scene set has =
    passed scene.start c.grow_in_sweeps.new.enc c.grow_in_sweeps.new.board.slots.items _ _ c.grow_in_sweeps.result c.from_residual.result _ c.in_err-grow_in_sweeps.was (err_from_is_err_and c.from_residual.result c.from_residual.ensures.1) (c.grow_in_sweeps.ensures scene (record { set = set; has = has }))

pub grow_to_end-requires-clause-ready : goal.grow_to_end-requires-clause-ready
grow_to_end-requires-clause-ready c =
    let r = c.requires.ready in
    let still = went r.0.start c.grow_in_sweeps.new.enc c.grow_in_sweeps.new.board.slots.items _ c.grow_in_sweeps.result _ c.in_ok-grow_in_sweeps.was (c.grow_in_sweeps.ensures r.0 (record { set = r.1; has = r.2 })) in
    (r.0, still.set, still.has)

pub grow_to_end-requires-clause-actions : goal.grow_to_end-requires-clause-actions
grow_to_end-requires-clause-actions c =
    let r = c.requires.ready in
    let still = went r.0.start c.grow_in_sweeps.new.enc c.grow_in_sweeps.new.board.slots.items _ c.grow_in_sweeps.result _ c.in_ok-grow_in_sweeps.was (c.grow_in_sweeps.ensures r.0 (record { set = r.1; has = r.2 })) in
    let e : length c.grow_in_sweeps.new.enc.actions ≡ length c.args.enc.now.actions = same_actions r.0.start c.args.enc.now c.grow_in_sweeps.new.enc c.args.board.now.slots.items c.grow_in_sweeps.new.board.slots.items r.2.by_steps.there.at still.has.by_steps.there.at in
    omega (arith, c.requires.actions)

pub returns : goal.returns
returns c scene set has =
    let still = went scene.start c.grow_in_sweeps.new.enc c.grow_in_sweeps.new.board.slots.items _ c.grow_in_sweeps.result _ c.in_ok-grow_in_sweeps.was (c.grow_in_sweeps.ensures scene (record { set = set; has = has })) in
    c.grow_to_end.ensures scene still.set still.has
