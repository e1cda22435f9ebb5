use Rattle.std.proofs.Common.{◌≡◌, arith, length}
use Rattle.plan_theory.specs.GuardedSets.{anywhere}
use Rattle.dd_sets.specs.LiveSets.{everything}
use Rattle.context_plan.specs.Scenes.{board_of, guarded}
use Rattle.context_plan.proofs.SceneSteps.{guard_put, low, same_length}
use Rattle.context_plan.proofs.TakenSteps.{shares_moved, taken_after}
use Rattle.context_plan.proofs.TakerFits.{within_now}
use Rattle.std.proofs.lemmas.Result.{err_from_is_err_and}
use Rattle.slot_board.proofs.BoardSlots.{went, passed, left_with, same_actions}
use Rattle.context_plan.proofs.takers.take_end.Goals as goal

pub whole-requires-clause-working : goal.whole-requires-clause-working
whole-requires-clause-working c =
    let start = c.requires.ready.0 in
    let at = c.requires.ready.1 in
    (board_of start, at)

pub whole-requires-clause-place : goal.whole-requires-clause-place
whole-requires-clause-place c =
    let start = c.requires.ready.0 in
    let at = c.requires.ready.1 in
    low start (c.args.enc.now, c.args.board.now.slots.items) at 5 (omega arith)

pub returns-in_err-whole : goal.returns-in_err-whole
returns-in_err-whole c start at fits =
    passed (board_of start) c.whole.new.enc c.whole.new.self.slots.items _ _ c.whole.result c.from_residual.result _ c.in_err-whole.was (err_from_is_err_and c.from_residual.result c.from_residual.ensures.1) (c.whole.ensures (board_of start) at)

pub take_first-requires-clause-ready : goal.take_first-requires-clause-ready
take_first-requires-clause-ready c =
    let start = c.requires.ready.0 in
    let at = c.requires.ready.1 in
    let fits = c.requires.ready.2 in
    let w = went (board_of start) c.whole.new.enc c.whole.new.self.slots.items _ c.whole.result _ c.in_ok-whole.was (c.whole.ensures (board_of start) at) in
    let held = guard_put start (c.args.enc.now, c.args.board.now.slots.items) (c.whole.new.enc, c.whole.new.self.slots.items) everything w in
    let shares = shares_moved start anywhere (c.args.enc.now, c.args.board.now.slots.items) (c.whole.new.enc, c.whole.new.self.slots.items) c.args.won c.args.takers everything c.requires.won c.requires.apart (within_now start (c.args.enc.now, c.args.board.now.slots.items) c.args.takers at (omega (arith, c.requires.places, c.requires.actions))) at w fits in
    ((guarded start anywhere), held, shares)

pub take_first-requires-clause-actions : goal.take_first-requires-clause-actions
take_first-requires-clause-actions c =
    let start = c.requires.ready.0 in
    let at = c.requires.ready.1 in
    let w = went (board_of start) c.whole.new.enc c.whole.new.self.slots.items _ c.whole.result _ c.in_ok-whole.was (c.whole.ensures (board_of start) at) in
    let e : length c.whole.new.enc.actions ≡ length c.args.enc.now.actions = same_actions (board_of start) c.args.enc.now c.whole.new.enc c.args.board.now.slots.items c.whole.new.self.slots.items at w.at in omega (arith, c.requires.actions)

pub take_first-requires-clause-places : goal.take_first-requires-clause-places
take_first-requires-clause-places c =
    let start = c.requires.ready.0 in
    let at = c.requires.ready.1 in
    let w = went (board_of start) c.whole.new.enc c.whole.new.self.slots.items _ c.whole.result _ c.in_ok-whole.was (c.whole.ensures (board_of start) at) in
    let e : length c.whole.new.self.slots.items ≡ length c.args.board.now.slots.items = same_length start (c.args.enc.now, c.args.board.now.slots.items) (c.whole.new.enc, c.whole.new.self.slots.items) at w.at in omega (arith, c.requires.places)

pub take_first-requires-clause-apart : goal.take_first-requires-clause-apart
take_first-requires-clause-apart c =
    (c.requires.apart, c.requires.apart)

pub returns : goal.returns
returns c start at fits =
    let w = went (board_of start) c.whole.new.enc c.whole.new.self.slots.items _ c.whole.result _ c.in_ok-whole.was (c.whole.ensures (board_of start) at) in
    let held = guard_put start (c.args.enc.now, c.args.board.now.slots.items) (c.whole.new.enc, c.whole.new.self.slots.items) everything w in
    let shares = shares_moved start anywhere (c.args.enc.now, c.args.board.now.slots.items) (c.whole.new.enc, c.whole.new.self.slots.items) c.args.won c.args.takers everything c.requires.won c.requires.apart (within_now start (c.args.enc.now, c.args.board.now.slots.items) c.args.takers at (omega (arith, c.requires.places, c.requires.actions))) at w fits in
    left_with (board_of start) c.take_first.new.enc c.take_first.new.board.slots.items _ _ c.take_first.result
    (λ z. taken_after start anywhere (c.args.enc.now, c.args.board.now.slots.items) (c.whole.new.enc, c.whole.new.self.slots.items) (c.take_first.new.enc, c.take_first.new.board.slots.items) c.args.won c.args.takers everything c.requires.won c.requires.apart (within_now start (c.args.enc.now, c.args.board.now.slots.items) c.args.takers at (omega (arith, c.requires.places, c.requires.actions))) at w z)
    (c.take_first.ensures (guarded start anywhere) held shares)
