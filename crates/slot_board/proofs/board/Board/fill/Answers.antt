use Rattle.std.proofs.Common.{◌≡◌, ◌+◌, arith, length}
use Rattle.preimage.proofs.FrameSteps.{same_chain}
use Rattle.slot_board.proofs.BoardSlots.{on_ok}
use Rattle.slot_board.proofs.board.Board.fill.Goals as goal

pub add-requires : goal.add-requires
add-requires c = (c.requires.0, c.loop.invariant.frame c.requires.0 c.requires.1)

pub returns-in_err-add-clause-frame : goal.returns-in_err-add-clause-frame
returns-in_err-add-clause-frame c before work = c.add.ensures.frame before (c.loop.invariant.frame before work)

pub returns-in_err-add-clause-same_slots : goal.returns-in_err-add-clause-same_slots
returns-in_err-add-clause-same_slots c = same_chain c.args.enc.now c.loop.enc c.add.new.enc c.loop.invariant.same c.add.ensures.same_slots

pub loop-preserved : goal.loop-preserved
loop-preserved c =
    let long : length c.add.new.self.slots.items ≡ length c.loop.self.slots.items + 1 = on_ok c.add.result _ _ c.in_ok-add.was c.add.ensures.long in
    let now : length c.loop.self.slots.items ≡ length c.args.self.now.slots.items + c.loop.counter = c.loop.invariant.long in
    record {
      frame = λ before work. c.add.ensures.frame before (c.loop.invariant.frame before work);
      filled = λ before work none. on_ok c.add.result _ _ c.in_ok-add.was (c.add.ensures.filled before (c.loop.invariant.frame before work) (c.loop.invariant.filled before work none));
      long = omega arith;
      same = same_chain c.args.enc.now c.loop.enc c.add.new.enc c.loop.invariant.same c.add.ensures.same_slots;
    }

pub returns-clause-frame : goal.returns-clause-frame
returns-clause-frame c = c.loop.invariant.frame

pub returns-clause-filled : goal.returns-clause-filled
returns-clause-filled c before work none = c.loop.invariant.filled before work none

pub returns-clause-same_slots : goal.returns-clause-same_slots
returns-clause-same_slots c = c.loop.invariant.same
