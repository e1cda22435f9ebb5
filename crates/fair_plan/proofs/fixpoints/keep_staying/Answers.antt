use Rattle.std.proofs.Common.{arith}
use Rattle.slot_board.specs.Board.{Scene}
use Rattle.fair_plan.proofs.Boards.{leaves_with, low}
use Rattle.fair_plan.proofs.Rounds.{stays_made, stays_not}
use Rattle.fair_plan.proofs.fixpoints.keep_staying.Goals as goal

pub make-requires : goal.make-requires
make-requires c = let r = c.requires in (r.0, r.1, ((low r.0 5 (omega arith), low r.0 5 (omega arith), low r.0 3 (omega arith)), tt))

pub returns-then-stays : goal.returns-then-stays
returns-then-stays c origin there =
    let x : Scene = (c.args.enc.now, c.args.board.now.slots.items) in
    let y : Scene = (c.make.new.enc, c.make.new.board.slots.items) in
    leaves_with origin y _ _ c.make.result (λ now after. stays_made origin x y c.args.stays c.if-stays.true after)
    (c.make.ensures origin there ((low origin 5 (omega arith), low origin 5 (omega arith), low origin 3 (omega arith)), tt))

pub returns : goal.returns
returns c origin there = (there, stays_not origin (c.args.enc.now, c.args.board.now.slots.items) c.args.stays c.if-stays.false)
