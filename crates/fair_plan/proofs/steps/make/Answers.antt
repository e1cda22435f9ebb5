use Rattle.slot_board.specs.Board.{Scene}
use Rattle.fair_plan.specs.Boards.{set_in}
use Rattle.fair_plan.proofs.Boards.{can_all, made, shown}
use Rattle.fair_plan.proofs.steps.make.Goals as goal

pub make_all-requires : goal.make_all-requires
make_all-requires c =
    let r = c.requires in
    let x : Scene = (c.args.enc.now, c.args.board.now.slots.items) in
    (r.0.start, set_in x, shown r.0 x r.1, can_all r.0 (set_in x) c.args.steps.now r.2)

pub returns : goal.returns
returns c origin there are =
    let x : Scene = (c.args.enc.now, c.args.board.now.slots.items) in
    made origin x (c.make_all.new.enc, c.make_all.new.board.slots.items) c.args.steps.now c.make_all.result
    (c.make_all.ensures origin.start (set_in x) (shown origin x there) (can_all origin (set_in x) c.args.steps.now are))
