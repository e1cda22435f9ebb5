use Rattle.std.proofs.Common.{arith}
use Rattle.fair_plan.proofs.Boards.{in_start, leaves_with, low}
use Rattle.fair_plan.proofs.rules.drop_rest.Goals as goal

pub make-requires : goal.make-requires
make-requires c =
    let r = c.requires.ready in
    (r.0, r.1, ((low r.0 7 (omega arith), low r.0 7 (omega arith), in_start r.0 (c.args.enc.now, c.args.board.now.slots.items) r.1 c.args.met c.requires.place), tt))

pub returns : goal.returns
returns c origin there =
    leaves_with origin (c.make.new.enc, c.make.new.board.slots.items) _ _ c.make.result (λ now after. tt)
    (c.make.ensures origin there ((low origin 7 (omega arith), low origin 7 (omega arith), in_start origin (c.args.enc.now, c.args.board.now.slots.items) there c.args.met c.requires.place), tt))
