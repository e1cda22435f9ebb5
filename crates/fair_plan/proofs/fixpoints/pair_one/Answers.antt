use Rattle.std.proofs.Common.{arith}
use Rattle.slot_board.specs.Board.{Scene}
use Rattle.fair_plan.proofs.Boards.{action_in, leaves_with, low}
use Rattle.fair_plan.proofs.Growth.{pair_made, within}
use Rattle.fair_plan.proofs.fixpoints.pair_one.Goals as goal

pub make-requires : goal.make-requires
make-requires c =
    let r = c.requires.ready in
    let below = action_in r.0 (c.args.enc.now, c.args.board.now.slots.items) r.1 c.args.a.0 c.requires.action in
    let pairs = within r.0 c.args.a c.pairs_at-pairs.result c.pairs_at-pairs.ensures below in
    (r.0, r.1, ((pairs, low r.0 _ (omega arith), below), ((low r.0 _ (omega arith), low r.0 _ (omega arith), pairs), ((pairs, pairs, low r.0 _ (omega arith)), tt))))

pub returns : goal.returns
returns c origin there =
    let x : Scene = (c.args.enc.now, c.args.board.now.slots.items) in
    let y : Scene = (c.make.new.enc, c.make.new.board.slots.items) in
    let below = action_in origin x there c.args.a.0 c.requires.action in
    let pairs = within origin c.args.a c.pairs_at-pairs.result c.pairs_at-pairs.ensures below in
    leaves_with origin y _ _ c.make.result (λ now after. pair_made origin c.args.a c.pairs_at-pairs.result c.pairs_at-pairs.ensures below x y after)
    (c.make.ensures origin there ((pairs, low origin _ (omega arith), below), ((low origin _ (omega arith), low origin _ (omega arith), pairs), ((pairs, pairs, low origin _ (omega arith)), tt))))
