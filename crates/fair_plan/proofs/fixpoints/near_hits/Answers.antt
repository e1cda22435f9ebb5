use Rattle.slot_board.specs.Board.{Scene}
use Rattle.fair_plan.proofs.Boards.{action_in, leaves_with}
use Rattle.fair_plan.proofs.Growth.{near_can, near_made}
use Rattle.fair_plan.proofs.fixpoints.near_hits.Goals as goal

pub make-requires : goal.make-requires
make-requires c =
    let r = c.requires.ready in
    let x : Scene = (c.args.enc.now, c.args.board.now.slots.items) in
    (r.0, r.1, near_can r.0 c.args.a c.pairs_at-pairs.result c.pairs_at-pairs.ensures (action_in r.0 x r.1 c.args.a.0 c.requires.action))

pub returns : goal.returns
returns c origin there =
    let x : Scene = (c.args.enc.now, c.args.board.now.slots.items) in
    let y : Scene = (c.make.new.enc, c.make.new.board.slots.items) in
    let below = action_in origin x there c.args.a.0 c.requires.action in
    leaves_with origin y _ _ c.make.result (λ now after. near_made origin c.args.a c.pairs_at-pairs.result c.pairs_at-pairs.ensures below x y after)
    (c.make.ensures origin there (near_can origin c.args.a c.pairs_at-pairs.result c.pairs_at-pairs.ensures below))
