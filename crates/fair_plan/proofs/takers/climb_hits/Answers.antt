use Rattle.fair_plan.proofs.Boards.{leaves_with}
use Rattle.fair_plan.proofs.TakerSteps.{climb_can, climb_made}
use Rattle.fair_plan.proofs.takers.climb_hits.Goals as goal

pub make-requires : goal.make-requires
make-requires c =
    let r = c.requires.ready in
    (r.0, r.1, climb_can r.0 (c.args.enc.now, c.args.board.now.slots.items) r.1 c.args.a c.args.takers c.pairs_at-pairs.result c.pairs_at-pairs.ensures c.requires.action c.requires.places)

pub returns : goal.returns
returns c origin there =
    leaves_with origin (c.make.new.enc, c.make.new.board.slots.items) _ _ c.make.result (λ now after. climb_made origin (c.args.enc.now, c.args.board.now.slots.items) there c.args.a c.args.takers c.pairs_at-pairs.result c.pairs_at-pairs.ensures c.requires.action c.requires.places (c.make.new.enc, c.make.new.board.slots.items) c.requires.high after)
    (c.make.ensures origin there (climb_can origin (c.args.enc.now, c.args.board.now.slots.items) there c.args.a c.args.takers c.pairs_at-pairs.result c.pairs_at-pairs.ensures c.requires.action c.requires.places))
