-- The operands of a conjunction and of a disjunction may be exchanged.
use Rattle.dd_ops.proofs.PairLemmas.{exchanged}
use Rattle.dd_ops.proofs.pairs.in_order.Goals as goal

pub returns-then-p-clause-same : goal.returns-then-p-clause-same
returns-then-p-clause-same g c nodes asked = exchanged nodes g.row.KIND (c.is_symmetric.ensures c.if-is_symmetric.true) c.args.p asked
