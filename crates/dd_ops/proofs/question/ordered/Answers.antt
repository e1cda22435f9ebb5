-- The operands of a conjunction and of a disjunction may be exchanged.
use Rattle.dd_ops.proofs.Restated.{restated_and, restated_or}
use Rattle.dd_ops.proofs.question.ordered.Goals as goal

pub returns-then-q-clause-same : goal.returns-then-q-clause-same
returns-then-q-clause-same c nodes asked = restated_and nodes c.args.q asked c.if-q-eq0.true

pub returns-then-q-2-clause-same : goal.returns-then-q-2-clause-same
returns-then-q-2-clause-same c nodes asked = restated_or nodes c.args.q asked c.if-q-eq1.true
