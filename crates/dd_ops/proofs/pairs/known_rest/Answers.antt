-- A constant and an equal operand say what the difference is.
use Rattle.dd_ops.proofs.PairLemmas.{rest_all_second, rest_no_first, rest_no_second, rest_same}
use Rattle.dd_ops.proofs.pairs.known_rest.Goals as goal

pub returns-then-p-eq0-clause-right : goal.returns-then-p-eq0-clause-right
returns-then-p-eq0-clause-right c nodes asked = rest_no_first nodes c.args.p asked c.if-p-eq0.true

pub returns-then-p-eq0-2-clause-right : goal.returns-then-p-eq0-2-clause-right
returns-then-p-eq0-2-clause-right c nodes asked = rest_no_second nodes c.args.p asked c.if-p-eq0-2.true

pub returns-then-p-eq1-clause-right : goal.returns-then-p-eq1-clause-right
returns-then-p-eq1-clause-right c nodes asked = rest_all_second nodes c.args.p asked c.if-p-eq1.true

pub returns-then-p-clause-right : goal.returns-then-p-clause-right
returns-then-p-clause-right c nodes asked = rest_same nodes c.args.p asked c.if-p.true
