-- A constant and an equal operand say what the disjunction is.
use Rattle.dd_ops.proofs.PairLemmas.{join_all_first, join_all_second, join_no_first, join_no_second, join_same}
use Rattle.dd_ops.proofs.pairs.known_join.Goals as goal

pub returns-then-p-eq1-clause-right : goal.returns-then-p-eq1-clause-right
returns-then-p-eq1-clause-right c nodes asked = join_all_first nodes c.args.p asked c.if-p-eq1.true

pub returns-then-p-eq0-clause-right : goal.returns-then-p-eq0-clause-right
returns-then-p-eq0-clause-right c nodes asked = join_no_second nodes c.args.p asked c.if-p-eq0.true

pub returns-then-p-clause-right : goal.returns-then-p-clause-right
returns-then-p-clause-right c nodes asked = join_same nodes c.args.p asked c.if-p.true

pub returns-then-p-eq0-2-clause-right : goal.returns-then-p-eq0-2-clause-right
returns-then-p-eq0-2-clause-right c nodes asked = join_no_first nodes c.args.p asked c.if-p-eq0-2.true

pub returns-then-p-eq1-2-clause-right : goal.returns-then-p-eq1-2-clause-right
returns-then-p-eq1-2-clause-right c nodes asked = join_all_second nodes c.args.p asked c.if-p-eq1-2.true
