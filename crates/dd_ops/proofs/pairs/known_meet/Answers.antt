-- A constant and an equal operand say what the conjunction is.
use Rattle.dd_ops.proofs.PairLemmas.{meet_all_first, meet_all_second, meet_no_first, meet_no_second, meet_same}
use Rattle.dd_ops.proofs.pairs.known_meet.Goals as goal

pub returns-then-p-eq0-clause-right : goal.returns-then-p-eq0-clause-right
returns-then-p-eq0-clause-right c nodes asked = meet_no_first nodes c.args.p asked c.if-p-eq0.true

pub returns-then-p-eq1-clause-right : goal.returns-then-p-eq1-clause-right
returns-then-p-eq1-clause-right c nodes asked = meet_all_second nodes c.args.p asked c.if-p-eq1.true

pub returns-then-p-clause-right : goal.returns-then-p-clause-right
returns-then-p-clause-right c nodes asked = meet_same nodes c.args.p asked c.if-p.true

pub returns-then-p-eq1-2-clause-right : goal.returns-then-p-eq1-2-clause-right
returns-then-p-eq1-2-clause-right c nodes asked = meet_all_first nodes c.args.p asked c.if-p-eq1-2.true

pub returns-then-p-eq0-2-clause-right : goal.returns-then-p-eq0-2-clause-right
returns-then-p-eq0-2-clause-right c nodes asked = meet_no_second nodes c.args.p asked c.if-p-eq0-2.true
