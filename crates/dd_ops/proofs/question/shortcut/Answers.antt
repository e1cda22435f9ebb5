-- The answers that need no look at the table.
use Rattle.dd_ops.proofs.QuestionLemmas.{answer_false, answer_true, answer_same, answer_itself}
use Rattle.dd_ops.proofs.question.shortcut.Goals as goal

pub returns-then-q-eq0-clause-right : goal.returns-then-q-eq0-clause-right
returns-then-q-eq0-clause-right c nodes asked = answer_false nodes c.args.q asked c.if-q-eq0.true

pub returns-then-q-eq1-clause-right : goal.returns-then-q-eq1-clause-right
returns-then-q-eq1-clause-right c nodes asked = answer_true nodes c.args.q asked c.if-q-eq1.true

pub returns-then-q-clause-right : goal.returns-then-q-clause-right
returns-then-q-clause-right c nodes asked = answer_same nodes c.args.q asked c.if-q.true

pub returns-then-q-eq0-2-clause-right : goal.returns-then-q-eq0-2-clause-right
returns-then-q-eq0-2-clause-right c nodes asked = answer_itself nodes c.args.q asked c.if-q-eq1-2.true c.if-q-eq0-2.true
