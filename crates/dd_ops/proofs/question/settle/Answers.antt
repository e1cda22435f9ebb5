-- The steps restate the question, or answer it.
use Rattle.dd_ops.proofs.Restated.{restated_more, restated_answer}
use Rattle.dd_ops.proofs.question.settle.Goals as goal

pub returns-in-Some : goal.returns-in-Some
returns-in-Some c nodes asked =
    let plain = c.with_constants-plain.ensures nodes asked in
    restated_answer nodes c.args.q c.with_constants-plain.result asked plain c.in-Some.r.0 (c.in-Some.ensures.right nodes plain.asked)

pub returns-in-None : goal.returns-in-None
returns-in-None c = (
  c.ordered.ensures.tests,
  λ nodes asked.
      let plain = c.with_constants-plain.ensures nodes asked in
      restated_more nodes c.args.q c.with_constants-plain.result c.ordered.result plain (c.ordered.ensures.same nodes plain.asked),
)
