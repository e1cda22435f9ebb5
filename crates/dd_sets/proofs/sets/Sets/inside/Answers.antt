-- The difference is the empty set exactly where each list of the first is in the second.
use Rattle.dd_sets.proofs.SetLemmas.{inside_answer}
use Rattle.dd_sets.proofs.sets.Sets.inside.Goals as goal

pub returns-clause-answer : goal.returns-clause-answer
returns-clause-answer c = inside_answer _ c.in_ok-outside.ensures.sound c.in_ok-outside.ensures.in_table c.in_ok-outside.ensures.value c.eq.result c.eq.ensures
