-- The empty set has one number.
use Rattle.dd_sets.proofs.SetLemmas.{none_number}
use Rattle.dd_sets.proofs.sets.Sets.is_none.Goals as goal

pub returns-clause-answer : goal.returns-clause-answer
returns-clause-answer c = none_number c.args.self.now c.number.ensures.sound c.args.a.0 c.number.result c.number.ensures.number c.eq.result c.eq.ensures
