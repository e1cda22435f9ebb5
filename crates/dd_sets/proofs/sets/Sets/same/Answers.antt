-- Each set has one number.
use Rattle.dd_sets.proofs.SetLemmas.{same_number}
use Rattle.dd_sets.proofs.sets.Sets.same.Goals as goal

pub returns-clause-answer : goal.returns-clause-answer
returns-clause-answer c = same_number c.args.self.now c.number.ensures.sound c.args.a.0 c.args.b.0 c.number.result c.number-2.result c.number.ensures.number c.number-2.ensures.number c.eq.result c.eq.ensures
