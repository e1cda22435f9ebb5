use Rattle.never_executed.proofs.FormulaParts.{parts_are}
use Rattle.never_executed.proofs.facts.parts_of.Goals as goal

pub returns-in-All-clause-some : goal.returns-in-All-clause-some
returns-in-All-clause-some c = parts_are c.args.formula.now c.in-All.parts c.deref.result.now c.in-All.is c.deref.ensures.value
