use Rattle.first_match.proofs.Agreeing.{agreeing_followed, agreeing_solve}
use Rattle.first_match.proofs.laws.agreeing_rules_solve.Goals as goal

pub returns-clause-solves : goal.returns-clause-solves
returns-clause-solves c = λ class sys rules ok run agree. agreeing_solve sys ok rules agree class run

pub returns-clause-followed : goal.returns-clause-followed
returns-clause-followed c = λ class sys rules ok run agree. agreeing_followed sys ok rules agree class run
