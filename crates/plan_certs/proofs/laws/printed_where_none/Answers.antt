use Rattle.std.proofs.Common.{subst}
use Rattle.task_core.specs.Solutions.{HasNoSolution}
use Rattle.plan_certs.proofs.NoWayOut.{no_solution}
use Rattle.plan_certs.proofs.PrintedLemmas.{printed_accepted, printed_class, printed_one, printed_there}
use Rattle.plan_certs.proofs.laws.printed_where_none.Goals as goal

pub returns-clause-accepted : goal.returns-clause-accepted
returns-clause-accepted c = printed_accepted

pub returns-clause-none : goal.returns-clause-none
returns-clause-none c class sys certificate ok is accepted = subst (λ k. HasNoSolution k sys) (printed_class class sys certificate is) (no_solution sys certificate ok accepted)

pub returns-clause-some : goal.returns-clause-some
returns-clause-some c = printed_there

pub returns-clause-one : goal.returns-clause-one
returns-clause-one c = printed_one
