use Rattle.counterexamples.proofs.Failures.{shown, shown_in_contexts}
use Rattle.counterexamples.proofs.laws.failures_are_shown.Goals as goal

pub returns-clause-tables : goal.returns-clause-tables
returns-clause-tables c = shown

pub returns-clause-contexts : goal.returns-clause-contexts
returns-clause-contexts c = shown_in_contexts
