use Rattle.counterexamples.proofs.findings.find.Goals as goal

pub returns-then-is_round-clause-reached : goal.returns-then-is_round-clause-reached
returns-then-is_round-clause-reached c = λ other. absurd (other (c.is_round.ensures.0 c.if-is_round.true))
