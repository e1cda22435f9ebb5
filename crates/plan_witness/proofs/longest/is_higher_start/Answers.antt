use Rattle.std.proofs.Common.{sym, ◌∙◌}
use Rattle.std.proofs.lemmas.Bool.{false≢true}
use Rattle.plan_witness.proofs.longest.is_higher_start.Goals as goal

pub returns-then-not-initial-clause-none : goal.returns-then-not-initial-clause-none
returns-then-not-initial-clause-none c = λ _ e. absurd (false≢true (sym c.if-not-initial.true ∙ (c.initial.ensures 0 ∙ e)))

pub returns-then-not-initial-clause-lower : goal.returns-then-not-initial-clause-lower
returns-then-not-initial-clause-lower c = λ _ e. absurd (false≢true (sym c.if-not-initial.true ∙ (c.initial.ensures 0 ∙ e)))

pub returns-in-Some-clause-initial : goal.returns-in-Some-clause-initial
returns-in-Some-clause-initial c = λ _. sym (c.initial.ensures 0) ∙ c.if-not-initial.false

pub returns-in-None-clause-initial : goal.returns-in-None-clause-initial
returns-in-None-clause-initial c = λ _. sym (c.initial.ensures 0) ∙ c.if-not-initial.false
