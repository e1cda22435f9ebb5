use Rattle.std.proofs.Common.{sym, ◌∙◌}
use Rattle.std.proofs.lemmas.Bool.{false≢true}
use Rattle.plan_witness.proofs.unreachable.is_marked_start.Goals as goal

pub returns-then-not-initial : goal.returns-then-not-initial
returns-then-not-initial c = ((λ e. absurd (false≢true e)), (λ x. absurd (false≢true (sym c.if-not-initial.true ∙ (c.initial.ensures 0 ∙ x.initial)))))

pub returns : goal.returns
returns c = (
  (λ e. record { initial = sym (c.initial.ensures 0) ∙ c.if-not-initial.false; marked = sym c.is_marked.ensures ∙ e }),
  (λ x. c.is_marked.ensures ∙ x.marked),
)
