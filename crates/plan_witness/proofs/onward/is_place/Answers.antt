use Rattle.std.proofs.Common.{ap, sym, ◌∙◌}
use Rattle.std.proofs.lemmas.Bool.{false≢true}
use Rattle.task_core.specs.ContextPlans.{Configuration}
use Rattle.plan_witness.proofs.Meanings.{at_place}
use Rattle.plan_witness.proofs.onward.is_place.Goals as goal

pub returns-then-not-has_context : goal.returns-then-not-has_context
returns-then-not-has_context c = λ n _ _. (
  (λ e. absurd (false≢true e)),
  (λ e. absurd (false≢true (sym c.if-not-has_context.true ∙ (c.has_context.ensures n).1 (ap (λ (x : Configuration). x.context) e)))),
)

pub returns : goal.returns
returns c = λ n within inside. (
  (λ e. at_place n c.args.graph.now c.args.number _ _ ((c.has_state.ensures n within inside).0 e) ((c.has_context.ensures n).0 c.if-not-has_context.false)),
  (λ e. (c.has_state.ensures n within inside).1 (ap (λ (x : Configuration). x.state) e)),
)
