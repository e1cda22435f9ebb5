use Rattle.std.proofs.Common.{sym, ◌∙◌}
use Rattle.std.proofs.lemmas.Bool.{eq-eqb, eqb-true}
use Rattle.plan_witness.proofs.onward.has_context.Goals as goal

pub returns : goal.returns
returns c = λ n. (
  (λ e. c.context.ensures n ∙ eqb-true c.context.result c.args.context e),
  (λ e. eq-eqb c.context.result c.args.context (sym (c.context.ensures n) ∙ e)),
)
