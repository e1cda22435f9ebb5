use Rattle.std.proofs.Common.{sym, ◌∙◌}
use Rattle.plan_witness.proofs.Taken.{equal_vectors, vectors_equal}
use Rattle.plan_witness.proofs.onward.has_state.Goals as goal

pub returns : goal.returns
returns c = λ n within inside. (
  (λ e. c.state.ensures.state n ∙ equal_vectors n c.state.result.now c.args.state.now (c.state.ensures.within n within) inside (sym c.eq.ensures ∙ e)),
  (λ e. c.eq.ensures ∙ vectors_equal n c.state.result.now c.args.state.now (c.state.ensures.within n within) inside (sym (c.state.ensures.state n) ∙ e)),
)
