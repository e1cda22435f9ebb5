use Rattle.std.proofs.Common.{not, sym, ap, ◌∙◌}
use Rattle.std.proofs.lemmas.List.{nil_from_length}
use Rattle.exec_graph.specs.Values.{followers_at, state_at}
use Rattle.plan_check.proofs.GraphVerdicts.{goal_value}
use Rattle.list_laws.proofs.Booleans.{not_true}
use Rattle.plan_witness.proofs.reasons.is_outside.Goals as goal

pub returns : goal.returns
returns c = λ n below.
    let v = c.cond_holds.ensures.value ∙ goal_value n c.args.goal.now c.state.result.now (state_at n c.args.graph.now c.args.number) below (c.state.ensures.state n) in (
      (λ t. record {
        end = nil_from_length (followers_at c.args.graph.now c.args.number) (sym c.next_len.ensures ∙ c.if-next_len-ne0.false);
        outside = sym v ∙ not_true c.cond_holds.result t;
      }),
      (λ x. ap not (v ∙ x.outside)),
    )
