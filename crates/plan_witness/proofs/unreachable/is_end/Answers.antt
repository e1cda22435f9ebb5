use Rattle.std.proofs.Common.{eqb, length, sym, ap, ◌∙◌}
use Rattle.std.proofs.lemmas.Bool.{eqb-true}
use Rattle.std.proofs.lemmas.List.{nil_from_length}
use Rattle.exec_graph.specs.Values.{followers_at}
use Rattle.plan_witness.proofs.unreachable.is_end.Goals as goal

pub returns : goal.returns
returns c = (
  (λ e. nil_from_length (followers_at c.args.graph.now c.args.number) (sym c.next_len.ensures ∙ eqb-true c.next_len.result 0 e)),
  (λ e. ap (λ n. eqb n 0) (c.next_len.ensures ∙ ap length e)),
)
