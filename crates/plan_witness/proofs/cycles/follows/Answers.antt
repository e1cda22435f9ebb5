use Rattle.std.proofs.Common.{arith}
use Rattle.std.proofs.lemmas.Bool.{false≢true}
use Rattle.exec_graph.specs.Values.{followers_at}
use Rattle.plan_witness.proofs.Taken.{contained_at}
use Rattle.plan_witness.proofs.cycles.follows.Goals as goal

pub returns : goal.returns
returns g c = (
  (λ e. absurd (false≢true e)),
  (λ x.
      let at = contained_at (followers_at c.args.graph.now c.args.number) c.args.other x in
      absurd (c.loop-k.invariant at.0 (let l = at.1 in omega (arith, l, c.loop-k-test.false, c.next_len-k-end.ensures)) at.2)),
)
