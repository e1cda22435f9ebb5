use Rattle.std.proofs.Common.{subst}
use Rattle.std.specs.Prelude.{IfSome, Option, ℕ}
use Rattle.exec_graph.specs.Values.{followers_at, graph_size}
use Rattle.plan_witness.specs.Heights.{IsOneBelow}
use Rattle.plan_witness.specs.Ways.{at}
use Rattle.plan_witness.proofs.Counting.{some_by}
use Rattle.plan_witness.proofs.Tall.{below_it}
use Rattle.plan_witness.proofs.heights.one_below.Goals as goal

pub unwrap-requires : goal.unwrap-requires
unwrap-requires g c =
    some_by c.first_below.result _
    (below_it (graph_size c.args.graph.now) (followers_at c.args.graph.now) c.requires.inside c.args.heights.now c.requires.heights c.args.number c.requires.number c.requires.high)
    c.first_below.ensures.none

pub returns : goal.returns
returns g c =
    let heights = c.args.heights.now in
    subst (λ (o : Option ℕ). IfSome o (IsOneBelow (followers_at c.args.graph.now) heights c.args.number (at heights c.args.number))) c.unwrap.ensures c.first_below.ensures.found
