use Rattle.std.proofs.Common.{[], refl, sym, subst}
use Rattle.exec_graph.specs.Values.{followers_at}
use Rattle.plan_witness.specs.Heights.{GoesFor}
use Rattle.plan_witness.proofs.heights.heights_within.Goals as goal

pub raise_along-requires-clause-attained : goal.raise_along-requires-clause-attained
raise_along-requires-clause-attained g c =
    let z = c.in_ok-heights.ensures in
    record {
      count = z.count;
      each = λ i l. subst (GoesFor (followers_at c.args.graph.now) i) (sym (z.zeros i)) (record { rest = []; walk = tt; long = refl });
    }
