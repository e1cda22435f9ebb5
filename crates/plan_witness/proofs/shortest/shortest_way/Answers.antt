use Rattle.exec_graph.specs.Values.{followers_at, graph_size}
use Rattle.plan_witness.proofs.LeastWays.{none, shortest}
use Rattle.plan_witness.proofs.shortest.shortest_way.Goals as goal

pub returns-in-Some-clause-shortest : goal.returns-in-Some-clause-shortest
returns-in-Some-clause-shortest g c =
    shortest (graph_size c.args.graph.now) (followers_at c.args.graph.now) c.args.starts.now c.in_ok-ways.ways.lengths.items c.in_ok-ways.ways.before.items c.requires.starts c.requires.inside c.in_ok-ways.ensures
    c.args.ends.now c.in-Some.end c.in_ok-way-in-Some.way.start c.in_ok-way-in-Some.way.numbers.items c.in-Some.ensures.some c.in_ok-way-in-Some.ensures.back

pub returns-clause-none : goal.returns-clause-none
returns-clause-none g c =
    none (graph_size c.args.graph.now) (followers_at c.args.graph.now) c.args.starts.now c.in_ok-ways.ways.lengths.items c.in_ok-ways.ways.before.items c.requires.starts c.requires.inside c.in_ok-ways.ensures
    c.args.ends.now c.in-None.ensures.none
