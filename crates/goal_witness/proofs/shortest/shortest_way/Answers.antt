use Rattle.exec_graph.specs.Values.{followers_at, graph_size}
use Rattle.goal_witness.specs.Zones.{next_in}
use Rattle.goal_witness.proofs.Kept.{kept_below}
use Rattle.plan_witness.proofs.LeastWays.{none, shortest}
use Rattle.goal_witness.proofs.shortest.shortest_way.Goals as goal

pub returns-in-Some-clause-shortest : goal.returns-in-Some-clause-shortest
returns-in-Some-clause-shortest g c =
    shortest (graph_size c.args.zone.now.graph.now) (next_in c.args.zone.now.graph.now c.args.zone.now.inside.now) c.args.starts.now c.in_ok-ways.ways.lengths.items c.in_ok-ways.ways.before.items c.requires.starts (kept_below (followers_at c.args.zone.now.graph.now) c.args.zone.now.inside.now (graph_size c.args.zone.now.graph.now) c.requires.zone.followers) c.in_ok-ways.ensures
    c.args.ends.now c.in-Some.end c.in_ok-way-in-Some.way.start c.in_ok-way-in-Some.way.numbers.items c.in-Some.ensures.some c.in_ok-way-in-Some.ensures.back

pub returns-clause-none : goal.returns-clause-none
returns-clause-none g c =
    none (graph_size c.args.zone.now.graph.now) (next_in c.args.zone.now.graph.now c.args.zone.now.inside.now) c.args.starts.now c.in_ok-ways.ways.lengths.items c.in_ok-ways.ways.before.items c.requires.starts (kept_below (followers_at c.args.zone.now.graph.now) c.args.zone.now.inside.now (graph_size c.args.zone.now.graph.now) c.requires.zone.followers) c.in_ok-ways.ensures
    c.args.ends.now c.in-None.ensures.none
