use Rattle.std.proofs.Common.{◌∙◌, map, subst}
use Rattle.std.proofs.lemmas.List.{length-map}
use Rattle.exec_graph.specs.Moves.{configuration_of}
use Rattle.exec_graph.specs.Values.{plain_graph}
use Rattle.plan_rules.specs.Rules.{plain_of}
use Rattle.task_core.specs.Tasks.{fluent_count, system_of}
use Rattle.plan_picture.specs.Places.{ShowEach, configurations_of}
use Rattle.plan_picture.specs.Values.{node_value}
use Rattle.plan_picture.proofs.Shown.{picture_is}
use Rattle.plan_picture.proofs.Goals.{numbered_system}
use Rattle.plan_picture.proofs.pictures.picture_of.Goals as goal

pub returns-clause-picture : goal.returns-clause-picture
returns-clause-picture c =
    let n = fluent_count c.args.task.now in
    let sys = system_of c.args.task.now in
    let plan = plain_of c.args.plan.now in
    let graph = plain_graph n c.in_ok-graph.graph in
    let places = c.in_ok-places.places.items in
    let nodes = c.in_ok-nodes.nodes.items in
    picture_is sys plan graph (configurations_of n places) (map (node_value n) nodes) (numbered_system c.args.task.now) c.in_ok-graph.ensures.graph
    (length-map places (configuration_of n) ∙ c.in_ok-places.ensures.count) (length-map nodes (node_value n) ∙ c.in_ok-nodes.ensures.count)
    (λ i l. c.in_ok-places.ensures.same n i l)
    (subst (λ ps. ShowEach sys plan (configurations_of n ps) graph.initial (map (node_value n) nodes)) c.deref.ensures.value c.in_ok-nodes.ensures.each)
