use Rattle.std.proofs.Common.{◌∷◌, [], length, map, sym, ap, ◌∙◌, subst, arith}
use Rattle.std.specs.Option.{option_map}
use Rattle.std.proofs.lemmas.List.{length-append, length-map, map_push}
use Rattle.std.proofs.lemmas.Option.{slice_get-map}
use Rattle.exec_graph.specs.Moves.{configuration_of}
use Rattle.exec_graph.specs.Values.{plain_graph}
use Rattle.plan_rules.specs.Rules.{plain_of}
use Rattle.task_core.specs.Tasks.{fluent_count, system_of}
use Rattle.plan_picture.specs.Places.{ShowEach, Shows, configurations_of}
use Rattle.plan_picture.specs.Values.{node_value}
use Rattle.plan_picture.proofs.Shown.{shown_more}
use Rattle.plan_picture.proofs.pictures.nodes_at.Goals as goal

pub loop-number-preserved : goal.loop-number-preserved
loop-number-preserved c =
    let n = fluent_count c.args.task.now in
    let sys = system_of c.args.task.now in
    let plan = plain_of c.args.plan.now in
    let places = c.args.places.now in
    let marks = (plain_graph n c.args.graph.now).initial in
    let old = c.loop-number.nodes.items in
    let k = c.loop-number.number in
    let x = configuration_of n c.place_at-place.result.now in
    let node = c.in_ok-node.node in
    let items = c.in_ok-push.ensures.items in
    record {
      count = omega (arith, ap length items, length-append old (node ∷ []), c.loop-number.invariant.count);
      each = subst (ShowEach sys plan (configurations_of n places) marks) (sym (ap (map (node_value n)) items ∙ map_push (node_value n) old node))
          (shown_more sys plan (configurations_of n places) marks (map (node_value n) old) (node_value n node) k x
          (length-map old (node_value n) ∙ c.loop-number.invariant.count)
          (slice_get-map (configuration_of n) places k ∙ ap (option_map (configuration_of n)) c.place_at-place.ensures)
          c.loop-number.invariant.each
          (subst (λ b. Shows sys plan (configurations_of n places) x b (node_value n node)) (c.initial-is_initial.ensures n) c.in_ok-node.ensures));
    }
