use Rattle.std.proofs.Common.{◌≡◌, ◌↔◌, ◌<◌, ℕ, [], Bool, List, sym, subst}
use Rattle.task_core.specs.Tasks.{fluent_count, system_of}
use Rattle.plan_rules.specs.Rules.{plain_of}
use Rattle.exec_graph.specs.Values.{followers_at, graph_size}
use Rattle.plan_check.specs.Walks.{IsMarked}
use Rattle.plan_check.proofs.SpreadSteps.{graph_turned}
use Rattle.plan_witness.specs.Ends.{IsEndless}
use Rattle.plan_witness.proofs.Meanings.{both_ways, endless_meaning, missing, shown}
use Rattle.plan_witness.proofs.unreachable.endless_run.Goals as goal

pub not_leading-requires-clause-turned : goal.not_leading-requires-clause-turned
not_leading-requires-clause-turned g c = graph_turned (system_of c.args.task.now) (plain_of c.args.plan.now) (fluent_count c.args.task.now) c.args.graph.now c.requires.graph

pub returns-clause-shortest : goal.returns-clause-shortest
returns-clause-shortest g c =
    let task = c.args.task.now in
    let plan = c.args.plan.now in
    let graph = c.args.graph.now in
    let ends = subst (λ (ms : List Bool). (i : ℕ) → i < graph_size graph → IsMarked ms i ↔ (followers_at graph i ≡ [])) (sym c.deref.ensures.value) c.in_ok-ends.ensures.marked in
    shown task plan graph c.requires.graph c.in_ok-marks.marks.items (IsEndless (system_of task) (plain_of plan))
    (λ i l. both_ways (c.in_ok-marks.ensures.marked i l) (endless_meaning task plan graph c.requires.graph c.deref.result.now ends i l))
    c.deref-2.result.now c.deref-2.ensures.value c.shortest_run.result c.shortest_run.ensures.shortest

pub returns-clause-none : goal.returns-clause-none
returns-clause-none g c =
    let task = c.args.task.now in
    let plan = c.args.plan.now in
    let graph = c.args.graph.now in
    let ends = subst (λ (ms : List Bool). (i : ℕ) → i < graph_size graph → IsMarked ms i ↔ (followers_at graph i ≡ [])) (sym c.deref.ensures.value) c.in_ok-ends.ensures.marked in
    missing task plan graph c.requires.graph c.in_ok-marks.marks.items (IsEndless (system_of task) (plain_of plan))
    (λ i l. both_ways (c.in_ok-marks.ensures.marked i l) (endless_meaning task plan graph c.requires.graph c.deref.result.now ends i l))
    c.deref-2.result.now c.deref-2.ensures.value c.shortest_run.result c.shortest_run.ensures.none
