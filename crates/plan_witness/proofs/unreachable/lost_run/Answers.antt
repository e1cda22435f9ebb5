use Rattle.std.proofs.Common.{◌≡◌, ◌↔◌, ◌<◌, ℕ, Bool, List, Some, sym, ap, ◌∙◌, subst}
use Rattle.std.specs.Option.{option_copied}
use Rattle.task_core.specs.Tasks.{fluent_count, system_of}
use Rattle.plan_rules.specs.Rules.{plain_of}
use Rattle.exec_graph.specs.Values.{followers_at, graph_size}
use Rattle.plan_check.specs.Plain.{IsGoalEnd}
use Rattle.plan_check.specs.Walks.{IsMarked, LeadsToMarked}
use Rattle.plan_check.proofs.GraphVerdicts.{goal_below, goal_small}
use Rattle.plan_check.proofs.SpreadSteps.{graph_turned}
use Rattle.plan_witness.specs.Ends.{IsLostStart}
use Rattle.plan_witness.proofs.Meanings.{both_ways, missing, lost_meaning, shown}
use Rattle.plan_witness.proofs.unreachable.lost_run.Goals as goal

pub goal_ends-requires : goal.goal_ends-requires
goal_ends-requires g c = goal_small c.args.task.now c.unwrap.result.now (sym c.as_ref.ensures.value ∙ ap option_copied c.unwrap.ensures)

pub not_leading-requires-clause-turned : goal.not_leading-requires-clause-turned
not_leading-requires-clause-turned g c = graph_turned (system_of c.args.task.now) (plain_of c.args.plan.now) (fluent_count c.args.task.now) c.args.graph.now c.requires.graph

pub returns-clause-shortest : goal.returns-clause-shortest
returns-clause-shortest g c =
    let task = c.args.task.now in
    let plan = c.args.plan.now in
    let graph = c.args.graph.now in
    let goal_is : task.goal ≡ Some c.unwrap.result.now = sym c.as_ref.ensures.value ∙ ap option_copied c.unwrap.ensures in
    let ends = subst (λ (ms : List Bool). (i : ℕ) → i < graph_size graph → IsMarked ms i ↔ IsGoalEnd (fluent_count task) c.unwrap.result.now graph i) (sym c.deref.ensures.value) (λ i l. c.in_ok-ends.ensures.marked (fluent_count task) i (goal_below task c.unwrap.result.now goal_is) l) in
    let lost = subst (λ (ms : List Bool). (i : ℕ) → i < graph_size graph → IsMarked ms i ↔ (LeadsToMarked (followers_at graph) c.deref.result.now i → ⊥)) (sym c.deref-2.ensures.value) c.in_ok-lost.ensures.marked in
    shown task plan graph c.requires.graph c.in_ok-marks.marks.items (IsLostStart (system_of task) (plain_of plan))
    (λ i l. both_ways (c.in_ok-marks.ensures.marked i l) (lost_meaning task plan graph c.requires.graph c.unwrap.result.now goal_is c.deref.result.now ends c.deref-2.result.now lost i l))
    c.deref-3.result.now c.deref-3.ensures.value c.shortest_run.result c.shortest_run.ensures.shortest

pub returns-clause-none : goal.returns-clause-none
returns-clause-none g c =
    let task = c.args.task.now in
    let plan = c.args.plan.now in
    let graph = c.args.graph.now in
    let goal_is : task.goal ≡ Some c.unwrap.result.now = sym c.as_ref.ensures.value ∙ ap option_copied c.unwrap.ensures in
    let ends = subst (λ (ms : List Bool). (i : ℕ) → i < graph_size graph → IsMarked ms i ↔ IsGoalEnd (fluent_count task) c.unwrap.result.now graph i) (sym c.deref.ensures.value) (λ i l. c.in_ok-ends.ensures.marked (fluent_count task) i (goal_below task c.unwrap.result.now goal_is) l) in
    let lost = subst (λ (ms : List Bool). (i : ℕ) → i < graph_size graph → IsMarked ms i ↔ (LeadsToMarked (followers_at graph) c.deref.result.now i → ⊥)) (sym c.deref-2.ensures.value) c.in_ok-lost.ensures.marked in
    missing task plan graph c.requires.graph c.in_ok-marks.marks.items (IsLostStart (system_of task) (plain_of plan))
    (λ i l. both_ways (c.in_ok-marks.ensures.marked i l) (lost_meaning task plan graph c.requires.graph c.unwrap.result.now goal_is c.deref.result.now ends c.deref-2.result.now lost i l))
    c.deref-3.result.now c.deref-3.ensures.value c.shortest_run.result c.shortest_run.ensures.none
