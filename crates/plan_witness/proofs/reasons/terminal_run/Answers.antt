use Rattle.std.proofs.Common.{◌≡◌, Some, sym, ap, ◌∙◌}
use Rattle.std.specs.Option.{option_copied}
use Rattle.task_core.specs.Tasks.{fluent_count, system_of}
use Rattle.plan_rules.specs.Rules.{plain_of}
use Rattle.plan_check.proofs.GraphVerdicts.{goal_below, goal_small}
use Rattle.plan_witness.specs.Ends.{IsEndOutside}
use Rattle.plan_witness.proofs.Meanings.{both_ways, missing, outside_meaning, shown}
use Rattle.plan_witness.proofs.reasons.terminal_run.Goals as goal

pub ends_outside-requires : goal.ends_outside-requires
ends_outside-requires g c = goal_small c.args.task.now c.unwrap.result.now (sym c.as_ref.ensures.value ∙ ap option_copied c.unwrap.ensures)

pub returns-clause-shortest : goal.returns-clause-shortest
returns-clause-shortest g c =
    let task = c.args.task.now in
    let plan = c.args.plan.now in
    let graph = c.args.graph.now in
    let goal_is : task.goal ≡ Some c.unwrap.result.now = sym c.as_ref.ensures.value ∙ ap option_copied c.unwrap.ensures in
    shown task plan graph c.requires.graph c.in_ok-marks.marks.items (IsEndOutside (system_of task) (plain_of plan))
    (λ i l. both_ways (c.in_ok-marks.ensures.marked (fluent_count task) i (goal_below task c.unwrap.result.now goal_is) l) (outside_meaning task plan graph c.requires.graph c.unwrap.result.now goal_is i l))
    c.deref.result.now c.deref.ensures.value c.shortest_run.result c.shortest_run.ensures.shortest

pub returns-clause-none : goal.returns-clause-none
returns-clause-none g c =
    let task = c.args.task.now in
    let plan = c.args.plan.now in
    let graph = c.args.graph.now in
    let goal_is : task.goal ≡ Some c.unwrap.result.now = sym c.as_ref.ensures.value ∙ ap option_copied c.unwrap.ensures in
    missing task plan graph c.requires.graph c.in_ok-marks.marks.items (IsEndOutside (system_of task) (plain_of plan))
    (λ i l. both_ways (c.in_ok-marks.ensures.marked (fluent_count task) i (goal_below task c.unwrap.result.now goal_is) l) (outside_meaning task plan graph c.requires.graph c.unwrap.result.now goal_is i l))
    c.deref.result.now c.deref.ensures.value c.shortest_run.result c.shortest_run.ensures.none
