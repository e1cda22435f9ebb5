use Rattle.task_core.specs.Tasks.{system_of}
use Rattle.plan_rules.specs.Rules.{plain_of}
use Rattle.exec_graph.specs.Executions.{IsStuckAt}
use Rattle.plan_witness.proofs.Meanings.{missing, shown}
use Rattle.plan_witness.proofs.stuck.stuck_run.Goals as goal

pub returns-clause-shortest : goal.returns-clause-shortest
returns-clause-shortest g c =
    let task = c.args.task.now in
    let plan = c.args.plan.now in
    let graph = c.args.graph.now in
    shown task plan graph c.requires.graph c.in_ok-marks.marks.items (IsStuckAt (system_of task) (plain_of plan))
    c.in_ok-marks.ensures.marked
    c.deref.result.now c.deref.ensures.value c.shortest_run.result c.shortest_run.ensures.shortest

pub returns-clause-none : goal.returns-clause-none
returns-clause-none g c =
    let task = c.args.task.now in
    let plan = c.args.plan.now in
    let graph = c.args.graph.now in
    missing task plan graph c.requires.graph c.in_ok-marks.marks.items (IsStuckAt (system_of task) (plain_of plan))
    c.in_ok-marks.ensures.marked
    c.deref.result.now c.deref.ensures.value c.shortest_run.result c.shortest_run.ensures.none
