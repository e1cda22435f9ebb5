use Rattle.exec_graph.specs.Values.{plain_graph}
use Rattle.task_core.specs.Tasks.{fluent_count}
use Rattle.control_command.proofs.ServedParts.{found_told, none_holds, serving_for}
use Rattle.control_command.proofs.plan_controllers.shown_serving.Goals as goal

pub shown_proved-requires-clause-control : goal.shown_proved-requires-clause-control
shown_proved-requires-clause-control c =
    let s = c.args.sought.now in
    serving_for s c.requires.ready c.args.found.now c.requires.found (plain_graph (fluent_count s.grounded.now.task) c.args.graph.now) c.in_ok-part.field-0 c.in-Some.part c.in-Some.is c.requires.graph
    c.in_ok-part.ensures.part c.in_ok-part.ensures.in_task

pub unreachable-requires : goal.unreachable-requires
unreachable-requires c =
    none_holds c.in_ok-part.field-0 c.in-None.is c.in_ok-part.ensures.none (found_told c.args.sought.now c.requires.ready c.args.found.now c.requires.found)
