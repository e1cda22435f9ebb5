use Rattle.std.proofs.Common.{refl}
use Rattle.control_command.specs.declared.sought.Found.{Found}
use Rattle.control_command.proofs.ServedParts.{planned_found, planned_long, planned_told}
use Rattle.control_command.proofs.plan_controllers.controller_of_found.Goals as goal

pub write_controller-requires-clause-told : goal.write_controller-requires-clause-told
write_controller-requires-clause-told c =
    planned_told c.args.sought.now c.requires.ready c.args.plan.now c.requires.in_task c.requires.found

pub controller_of_plan-requires-clause-found : goal.controller_of_plan-requires-clause-found
controller_of_plan-requires-clause-found c =
    let found : Found = record { text = c.deref.result; plan = c.args.plan } in
    planned_found c.args.sought.now c.requires.ready c.args.plan.now c.requires.in_task c.requires.found found c.in_ok-text.field-0 c.in-Some.text refl c.deref.ensures.value c.in-Some.is c.in_ok-text.ensures.text

pub at_last-requires-clause-long : goal.at_last-requires-clause-long
at_last-requires-clause-long c =
    planned_long c.args.sought.now c.requires.ready c.args.plan.now c.requires.in_task c.requires.found c.in_ok-text.field-0 c.in-None.is c.in_ok-text.ensures.text
