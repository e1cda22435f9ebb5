use Rattle.std.proofs.Common.{Ok}
use Rattle.control_command.proofs.Yes.{can_judge, shown_for}
use Rattle.control_command.proofs.search_controllers.table_controller.Goals as goal

pub shown_table-requires : goal.shown_table-requires
shown_table-requires c = can_judge c.judged_plans_control.ensures c.args.sought.now c.requires c.wanted.result c.wanted.ensures

pub returns-in-Ok-clause-shown : goal.returns-in-Ok-clause-shown
returns-in-Ok-clause-shown c =
    shown_for c.judged_plans_control.ensures c.args.sought.now c.requires c.wanted.result c.wanted.ensures (Ok c.in-Ok.found) c.in-Ok.ensures.shown
