use Rattle.control_command.proofs.FairAnswers.{can_be_judged, fairly_refused, fairly_shown}
use Rattle.control_command.proofs.fair_controllers.judged_controller.Goals as goal

pub shown_found-requires : goal.shown_found-requires
shown_found-requires c = can_be_judged c.args.sought.now c.args.task.now c.requires c.wanted.result c.wanted.ensures

pub returns-clause-shown : goal.returns-clause-shown
returns-clause-shown c = fairly_shown c.args.sought.now c.args.task.now c.requires c.wanted.result c.wanted.ensures c.shown_found.result c.shown_found.ensures.shown

pub returns-clause-refused : goal.returns-clause-refused
returns-clause-refused c = fairly_refused c.args.sought.now c.args.task.now c.requires c.wanted.result c.wanted.ensures c.shown_found.result c.shown_found.ensures.refused
