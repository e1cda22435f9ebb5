use Rattle.control_command.proofs.ServedParts.{proved_guarded, proved_refused, proved_shown, proved_within}
use Rattle.control_command.proofs.plan_controllers.shown_proved.Goals as goal

pub shown_text-requires-clause-told : goal.shown_text-requires-clause-told
shown_text-requires-clause-told c = c.requires.control.controller.told

pub shown_text-requires-clause-in_task : goal.shown_text-requires-clause-in_task
shown_text-requires-clause-in_task c = proved_within c.args.sought.now c.requires.ready c.args.plan.now c.requires.control c.wanted.result c.wanted.ensures

pub shown_text-requires-clause-guarded : goal.shown_text-requires-clause-guarded
shown_text-requires-clause-guarded c = proved_guarded c.args.sought.now c.requires.ready c.args.plan.now c.requires.control c.wanted.result c.wanted.ensures

pub returns-in-Ok-clause-shown : goal.returns-in-Ok-clause-shown
returns-in-Ok-clause-shown c =
    proved_shown c.args.sought.now c.requires.ready c.args.plan.now c.requires.control c.wanted.result c.wanted.ensures c.in-Ok.shown c.in-Ok.ensures.shown

pub returns-in-Err-clause-refused : goal.returns-in-Err-clause-refused
returns-in-Err-clause-refused c =
    proved_refused c.args.sought.now c.requires.ready c.args.plan.now c.requires.control c.wanted.result c.wanted.ensures c.in-Err.refusal c.in-Err.ensures.refused
