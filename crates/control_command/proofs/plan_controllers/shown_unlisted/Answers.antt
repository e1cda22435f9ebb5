use Rattle.std.proofs.Common.{ap}
use Rattle.command_base.specs.Values.{kind_of, limit_of}
use Rattle.control_command.proofs.ServedParts.{large_for, whole_for}
use Rattle.control_command.proofs.plan_controllers.shown_unlisted.Goals as goal

pub shown_proved-requires-clause-control : goal.shown_proved-requires-clause-control
shown_proved-requires-clause-control c =
    whole_for c.args.sought.now c.requires.ready c.args.found.now c.requires.found c.in-Class.field-0 (limit_of c.args.limit) (ap kind_of c.in-Class.is) c.requires.large

pub returns-in-Contexts-clause-refused : goal.returns-in-Contexts-clause-refused
returns-in-Contexts-clause-refused c = large_for c.args.sought.now c.requires.ready c.args.found.now c.requires.found c.args.limit (ap kind_of c.in-Contexts.is) c.requires.large
