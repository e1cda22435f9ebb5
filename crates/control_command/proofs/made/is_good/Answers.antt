use Rattle.control_command.proofs.Yes.{ok_holds}
use Rattle.control_command.proofs.made.is_good.Goals as goal

pub returns-clause-guarded : goal.returns-clause-guarded
returns-clause-guarded c = ok_holds c.is_controller.result (c.is_guarded_if.ensures c.if-not-is_guarded_if.false)
