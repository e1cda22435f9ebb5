use Rattle.std.proofs.Common.{inr}
use Rattle.trace_command.proofs.shown.show_run.Goals as goal

pub returns : goal.returns
returns c = inr c.in_ok-told_run.ensures
