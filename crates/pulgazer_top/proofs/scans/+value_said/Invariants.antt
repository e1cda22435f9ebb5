use Rattle.std.proofs.Common.{length}
use Rattle.pulgazer_top.proofs.scans.+value_said.Given as goal

abbrev pub decreases-value_said : goal.decreases-value_said
decreases-value_said l = length l.options.now
