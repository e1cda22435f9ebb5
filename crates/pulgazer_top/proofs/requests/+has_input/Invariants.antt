use Rattle.std.proofs.Common.{length}
use Rattle.pulgazer_top.proofs.requests.+has_input.Given as goal

abbrev pub decreases-has_input : goal.decreases-has_input
decreases-has_input l = length l.operands.now
