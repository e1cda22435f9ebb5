use Rattle.std.proofs.Common.{length}
use Rattle.pulgazer_top.proofs.requests.+input_again.Given as goal

abbrev pub decreases-input_again : goal.decreases-input_again
decreases-input_again l = length l.operands.now
