use Rattle.std.proofs.Common.{length}
use Rattle.pulgazer_top.proofs.nearest.+nearest_known.Given as goal

abbrev pub decreases-nearest_known : goal.decreases-nearest_known
decreases-nearest_known l = length l.known.now
