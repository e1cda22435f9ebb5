-- Each half has fewer cubes.
use Rattle.std.proofs.Common.{length}
use Rattle.cert_check.proofs.halves.+lists_of.Given as goal

abbrev pub decreases-lists_of : goal.decreases-lists_of
decreases-lists_of l = length l.cubes.now
