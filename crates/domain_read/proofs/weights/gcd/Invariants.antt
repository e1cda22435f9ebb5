use Rattle.std.proofs.Common.{ℕ, ◌<◌}
use Rattle.std.specs.Int.{IsGcd}
use Rattle.domain_read.proofs.weights.gcd.Given as goal

abbrev pub invariant-loop-lesser : goal.invariant-loop-lesser
invariant-loop-lesser l = (0 < l.greater) × ((g : ℕ) → IsGcd l.greater l.lesser g → IsGcd l.a l.b g)

abbrev pub decreases-loop-lesser : goal.decreases-loop-lesser
decreases-loop-lesser l = l.lesser
