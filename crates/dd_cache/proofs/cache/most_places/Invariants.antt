-- Each power of two before the last is below an eighth of the limit.
use Rattle.std.proofs.Common.{◌<◌, ◌≤◌, ◌-◌, ◌/◌, max}
use Rattle.dd_cache.proofs.cache.most_places.Given as goal

abbrev pub invariant-loop-most : goal.invariant-loop-most
invariant-loop-most l = (0 < l.most) × (l.most ≤ max 1 (l.limit / 4))

abbrev pub decreases-loop-most : goal.decreases-loop-most
decreases-loop-most l = l.limit / 8 - l.most
