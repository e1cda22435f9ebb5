-- Each child has a lower number.
use Rattle.dd_sets.proofs.rebuild.+rebuild.Given as goal

abbrev pub decreases-rebuild : goal.decreases-rebuild
decreases-rebuild l = l.number.0
