use Rattle.dd_sets.proofs.cubes.+walk.Given as goal

abbrev pub decreases-walk : goal.decreases-walk
decreases-walk l = l.number.0
