use Rattle.std.proofs.Common.{◌≡◌, ◌<◌, length, ◌-◌}
use Rattle.pddl_domain.specs.Ancestors.{ancestors}
use Rattle.pddl_domain.proofs.loops.far_ancestors.Given as goal

abbrev pub invariant-loop-steps : goal.invariant-loop-steps
invariant-loop-steps l = record { some : 0 < l.steps; far : l.far.items ≡ ancestors l.parents l.steps }

abbrev pub decreases-loop-steps : goal.decreases-loop-steps
decreases-loop-steps l = length l.parents - l.steps
