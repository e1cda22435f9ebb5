use Rattle.std.proofs.Common.{◌≡◌, ℕ, ◌<◌, ◌-◌, length, get_or}
use Rattle.pddl_ast.specs.Fits.{ancestor}
use Rattle.ground_instances.proofs.groups.far_steps.Given as goal

abbrev pub invariant-loop-count : goal.invariant-loop-count
invariant-loop-count l = record {
  some : 0 < l.count;
  all_types : length l.far.items ≡ length l.steps;
  led : (t : ℕ) → t < length l.steps → get_or l.far.items t 0 ≡ ancestor l.steps l.count t;
}

abbrev pub decreases-loop-count : goal.decreases-loop-count
decreases-loop-count l = length l.steps - l.count
