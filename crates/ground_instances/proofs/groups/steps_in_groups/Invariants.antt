use Rattle.std.proofs.Common.{◌≡◌, ℕ, ◌<◌, ◌⊎◌, length, get_or}
use Rattle.ground_instances.proofs.groups.steps_in_groups.Given as goal

abbrev pub invariant-loop-kind : goal.invariant-loop-kind
invariant-loop-kind l = record {
  all_types : length l.steps.items ≡ l.kind;
  step : (t : ℕ) → t < l.kind → (get_or l.steps.items t 0 ≡ t)
      ⊎ ((get_or l.steps.items t 0 ≡ get_or l.parents t 0) × (get_or l.below (get_or l.parents t 0) 0 ≡ t));
}
