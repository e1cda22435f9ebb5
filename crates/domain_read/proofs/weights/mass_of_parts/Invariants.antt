use Rattle.std.proofs.Common.{◌≡◌, ◌+◌, ◌≤◌, drop, true}
use Rattle.sexpr_text.specs.Forest.{forest_of}
use Rattle.domain_read.specs.Weights as weights
use Rattle.domain_read.proofs.weights.mass_of_parts.Given as goal

abbrev pub invariant-loop-form : goal.invariant-loop-form
invariant-loop-form l =
    (l.sum ≤ l.parts)
    × (weights.sum_of l.parts (weights.weights_of true (forest_of l.row))
    ≡ l.sum + weights.sum_of l.parts (weights.weights_of l.is_weight (forest_of (drop l.form-index l.row))))
