use Rattle.std.proofs.Common.{◌≡◌, ◌≤◌, true, drop}
use Rattle.std.specs.Option.{option_and_then}
use Rattle.sexpr_text.specs.Forest.{forest_of}
use Rattle.domain_read.specs.Weights as weights
use Rattle.domain_read.proofs.weights.common_of.Given as goal

abbrev pub invariant-loop-form : goal.invariant-loop-form
invariant-loop-form l =
    (1 ≤ l.common) × (l.common ≤ weights.most_under)
    × (weights.common_of 1 (weights.weights_of true (forest_of l.row))
    ≡ weights.common_of l.common (weights.weights_of l.is_weight (forest_of (drop l.form-index l.row))))
