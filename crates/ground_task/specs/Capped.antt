-- Private: counts of outcomes that stand at one more than their limit.
use Rattle.std.specs.Prelude.{ℕ, Bool, min, nat_le}
use Rattle.pddl_ast.specs.Trees.{SchemaTree}
use Rattle.pddl_system.specs.Settings.{Setting}
use Rattle.pddl_system.specs.Sizes.{most_outcomes_of_one, outcome_count}

-- a count itself, or 65 where it is more than 64
abbrev pub capped : ℕ → ℕ
capped n = min n 65

-- whether the instances of an action have few outcomes
abbrev pub has_few : Setting → SchemaTree → Bool
has_few at s = nat_le (outcome_count at.objects s.effect) most_outcomes_of_one
