-- How many parts a condition has.
use Rattle.std.proofs.Common.{ℕ, suc, ◌+◌, List, [], ◌∷◌}
use Rattle.task_core.specs.declared.conditions.Cond.TheOpen.{Cond-F, Yes, No, Is, Not, All, Any}

-- the sum of some numbers, each with one more
abbrev pub total_of : List ℕ → ℕ
total_of [] = 0
total_of (n ∷ ns) = suc n + total_of ns

-- one layer of the number of all parts
abbrev pub weight_step : Cond-F ℕ → ℕ
weight_step Yes = 1
weight_step No = 1
weight_step (Is f) = 1
weight_step (Not part) = suc part.value
weight_step (All parts) = suc (total_of parts.items)
weight_step (Any parts) = suc (total_of parts.items)
