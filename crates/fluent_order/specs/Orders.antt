-- What an order is.
use Rattle.std.specs.Prelude.{ℕ, List}
use Rattle.std.specs.List.{range_with_len}
use Rattle.std.specs.List.Sorted.{IsPermutation}

-- each of the n numbers below n stands in the list once, and nothing else does
abbrev pub IsOrderOf : ℕ → List ℕ → Type 0
IsOrderOf n places = IsPermutation (range_with_len 0 n) places
