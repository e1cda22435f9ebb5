-- Counts that stand at a bound: above the greatest number that a limit asks for they don't grow.
use Rattle.std.specs.Prelude.{ℕ, min}

-- what is shown of a number: itself, or 1,000,001, which is more than every limit
abbrev pub shown : ℕ → ℕ
shown n = min n 1000001
