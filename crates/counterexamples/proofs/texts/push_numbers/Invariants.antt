-- The text so far, and the numbers that are left, are together the whole.
use Rattle.std.proofs.Common.{◌≡◌, ◌++◌, drop, string_bytes}
use Rattle.counterexamples.specs.Texts.{numbers_from, numbers_text}
use Rattle.counterexamples.proofs.texts.push_numbers.Given as goal

abbrev pub invariant-loop-place : goal.invariant-loop-place
invariant-loop-place l = string_bytes l.out ++ numbers_from l.place (drop l.place l.numbers) ≡ string_bytes l.fn.out ++ numbers_text l.numbers
