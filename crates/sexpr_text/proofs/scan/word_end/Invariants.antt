use Rattle.std.proofs.Common.{◌≡◌, ℕ, ◌-◌, ◌<◌, ◌≤◌, true, length, get_or}
use Rattle.sexpr_text.specs.Lexis.{is_word_byte}
use Rattle.sexpr_text.proofs.scan.word_end.Given as goal

abbrev pub invariant-loop-end : goal.invariant-loop-end
invariant-loop-end l =
    (l.start ≤ l.end) × (l.end ≤ length l.bytes)
    × ((k : ℕ) → l.start ≤ k → k < l.end → is_word_byte (get_or l.bytes k 0) ≡ true)

abbrev pub decreases-loop-end : goal.decreases-loop-end
decreases-loop-end l = length l.bytes - l.end
