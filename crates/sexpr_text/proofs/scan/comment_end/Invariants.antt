use Rattle.std.proofs.Common.{◌≡◌, ℕ, ◌-◌, ◌<◌, ◌≤◌, false, length, get_or}
use Rattle.sexpr_text.specs.Lexis.{is_line_feed}
use Rattle.sexpr_text.proofs.scan.comment_end.Given as goal

abbrev pub invariant-loop-end : goal.invariant-loop-end
invariant-loop-end l =
    (l.start ≤ l.end) × (l.end ≤ length l.bytes)
    × ((k : ℕ) → l.start ≤ k → k < l.end → is_line_feed (get_or l.bytes k 0) ≡ false)

abbrev pub decreases-loop-end : goal.decreases-loop-end
decreases-loop-end l = length l.bytes - l.end
