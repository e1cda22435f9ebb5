use Rattle.std.proofs.Common.{◌≤◌}
use Rattle.domain_read.proofs.Replaced.{IsWrittenUpTo}
use Rattle.domain_read.proofs.edits.overwrite.Given as goal

abbrev pub invariant-loop-place : goal.invariant-loop-place
invariant-loop-place l =
    (l.fn.span.start ≤ l.place) × IsWrittenUpTo (record { span = l.fn.span; text = l.bytes }) l.fn.text l.text l.place
