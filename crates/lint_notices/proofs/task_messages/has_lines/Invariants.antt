use Rattle.std.proofs.Common.{◌≡◌, drop, nat_eq}
use Rattle.std.specs.List.{list_any}
use Rattle.lint_notices.proofs.task_messages.has_lines.Given as goal

abbrev pub invariant-loop-byte : goal.invariant-loop-byte
invariant-loop-byte l = list_any (nat_eq 10) (drop l.byte-index l.text) ≡ list_any (nat_eq 10) l.text
