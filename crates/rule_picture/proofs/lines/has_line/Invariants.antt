-- None of the lines so far is the same.
use Rattle.std.proofs.Common.{◌≡◌, drop}
use Rattle.std.specs.List.{list_any}
use Rattle.std.specs.Str.{bytes_eq}
use Rattle.rule_picture.specs.Values.{bytes_of}
use Rattle.rule_picture.proofs.lines.has_line.Given as goal

abbrev pub invariant-loop-other : goal.invariant-loop-other
invariant-loop-other l = list_any (bytes_eq l.line) (bytes_of (drop l.other-index l.lines)) ≡ list_any (bytes_eq l.line) (bytes_of l.lines)
