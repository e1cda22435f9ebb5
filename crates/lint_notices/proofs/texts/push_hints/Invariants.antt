-- The text so far, and the lines of the hints that are left, are together the whole.
use Rattle.std.proofs.Common.{◌≡◌, ◌++◌, drop, map, string_bytes}
use Rattle.std.specs.List.{flat_map}
use Rattle.lint_notices.specs.Texts.{hint_line}
use Rattle.lint_notices.specs.Values.{names_value, notice_value}
use Rattle.lint_notices.proofs.texts.push_hints.Given as goal

abbrev pub invariant-loop-hint : goal.invariant-loop-hint
invariant-loop-hint l =
    string_bytes l.out ++ flat_map (hint_line (names_value l.names)) (map notice_value (drop l.hint-index l.hints))
    ≡ string_bytes l.fn.out ++ flat_map (hint_line (names_value l.names)) (map notice_value l.hints)
