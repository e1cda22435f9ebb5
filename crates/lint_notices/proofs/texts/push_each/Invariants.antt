-- The text so far, and the lines of the notices that are left, are together the whole.
use Rattle.std.proofs.Common.{◌≡◌, ◌++◌, drop, map, string_bytes}
use Rattle.std.specs.List.{flat_map}
use Rattle.lint_notices.specs.Texts.{notice_line}
use Rattle.lint_notices.specs.Values.{names_value, notice_value}
use Rattle.lint_notices.proofs.texts.push_each.Given as goal

abbrev pub invariant-loop-notice : goal.invariant-loop-notice
invariant-loop-notice l =
    string_bytes l.out ++ flat_map (notice_line (names_value l.names)) (map notice_value (drop l.notice-index l.notices))
    ≡ string_bytes l.fn.out ++ flat_map (notice_line (names_value l.names)) (map notice_value l.notices)
