-- The text so far, and that of the lines that are left, are together the whole.
use Rattle.std.proofs.Common.{◌≡◌, ◌++◌, drop, map, string_bytes}
use Rattle.task_core.specs.Names.{name_bytes}
use Rattle.goal_witness.specs.Lines.{line_value}
use Rattle.goal_witness.specs.Texts.{false_lines}
use Rattle.goal_witness.proofs.texts.push_lines.Given as goal

abbrev pub invariant-loop-line : goal.invariant-loop-line
invariant-loop-line l =
    string_bytes l.out ++ false_lines (map name_bytes l.fluents) (map line_value (drop l.line-index l.lines))
    ≡ string_bytes l.fn.out ++ false_lines (map name_bytes l.fluents) (map line_value l.lines)
