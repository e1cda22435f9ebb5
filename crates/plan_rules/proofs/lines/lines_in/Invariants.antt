-- The lines so far, and those of the forms that are left, are together all.
use Rattle.std.proofs.Common.{◌≡◌, ◌++◌, drop}
use Rattle.plan_rules.specs.Lines.{group_lines}
use Rattle.sexpr_text.specs.Forest.{forest_of}
use Rattle.plan_rules.proofs.lines.lines_in.Given as goal

abbrev pub invariant-loop-form : goal.invariant-loop-form
invariant-loop-form l = l.lines.items ++ group_lines (forest_of (drop l.form-index l.row)) ≡ group_lines (forest_of l.row)
