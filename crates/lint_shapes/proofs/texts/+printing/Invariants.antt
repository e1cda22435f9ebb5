-- The text so far, and what is left of the formulas, are together the whole.
use Rattle.std.proofs.Common.{◌≡◌, ◌++◌, drop, map}
use Rattle.pddl_ast.specs.Trees.{formula_row}
use Rattle.pddl_ast.specs.Values.{formula_value}
use Rattle.lint_shapes.specs.Texts.{names_of, row_text}
use Rattle.lint_shapes.proofs.texts.+printing.Given as goal

abbrev pub invariant-push_row-loop-formula : goal.invariant-push_row-loop-formula
invariant-push_row-loop-formula l = l.out.items ++ row_text (names_of l.domain) l.scope (formula_row (map formula_value (drop l.formula-index l.formulas)))
    ≡ l.fn.out.items ++ row_text (names_of l.domain) l.scope (formula_row (map formula_value l.formulas))
