use Rattle.std.proofs.Common.{◌≡◌, ◌++◌, drop, map}
use Rattle.sexpr_text.specs.Forest.{forest_of}
use Rattle.lint_mistakes.specs.Values.{vocabulary_value}
use Rattle.lint_mistakes.specs.WrongTypes.{wrong_in_row}
use Rattle.pddl_ast.proofs.Weights.{weight}
use Rattle.lint_mistakes.proofs.vocabulary.Vocabulary.+searching.Given as goal

abbrev pub invariant-add_in_row-loop-form : goal.invariant-add_in_row-loop-form
invariant-add_in_row-loop-form l =
    (l.scope.items ≡ l.fn.scope.items)
    × (l.found.items ++ wrong_in_row (vocabulary_value l.self) (map (λ row. forest_of row.now) l.fn.scope.items) (forest_of (drop l.form-index l.row))
    ≡ l.fn.found.items ++ wrong_in_row (vocabulary_value l.self) (map (λ row. forest_of row.now) l.fn.scope.items) (forest_of l.row))

abbrev pub decreases-add_in_row : goal.decreases-add_in_row
decreases-add_in_row l = weight (forest_of l.row.now)

abbrev pub decreases-add_in_list : goal.decreases-add_in_list
decreases-add_in_list l = weight (forest_of l.parts.now)
