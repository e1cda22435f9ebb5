use Rattle.std.proofs.Common.{◌≡◌, ◌++◌, drop, map}
use Rattle.sexpr_text.specs.Forest.{forest_of}
use Rattle.pddl_ast.specs.Formulas as formula
use Rattle.pddl_ast.specs.Environment.{known_value}
use Rattle.pddl_ast.specs.Values.{formula_value}
use Rattle.pddl_ast.proofs.Weights.{weight}
use Rattle.pddl_ast.proofs.formulas.+reading.Given as goal

abbrev pub invariant-read_formulas-loop-form : goal.invariant-read_formulas-loop-form
invariant-read_formulas-loop-form l =
    (l.scope ≡ l.fn.scope)
    × (formula.formulas_flaws (known_value l.known) (forest_of l.row) l.fn.scope
    ≡ formula.formulas_flaws (known_value l.known) (forest_of (drop l.form-index l.row)) l.fn.scope)
    × (formula.formulas_of (known_value l.known) (forest_of l.row) l.fn.scope
    ≡ map formula_value l.formulas.items ++ formula.formulas_of (known_value l.known) (forest_of (drop l.form-index l.row)) l.fn.scope)

abbrev pub decreases-read_formula : goal.decreases-read_formula
decreases-read_formula l = weight (forest_of l.parts.now)

abbrev pub decreases-read_formulas : goal.decreases-read_formulas
decreases-read_formulas l = weight (forest_of l.row.now)

abbrev pub decreases-read_quantifier : goal.decreases-read_quantifier
decreases-read_quantifier l = weight (forest_of l.rest.now)
