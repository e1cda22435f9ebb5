-- The eighth pass over a domain's text: its invariant, a formula without free variables.
use Rattle.std.specs.Prelude.{List, [], ◌∷◌}
use Rattle.sexpr_text.specs.declared.faults.FaultKind.TheVariants.{BadForm}
use Rattle.sexpr_text.specs.Forest.{Forest, nothing, word, group}
use Rattle.sexpr_text.specs.Flaws.{Flaw, flaw_at}
use Rattle.pddl_ast.specs.Known.{Known}
use Rattle.pddl_ast.specs.Formulas.{always, formula_flaws, formula_of}
use Rattle.pddl_ast.specs.Trees.{FormulaTree}

-- what is wrong with the invariant, by what follows the word `:invariant`
abbrev pub invariant_flaws : Known → Forest → List Flaw
invariant_flaws known nothing = []
invariant_flaws known (word span w rest) = flaw_at span BadForm ∷ []
invariant_flaws known (group span parts rest) = formula_flaws known parts span []

-- the formula that it is. Without one every vector is a state
abbrev pub invariant_of : Known → Forest → FormulaTree
invariant_of known nothing = always
invariant_of known (word span w rest) = always
invariant_of known (group span parts rest) = formula_of known parts []
