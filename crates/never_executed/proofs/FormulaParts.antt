-- The parts of a conjunction.
use Rattle.std.proofs.Common.{◌≡◌, ◌∙◌, List, [], ◌∷◌, ap, map, refl, sym}
use Rattle.std.specs.Prelude.{Vec}
use Rattle.std.specs.declared.alloc.Global.{Global}
use Rattle.pddl_ast.specs.Trees.{FormulaTree, all, formula_row}
use Rattle.pddl_ast.specs.Values.{formula_step, formula_value}
use Rattle.pddl_ast.specs.declared.trees.Formula.{Formula}
use Rattle.pddl_ast.specs.declared.trees.Formula.TheOpen as Open
use Rattle.pddl_ast.specs.declared.trees.Formula.TheVariants as Shut
use Rattle.pddl_ast.specs.declared.trees.Formula.TheFolds.{fold-roll-Formula}
use Rattle.never_executed.specs.Causes.{formula_parts, listed}

formula_All : (parts : Vec Formula Global) → formula_value (Shut.All parts) ≡ all (formula_row (map formula_value parts.items))
formula_All parts = ap formula_value (sym (Shut.rolls-All parts)) ∙ fold-roll-Formula FormulaTree formula_step (Open.All parts)

listed_row : (fs : List FormulaTree) → listed (formula_row fs) ≡ fs
listed_row [] = refl
listed_row (f ∷ fs) = ap (λ gs. f ∷ gs) (listed_row fs)

-- the parts of a conjunction, by the list of them
pub parts_are : (formula : Formula) (parts : Vec Formula Global) (shown : List Formula) → formula ≡ Shut.All parts → shown ≡ parts.items
    → map formula_value shown ≡ formula_parts (formula_value formula)
parts_are formula parts shown is same =
    ap (map formula_value) same ∙ sym (listed_row (map formula_value parts.items)) ∙ sym (ap formula_parts (formula_All parts)) ∙ ap (λ f. formula_parts (formula_value f)) (sym is)
