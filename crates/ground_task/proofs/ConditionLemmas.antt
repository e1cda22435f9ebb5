-- Conditions layer by layer: what each kind of formula becomes.
use Rattle.std.proofs.Common.{◌≡◌, ℕ, List, [], ◌∷◌, ◌++◌, map, refl, ap, sym, ◌∙◌}
use Rattle.std.specs.Prelude.{Vec, Box}
use Rattle.std.specs.declared.alloc.Global.{Global}
use Rattle.pddl_ast.specs.Trees.{AtomTree, FormulaTree, all, any, exists, forall, atom, formula_row}
use Rattle.pddl_ast.specs.Values.{formula_step, formula_value}
use Rattle.smallvec.specs.SmallVec.{SmallVec}
use Rattle.pddl_ast.specs.declared.trees.Term.{Term}
use Rattle.pddl_ast.specs.declared.trees.Formula.{Formula}
use Rattle.pddl_ast.specs.declared.trees.Formula.TheOpen as Open
use Rattle.pddl_ast.specs.declared.trees.Formula.TheVariants as Shut
use Rattle.pddl_ast.specs.declared.trees.Formula.TheFolds.{fold-roll-Formula}
use Rattle.task_core.specs.declared.conditions.Cond.{Cond}
use Rattle.task_core.specs.declared.conditions.Cond.TheOpen as OpenCond
use Rattle.task_core.specs.declared.conditions.Cond.TheVariants as ShutCond
use Rattle.task_core.specs.declared.conditions.Cond.TheFolds.{fold-roll-Cond}
use Rattle.pddl_system.specs.GroundAtoms.{atom_of}
use Rattle.pddl_system.specs.Objects.{bindings}
use Rattle.pddl_system.specs.Settings.{Setting}
use Rattle.ctl_syntax.specs.Conditions.{CondTree, all_of, any_of, condition_row, condition_then, condition_step, condition_value}
use Rattle.pddl_system.specs.Tasks.{atom_condition, condition_of, conditions_of}

pub value_All : (v : Vec Cond Global) → condition_value (ShutCond.All v) ≡ all_of (condition_row (map condition_value v.items))
value_All v = ap condition_value (sym (ShutCond.rolls-All v)) ∙ fold-roll-Cond CondTree condition_step (OpenCond.All v)

pub value_Any : (v : Vec Cond Global) → condition_value (ShutCond.Any v) ≡ any_of (condition_row (map condition_value v.items))
value_Any v = ap condition_value (sym (ShutCond.rolls-Any v)) ∙ fold-roll-Cond CondTree condition_step (OpenCond.Any v)

formula_Atom : (p : ℕ) (terms : SmallVec Term) → formula_value (Shut.Atom p terms) ≡ atom p terms.items
formula_Atom p terms = ap formula_value (sym (Shut.rolls-Atom p terms)) ∙ fold-roll-Formula FormulaTree formula_step (Open.Atom p terms)

formula_All : (parts : Vec Formula Global) → formula_value (Shut.All parts) ≡ all (formula_row (map formula_value parts.items))
formula_All parts = ap formula_value (sym (Shut.rolls-All parts)) ∙ fold-roll-Formula FormulaTree formula_step (Open.All parts)

formula_Any : (parts : Vec Formula Global) → formula_value (Shut.Any parts) ≡ any (formula_row (map formula_value parts.items))
formula_Any parts = ap formula_value (sym (Shut.rolls-Any parts)) ∙ fold-roll-Formula FormulaTree formula_step (Open.Any parts)

formula_Exists : (types : Vec ℕ Global) (part : Box Formula Global) → formula_value (Shut.Exists types part) ≡ exists types.items (formula_value part.value)
formula_Exists types part = ap formula_value (sym (Shut.rolls-Exists types part)) ∙ fold-roll-Formula FormulaTree formula_step (Open.Exists types part)

formula_Forall : (types : Vec ℕ Global) (part : Box Formula Global) → formula_value (Shut.Forall types part) ≡ forall types.items (formula_value part.value)
formula_Forall types part = ap formula_value (sym (Shut.rolls-Forall types part)) ∙ fold-roll-Formula FormulaTree formula_step (Open.Forall types part)

module _ (at : Setting) (fluents : List AtomTree) where
  conditions_row : (fs : List FormulaTree) (scope : List ℕ) → conditions_of at fluents (formula_row fs) scope ≡ condition_row (map (λ f. condition_of at fluents f scope) fs)
  conditions_row [] scope = refl
  conditions_row (f ∷ fs) scope = ap (condition_then (condition_of at fluents f scope)) (conditions_row fs scope)

  -- what a formula's condition is, by its kind. The parts and the scope may be given by other names
  pub of_Atom : (f : Formula) (p : ℕ) (terms : SmallVec Term) (given : List Term) (scope inner : List ℕ) → f ≡ Shut.Atom p terms → given ≡ terms.items → inner ≡ scope → atom_condition at fluents (atom_of inner p given) ≡ condition_of at fluents (formula_value f) scope
  of_Atom f p terms given scope inner is e same =
      ap (λ s. atom_condition at fluents (atom_of s p given)) same
      ∙ ap (λ ts. atom_condition at fluents (atom_of scope p ts)) e
      ∙ sym (ap (λ x. condition_of at fluents (formula_value x) scope) is ∙ ap (λ t. condition_of at fluents t scope) (formula_Atom p terms))

  pub of_All : (f : Formula) (parts : Vec Formula Global) (given : List Formula) (conds : Vec Cond Global) (scope : List ℕ) → f ≡ Shut.All parts → given ≡ parts.items
      → map condition_value conds.items ≡ map (λ f. condition_of at fluents f scope) (map formula_value given)
      → condition_value (ShutCond.All conds) ≡ condition_of at fluents (formula_value f) scope
  of_All f parts given conds scope is e made =
      value_All conds
      ∙ ap (λ row. all_of (condition_row row)) (made ∙ ap (λ fs. map (λ f. condition_of at fluents f scope) (map formula_value fs)) e)
      ∙ sym (ap (λ x. condition_of at fluents (formula_value x) scope) is ∙ ap (λ t. condition_of at fluents t scope) (formula_All parts) ∙ ap all_of (conditions_row (map formula_value parts.items) scope))

  pub of_Any : (f : Formula) (parts : Vec Formula Global) (given : List Formula) (conds : Vec Cond Global) (scope : List ℕ) → f ≡ Shut.Any parts → given ≡ parts.items
      → map condition_value conds.items ≡ map (λ f. condition_of at fluents f scope) (map formula_value given)
      → condition_value (ShutCond.Any conds) ≡ condition_of at fluents (formula_value f) scope
  of_Any f parts given conds scope is e made =
      value_Any conds
      ∙ ap (λ row. any_of (condition_row row)) (made ∙ ap (λ fs. map (λ f. condition_of at fluents f scope) (map formula_value fs)) e)
      ∙ sym (ap (λ x. condition_of at fluents (formula_value x) scope) is ∙ ap (λ t. condition_of at fluents t scope) (formula_Any parts) ∙ ap any_of (conditions_row (map formula_value parts.items) scope))

  -- the conditions of a quantifier's bindings
  abbrev pub each_condition : FormulaTree → List ℕ → List (List ℕ) → List CondTree
  each_condition part scope = map (λ chosen. condition_of at fluents part (scope ++ chosen))

  pub of_Exists : (f : Formula) (types : Vec ℕ Global) (part : Box Formula Global) (given : List ℕ) (inner : Formula) (conds : Vec Cond Global) (scope : List ℕ) → f ≡ Shut.Exists types part → given ≡ types.items → inner ≡ part.value
      → map condition_value conds.items ≡ each_condition (formula_value inner) scope (bindings at.objects given)
      → condition_value (ShutCond.Any conds) ≡ condition_of at fluents (formula_value f) scope
  of_Exists f types part given inner conds scope is e same made =
      value_Any conds
      ∙ ap (λ row. any_of (condition_row row)) (made ∙ ap (λ ts. each_condition (formula_value inner) scope (bindings at.objects ts)) e ∙ ap (λ p. each_condition (formula_value p) scope (bindings at.objects types.items)) same)
      ∙ sym (ap (λ x. condition_of at fluents (formula_value x) scope) is ∙ ap (λ t. condition_of at fluents t scope) (formula_Exists types part))

  pub of_Forall : (f : Formula) (types : Vec ℕ Global) (part : Box Formula Global) (given : List ℕ) (inner : Formula) (conds : Vec Cond Global) (scope : List ℕ) → f ≡ Shut.Forall types part → given ≡ types.items → inner ≡ part.value
      → map condition_value conds.items ≡ each_condition (formula_value inner) scope (bindings at.objects given)
      → condition_value (ShutCond.All conds) ≡ condition_of at fluents (formula_value f) scope
  of_Forall f types part given inner conds scope is e same made =
      value_All conds
      ∙ ap (λ row. all_of (condition_row row)) (made ∙ ap (λ ts. each_condition (formula_value inner) scope (bindings at.objects ts)) e ∙ ap (λ p. each_condition (formula_value p) scope (bindings at.objects types.items)) same)
      ∙ sym (ap (λ x. condition_of at fluents (formula_value x) scope) is ∙ ap (λ t. condition_of at fluents t scope) (formula_Forall types part))
