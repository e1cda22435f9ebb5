-- Domains and problems as plain trees: what the types of `trees` stand for, with lists in the place
-- of vectors, whose capacity no text spells. `Term`, `Named` and `Predicate` hold no vector, so
-- they stand for themselves.
use Rattle.std.specs.Prelude.{ℕ, Bool, List, [], ◌∷◌, Option}
use Rattle.sexpr_text.specs.declared.forms.Place.{Place}
use Rattle.pddl_ast.specs.declared.trees.Term.{Term}
use Rattle.pddl_ast.specs.declared.trees.Named.{Named}
use Rattle.pddl_ast.specs.declared.trees.Predicate.{Predicate}
use Rattle.pddl_ast.specs.declared.trees.UnaryOperator.{UnaryOperator}
use Rattle.pddl_ast.specs.declared.trees.BinaryOperator.{BinaryOperator}

-- a formula, and a list of formulas. Predicates and types are numbers
mutual
  pub data FormulaTree : Type 0 where
    atom : ℕ → List Term → FormulaTree
    equal : Term → Term → FormulaTree
    all : FormulaTrees → FormulaTree
    any : FormulaTrees → FormulaTree
    negation : FormulaTree → FormulaTree
    implication : FormulaTree → FormulaTree → FormulaTree
    exists : List ℕ → FormulaTree → FormulaTree
    forall : List ℕ → FormulaTree → FormulaTree

  pub data FormulaTrees : Type 0 where
    no_formula : FormulaTrees
    formula_then : FormulaTree → FormulaTrees → FormulaTrees

abbrev pub formula_row : List FormulaTree → FormulaTrees
formula_row [] = no_formula
formula_row (f ∷ fs) = formula_then f (formula_row fs)

-- a goal in computation tree logic, and a list of such goals
mutual
  pub data TemporalTree : Type 0 where
    state_formula : FormulaTree → TemporalTree
    goal_negation : TemporalTree → TemporalTree
    all_goals : TemporalTrees → TemporalTree
    any_goal : TemporalTrees → TemporalTree
    goal_implication : TemporalTree → TemporalTree → TemporalTree
    unary : UnaryOperator → TemporalTree → TemporalTree
    binary : BinaryOperator → TemporalTree → TemporalTree → TemporalTree

  pub data TemporalTrees : Type 0 where
    no_temporal : TemporalTrees
    temporal_then : TemporalTree → TemporalTrees → TemporalTrees

abbrev pub temporal_row : List TemporalTree → TemporalTrees
temporal_row [] = no_temporal
temporal_row (g ∷ gs) = temporal_then g (temporal_row gs)

-- an effect, and a list of effects
mutual
  pub data EffectTree : Type 0 where
    add : ℕ → List Term → EffectTree
    delete : ℕ → List Term → EffectTree
    both : EffectTrees → EffectTree
    one_of : EffectTrees → EffectTree
    only_when : FormulaTree → EffectTree → EffectTree
    each : List ℕ → EffectTree → EffectTree

  pub data EffectTrees : Type 0 where
    no_effect : EffectTrees
    effect_then : EffectTree → EffectTrees → EffectTrees

abbrev pub effect_row : List EffectTree → EffectTrees
effect_row [] = no_effect
effect_row (e ∷ es) = effect_then e (effect_row es)

pub record SchemaTree : Type 0 where
  pub name : List ℕ
  pub parameters : List ℕ
  pub precondition : FormulaTree
  pub effect : EffectTree

pub record DomainTree : Type 0 where
  pub name : List ℕ
  pub type_names : List (List ℕ)
  pub parents : List ℕ
  pub constants : List Named
  pub predicates : List Predicate
  pub actions : List SchemaTree
  pub invariant : FormulaTree

pub record AtomTree : Type 0 where
  pub predicate : ℕ
  pub objects : List ℕ

pub record LiteralTree : Type 0 where
  pub atom : AtomTree
  pub positive : Bool

pub record ProblemTree : Type 0 where
  pub name : List ℕ
  pub objects : List Named
  pub facts : List AtomTree
  pub entries : List (List (List LiteralTree))
  pub goal : Option FormulaTree
  pub ctl : Option TemporalTree
  pub place : Place
  pub ctl_place : Place
