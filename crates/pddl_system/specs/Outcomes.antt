-- The outcomes of an effect (Cimatti, Pistore, Roveri, Traverso 2003: the nondeterministic effects
-- of an action), each a list of changes: an atom that is added or deleted, under conditions.
use Rattle.std.specs.Prelude.{ℕ, Bool, true, false, List, [], ◌∷◌, ◌++◌, map}
use Rattle.std.specs.List.{filter, flat_map}
use Rattle.pddl_ast.specs.Trees.{FormulaTree, EffectTree, EffectTrees, add, delete, both, one_of}
use Rattle.pddl_ast.specs.Trees.{only_when, each, no_effect, effect_then, AtomTree}
use Rattle.pddl_system.specs.GroundAtoms.{atom_of}
use Rattle.pddl_system.specs.Instances.{Instance}
use Rattle.pddl_system.specs.Objects.{bindings}
use Rattle.pddl_system.specs.Settings.{Setting}
use Rattle.pddl_system.specs.ThreeValues.{may_hold, value, value_of_all}

-- a formula, and the objects that the variables in scope stand for
pub record Condition : Type 0 where
  pub formula : FormulaTree
  pub scope : List ℕ

-- a change: under which conditions, those of the outermost `when` first, which atom is made true
-- (positive) or false
pub record ChangeTree : Type 0 where
  pub conditions : List Condition
  pub atom : AtomTree
  pub positive : Bool

abbrev pub OutcomeTree : Type 0
OutcomeTree = List ChangeTree

-- one outcome, which changes one atom
abbrev pub one_change : AtomTree → Bool → List OutcomeTree
one_change a positive = (record { conditions = []; atom = a; positive = positive } ∷ []) ∷ []

-- the outcomes of two effects that happen together: each outcome of the first with each of the
-- second. The first changes slowest
abbrev pub products : List OutcomeTree → List OutcomeTree → List OutcomeTree
products firsts seconds = flat_map (λ first. map (λ second. first ++ second) seconds) firsts

abbrev pub product_of_all : List (List OutcomeTree) → List OutcomeTree
product_of_all [] = [] ∷ []
product_of_all (outcomes ∷ rest) = products outcomes (product_of_all rest)

-- the change under one more condition, which stands around it
abbrev pub under : Condition → ChangeTree → ChangeTree
under condition change = record {
  conditions = condition ∷ change.conditions;
  atom = change.atom;
  positive = change.positive;
}

-- the outcomes of an effect where the variables in scope stand for these objects. Equal ones are
-- kept apart
abbrev mutual
  pub outcomes : (ℕ → List ℕ) → EffectTree → List ℕ → List OutcomeTree
  outcomes objects (add predicate terms) scope = one_change (atom_of scope predicate terms) true
  outcomes objects (delete predicate terms) scope = one_change (atom_of scope predicate terms) false
  outcomes objects (both parts) scope = outcomes_of_both objects parts scope
  outcomes objects (one_of parts) scope = outcomes_of_either objects parts scope
  outcomes objects (only_when formula part) scope =
      map (map (under (record { formula = formula; scope = scope }))) (outcomes objects part scope)
  outcomes objects (each types part) scope =
      product_of_all
      (map (λ chosen. outcomes objects part (scope ++ chosen)) (bindings objects types))

  -- of several effects that happen together, and of a choice between them
  pub outcomes_of_both : (ℕ → List ℕ) → EffectTrees → List ℕ → List OutcomeTree
  outcomes_of_both objects no_effect scope = [] ∷ []
  outcomes_of_both objects (effect_then e es) scope =
      products (outcomes objects e scope) (outcomes_of_both objects es scope)

  pub outcomes_of_either : (ℕ → List ℕ) → EffectTrees → List ℕ → List OutcomeTree
  outcomes_of_either objects no_effect scope = []
  outcomes_of_either objects (effect_then e es) scope =
      outcomes objects e scope ++ outcomes_of_either objects es scope

-- the outcomes of an instance
abbrev pub outcomes_of : Setting → Instance → List OutcomeTree
outcomes_of at i = outcomes at.objects i.schema.effect i.objects

-- whether a change may come about: its conditions aren't known to be false
abbrev pub may_change : Setting → ChangeTree → Bool
may_change at change =
    may_hold (value_of_all (map (λ (c : Condition). value at c.formula c.scope) change.conditions))

-- the changes of an outcome that may come about
abbrev pub possible_changes : Setting → OutcomeTree → OutcomeTree
possible_changes at = filter (may_change at)
