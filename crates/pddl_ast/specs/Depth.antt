-- How deep a tree is: how many of its constructors stand over one another at most.
use Rattle.std.specs.Prelude.{ℕ, ◌+◌, max}
use Rattle.pddl_ast.specs.Trees.{FormulaTree, FormulaTrees, atom, equal, all, any, negation}
use Rattle.pddl_ast.specs.Trees.{implication, exists, forall, no_formula, formula_then, EffectTree}
use Rattle.pddl_ast.specs.Trees.{EffectTrees, add, delete, both, one_of, only_when, each, no_effect}
use Rattle.pddl_ast.specs.Trees.{effect_then, TemporalTree, TemporalTrees, state_formula}
use Rattle.pddl_ast.specs.Trees.{goal_negation, all_goals, any_goal, goal_implication, unary}
use Rattle.pddl_ast.specs.Trees.{binary, no_temporal, temporal_then}

abbrev mutual
  pub formula_depth : FormulaTree → ℕ
  formula_depth (atom predicate terms) = 1
  formula_depth (equal left right) = 1
  formula_depth (all parts) = 1 + formulas_depth parts
  formula_depth (any parts) = 1 + formulas_depth parts
  formula_depth (negation part) = 1 + formula_depth part
  formula_depth (implication left right) = 1 + max (formula_depth left) (formula_depth right)
  formula_depth (exists types part) = 1 + formula_depth part
  formula_depth (forall types part) = 1 + formula_depth part

  pub formulas_depth : FormulaTrees → ℕ
  formulas_depth no_formula = 0
  formulas_depth (formula_then f fs) = max (formula_depth f) (formulas_depth fs)

-- a `when` stands over its formula too
abbrev mutual
  pub effect_depth : EffectTree → ℕ
  effect_depth (add predicate terms) = 1
  effect_depth (delete predicate terms) = 1
  effect_depth (both parts) = 1 + effects_depth parts
  effect_depth (one_of parts) = 1 + effects_depth parts
  effect_depth (only_when condition part) = 1 + max (formula_depth condition) (effect_depth part)
  effect_depth (each types part) = 1 + effect_depth part

  pub effects_depth : EffectTrees → ℕ
  effects_depth no_effect = 0
  effects_depth (effect_then e es) = max (effect_depth e) (effects_depth es)

-- a goal stands over the formulas in it
abbrev mutual
  pub temporal_depth : TemporalTree → ℕ
  temporal_depth (state_formula formula) = 1 + formula_depth formula
  temporal_depth (goal_negation part) = 1 + temporal_depth part
  temporal_depth (all_goals parts) = 1 + temporals_depth parts
  temporal_depth (any_goal parts) = 1 + temporals_depth parts
  temporal_depth (goal_implication left right) =
      1 + max (temporal_depth left) (temporal_depth right)
  temporal_depth (unary operator part) = 1 + temporal_depth part
  temporal_depth (binary operator left right) =
      1 + max (temporal_depth left) (temporal_depth right)

  pub temporals_depth : TemporalTrees → ℕ
  temporals_depth no_temporal = 0
  temporals_depth (temporal_then g gs) = max (temporal_depth g) (temporals_depth gs)
