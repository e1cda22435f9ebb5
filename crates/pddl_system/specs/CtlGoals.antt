-- The goal in computation tree logic of a domain and a problem (Pistore, Traverso 2001): over the
-- formulas of the text, and over conditions on fluents.
use Rattle.std.specs.Prelude.{◌≡◌, [], List, Option, true}
use Rattle.std.specs.Option.{option_map}
use Rattle.ctl_syntax.specs.Goals.{CtlTree, CtlTrees, plain, negation, all, any, implication, ax}
use Rattle.ctl_syntax.specs.Goals.{ex, af, ef, ag, eg, au, eu, aw, ew, no_goal, goal_then}
use Rattle.ctl_syntax.specs.Goals.{map_plain}
use Rattle.ctl_syntax.specs.Values.{ctl_value}
use Rattle.ctl_syntax.specs.declared.goals.Ctl.{Ctl}
use Rattle.task_core.specs.Conditions.{holds}
use Rattle.task_core.specs.ContextPlans.{Configuration}
use Rattle.task_core.specs.Vectors.{value_of}
use Rattle.task_core.specs.declared.conditions.Cond.{Cond}
use Rattle.pddl_ast.specs.Trees.{AtomTree, DomainTree, FormulaTree, ProblemTree, TemporalTree}
use Rattle.pddl_ast.specs.Trees.{TemporalTrees, state_formula, goal_negation, all_goals, any_goal}
use Rattle.pddl_ast.specs.Trees.{goal_implication, unary, binary, no_temporal, temporal_then}
use Rattle.pddl_ast.specs.declared.trees.UnaryOperator.{UnaryOperator}
use Rattle.pddl_ast.specs.declared.trees.UnaryOperator.TheVariants.{Ax, Ex, Af, Ef, Ag, Eg}
use Rattle.pddl_ast.specs.declared.trees.BinaryOperator.{BinaryOperator}
use Rattle.pddl_ast.specs.declared.trees.BinaryOperator.TheVariants.{Au, Eu, Aw, Ew}
use Rattle.pddl_system.specs.Fluents.{fluents}
use Rattle.pddl_system.specs.Settings.{Setting, setting}
use Rattle.pddl_system.specs.States.{formula_holds}
use Rattle.ctl_syntax.specs.Conditions.{CondTree, condition_value}
use Rattle.pddl_system.specs.Tasks.{condition_of}

-- the goal that an operator makes of one goal, or of two
abbrev pub unary_goal : {P : Type 0} → UnaryOperator → CtlTree P → CtlTree P
unary_goal Ax g = ax g
unary_goal Ex g = ex g
unary_goal Af g = af g
unary_goal Ef g = ef g
unary_goal Ag g = ag g
unary_goal Eg g = eg g

abbrev pub binary_goal : {P : Type 0} → BinaryOperator → CtlTree P → CtlTree P → CtlTree P
binary_goal Au g h = au g h
binary_goal Eu g h = eu g h
binary_goal Aw g h = aw g h
binary_goal Ew g h = ew g h

-- the goal of a text: its propositions are the formulas in it
abbrev mutual
  pub ctl_tree : TemporalTree → CtlTree FormulaTree
  ctl_tree (state_formula formula) = plain formula
  ctl_tree (goal_negation part) = negation (ctl_tree part)
  ctl_tree (all_goals parts) = all (ctl_trees parts)
  ctl_tree (any_goal parts) = any (ctl_trees parts)
  ctl_tree (goal_implication left right) = implication (ctl_tree left) (ctl_tree right)
  ctl_tree (unary operator part) = unary_goal operator (ctl_tree part)
  ctl_tree (binary operator left right) = binary_goal operator (ctl_tree left) (ctl_tree right)

  pub ctl_trees : TemporalTrees → CtlTrees FormulaTree
  ctl_trees no_temporal = no_goal
  ctl_trees (temporal_then g gs) = goal_then (ctl_tree g) (ctl_trees gs)

-- the goal in which the condition of each formula stands in its place. The formulas have no free
-- variables
abbrev pub grounded_goal : Setting → List AtomTree → TemporalTree → CtlTree CondTree
grounded_goal at fluents goal = map_plain (λ f. condition_of at fluents f []) (ctl_tree goal)

-- the grounded goal of a domain and a problem, where the problem has a goal of this kind
abbrev pub ctl_goal_of : DomainTree → ProblemTree → Option (CtlTree CondTree)
ctl_goal_of d p = option_map (grounded_goal (setting d p) (fluents d p)) p.ctl

-- the plain tree of a goal over conditions
abbrev pub goal_value : Ctl → CtlTree CondTree
goal_value goal = map_plain condition_value (ctl_value goal)

-- a condition, or a formula without free variables, holds in the state of a configuration
abbrev pub ConditionHoldsAt : Cond → Configuration → Type 0
ConditionHoldsAt cond x = holds cond (value_of x.state) ≡ true

abbrev pub FormulaHoldsAt : Setting → List AtomTree → FormulaTree → Configuration → Type 0
FormulaHoldsAt at fluents formula x = formula_holds at fluents x.state formula [] ≡ true
