-- Goals in computation tree logic layer by layer: what each kind of goal becomes.
use Rattle.std.proofs.Common.{◌≡◌, List, [], ◌∷◌, map, Option, Some, None, refl, ap, sym, subst, ◌∙◌}
use Rattle.std.specs.Prelude.{Vec, Box, IfSome}
use Rattle.std.specs.Option.{option_map}
use Rattle.std.specs.declared.alloc.Global.{Global}
use Rattle.ctl_syntax.specs.Goals.{CtlTree, all, any, goal_row, goal_then, map_plain, map_plain_of}
use Rattle.ctl_syntax.specs.Values.{IsAtMostDeep, NamesBelow, ctl_value}
use Rattle.ctl_syntax.specs.declared.goals.Ctl.{Ctl}
use Rattle.ctl_syntax.specs.declared.goals.Ctl.TheVariants as ShutCtl
use Rattle.ctl_syntax.proofs.Shapes as shapes
use Rattle.pddl_ast.specs.Fits.{FitsProblem}
use Rattle.pddl_ast.specs.Trees.{AtomTree, DomainTree, FormulaTree, ProblemTree, TemporalTree, all_goals, any_goal, unary, binary, temporal_row}
use Rattle.pddl_ast.specs.Values.{temporal_step, temporal_value}
use Rattle.pddl_ast.specs.declared.trees.Temporal.{Temporal}
use Rattle.pddl_ast.specs.declared.trees.Temporal.TheOpen as Open
use Rattle.pddl_ast.specs.declared.trees.Temporal.TheVariants as Shut
use Rattle.pddl_ast.specs.declared.trees.Temporal.TheFolds.{fold-roll-Temporal}
use Rattle.pddl_ast.specs.declared.trees.UnaryOperator.{UnaryOperator}
use Rattle.pddl_ast.specs.declared.trees.UnaryOperator.TheVariants.{Ax, Ex, Af, Ef, Ag, Eg}
use Rattle.pddl_ast.specs.declared.trees.BinaryOperator.{BinaryOperator}
use Rattle.pddl_ast.specs.declared.trees.BinaryOperator.TheVariants.{Au, Eu, Aw, Ew}
use Rattle.pddl_system.specs.CtlGoals.{binary_goal, ctl_goal_of, ctl_tree, ctl_trees, goal_value, grounded_goal, unary_goal}
use Rattle.pddl_system.specs.Settings.{Setting}
use Rattle.ctl_syntax.specs.Conditions.{CondTree, condition_value}
use Rattle.pddl_system.specs.Tasks.{condition_of, task_of}
use Rattle.pddl_system.specs.Values.{task_value}
use Rattle.pddl_system.proofs.CtlGoals.{grounded_goals_are_shallow, grounded_goals_name_fluents}
use Rattle.pddl_system.proofs.SystemsAgree.{count_same}
use Rattle.task_core.specs.Tasks.{fluent_count}
use Rattle.task_core.specs.declared.tasks.Task.{Task}

temporal_All : (parts : Vec Temporal Global) → temporal_value (Shut.All parts) ≡ all_goals (temporal_row (map temporal_value parts.items))
temporal_All parts = ap temporal_value (sym (Shut.rolls-All parts)) ∙ fold-roll-Temporal TemporalTree temporal_step (Open.All parts)

temporal_Any : (parts : Vec Temporal Global) → temporal_value (Shut.Any parts) ≡ any_goal (temporal_row (map temporal_value parts.items))
temporal_Any parts = ap temporal_value (sym (Shut.rolls-Any parts)) ∙ fold-roll-Temporal TemporalTree temporal_step (Open.Any parts)

temporal_Unary : (operator : UnaryOperator) (part : Box Temporal Global) → temporal_value (Shut.Unary operator part) ≡ unary operator (temporal_value part.value)
temporal_Unary operator part = ap temporal_value (sym (Shut.rolls-Unary operator part)) ∙ fold-roll-Temporal TemporalTree temporal_step (Open.Unary operator part)

temporal_Binary : (operator : BinaryOperator) (left right : Box Temporal Global) → temporal_value (Shut.Binary operator left right) ≡ binary operator (temporal_value left.value) (temporal_value right.value)
temporal_Binary operator left right = ap temporal_value (sym (Shut.rolls-Binary operator left right)) ∙ fold-roll-Temporal TemporalTree temporal_step (Open.Binary operator left right)

-- the goals of a row

values_row : (goals : List Ctl) → map_plain_of condition_value (goal_row (map ctl_value goals)) ≡ goal_row (map goal_value goals)
values_row [] = refl
values_row (g ∷ gs) = ap (goal_then (goal_value g)) (values_row gs)

value_All : (made : Vec Ctl Global) → goal_value (ShutCtl.All made) ≡ all (goal_row (map goal_value made.items))
value_All made = ap (map_plain condition_value) (shapes.value_All made) ∙ ap all (values_row made.items)

value_Any : (made : Vec Ctl Global) → goal_value (ShutCtl.Any made) ≡ any (goal_row (map goal_value made.items))
value_Any made = ap (map_plain condition_value) (shapes.value_Any made) ∙ ap any (values_row made.items)

module _ {P R : Type 0} (f : P → R) where
  pub map_unary : (operator : UnaryOperator) (g : CtlTree P) → map_plain f (unary_goal operator g) ≡ unary_goal operator (map_plain f g)
  map_unary Ax g = refl
  map_unary Ex g = refl
  map_unary Af g = refl
  map_unary Ef g = refl
  map_unary Ag g = refl
  map_unary Eg g = refl

  pub map_binary : (operator : BinaryOperator) (g h : CtlTree P) → map_plain f (binary_goal operator g h) ≡ binary_goal operator (map_plain f g) (map_plain f h)
  map_binary Au g h = refl
  map_binary Eu g h = refl
  map_binary Aw g h = refl
  map_binary Ew g h = refl

module _ (at : Setting) (fluents : List AtomTree) where
  abbrev condition : FormulaTree → CondTree
  condition f = condition_of at fluents f []

  grounded_row : (goals : List TemporalTree) → map_plain_of condition (ctl_trees (temporal_row goals)) ≡ goal_row (map (grounded_goal at fluents) goals)
  grounded_row [] = refl
  grounded_row (g ∷ gs) = ap (goal_then (grounded_goal at fluents g)) (grounded_row gs)

  -- what a goal becomes, by its kind. The parts may be given by other names
  pub of_All : (goal : Temporal) (parts : Vec Temporal Global) (given : List Temporal) (made : Vec Ctl Global) → goal ≡ Shut.All parts → given ≡ parts.items
      → map goal_value made.items ≡ map (grounded_goal at fluents) (map temporal_value given)
      → goal_value (ShutCtl.All made) ≡ grounded_goal at fluents (temporal_value goal)
  of_All goal parts given made is e each =
      value_All made
      ∙ ap (λ row. all (goal_row row)) (each ∙ ap (λ gs. map (grounded_goal at fluents) (map temporal_value gs)) e)
      ∙ sym (ap (λ g. grounded_goal at fluents (temporal_value g)) is ∙ ap (grounded_goal at fluents) (temporal_All parts) ∙ ap all (grounded_row (map temporal_value parts.items)))

  pub of_Any : (goal : Temporal) (parts : Vec Temporal Global) (given : List Temporal) (made : Vec Ctl Global) → goal ≡ Shut.Any parts → given ≡ parts.items
      → map goal_value made.items ≡ map (grounded_goal at fluents) (map temporal_value given)
      → goal_value (ShutCtl.Any made) ≡ grounded_goal at fluents (temporal_value goal)
  of_Any goal parts given made is e each =
      value_Any made
      ∙ ap (λ row. any (goal_row row)) (each ∙ ap (λ gs. map (grounded_goal at fluents) (map temporal_value gs)) e)
      ∙ sym (ap (λ g. grounded_goal at fluents (temporal_value g)) is ∙ ap (grounded_goal at fluents) (temporal_Any parts) ∙ ap any (grounded_row (map temporal_value parts.items)))

  pub of_Unary : (goal : Temporal) (operator : UnaryOperator) (part : Box Temporal Global) (made : CtlTree CondTree) → goal ≡ Shut.Unary operator part
      → made ≡ grounded_goal at fluents (temporal_value part.value)
      → unary_goal operator made ≡ grounded_goal at fluents (temporal_value goal)
  of_Unary goal operator part made is e =
      ap (unary_goal operator) e
      ∙ sym (ap (λ g. grounded_goal at fluents (temporal_value g)) is ∙ ap (grounded_goal at fluents) (temporal_Unary operator part) ∙ map_unary condition operator (ctl_tree (temporal_value part.value)))

  pub of_Binary : (goal : Temporal) (operator : BinaryOperator) (left right : Box Temporal Global) (first second : CtlTree CondTree) → goal ≡ Shut.Binary operator left right
      → first ≡ grounded_goal at fluents (temporal_value left.value) → second ≡ grounded_goal at fluents (temporal_value right.value)
      → binary_goal operator first second ≡ grounded_goal at fluents (temporal_value goal)
  of_Binary goal operator left right first second is e f =
      ap (λ g. binary_goal operator g second) e
      ∙ ap (binary_goal operator (grounded_goal at fluents (temporal_value left.value))) f
      ∙ sym (ap (λ g. grounded_goal at fluents (temporal_value g)) is ∙ ap (grounded_goal at fluents) (temporal_Binary operator left right)
      ∙ map_binary condition operator (ctl_tree (temporal_value left.value)) (ctl_tree (temporal_value right.value)))

-- the goal of a task names its fluents, and its conditions are at most 199 deep
module _ (d : DomainTree) (p : ProblemTree) where
  pub names : (task : Task) (goal : Option Ctl) → task_value task ≡ task_of d p → option_map goal_value goal ≡ ctl_goal_of d p
      → IfSome goal (λ g. NamesBelow (fluent_count task) (ctl_value g))
  names task None is e = tt
  names task (Some g) is e = subst (λ n. NamesBelow n (ctl_value g)) (sym (count_same d p task is)) (grounded_goals_name_fluents d p (ctl_value g) e)

  pub shallow : (goal : Option Ctl) → FitsProblem d p → option_map goal_value goal ≡ ctl_goal_of d p → IfSome goal (λ g. IsAtMostDeep 199 (ctl_value g))
  shallow None fits e = tt
  shallow (Some g) fits e = grounded_goals_are_shallow d p (ctl_value g) fits e
