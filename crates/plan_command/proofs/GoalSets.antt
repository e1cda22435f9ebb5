-- The sets of states, and the number of stages or visits, of a goal of a task are those of the
-- problem's goal.
use Rattle.std.proofs.Common.{◌≡◌, ℕ, ◌≤◌, List, [], map, length, Option, Some, None, refl, sym, subst, ap, ◌∙◌, codes}
use Rattle.std.specs.Prelude.{option_to_list, ⊤}
use Rattle.std.proofs.lemmas.List.{length-map}
use Rattle.list_laws.proofs.Booleans.{and_one}
use Rattle.list_laws.proofs.Elements.{map-map}
use Rattle.pddl_system.proofs.Lists.{list_all-same}
use Rattle.ctl_syntax.specs.Conditions.{CondTree, condition_value, states_of}
use Rattle.ctl_syntax.specs.ContextGoals.{PlainGoal, plain_patrol, plain_until}
use Rattle.ctl_syntax.specs.GoalValues.{GoalTree, tree_of_goal, patrol_goal, stage_sets, stage_value, until_chain}
use Rattle.ctl_syntax.specs.UntilChains.{GuardedStage, PlainStage}
use Rattle.ctl_syntax.specs.declared.context_goals.ContextGoal.{ContextGoal}
use Rattle.ctl_syntax.specs.declared.context_goals.ContextGoal.TheVariants.{Patrol, Until}
use Rattle.ctl_syntax.specs.declared.context_goals.UntilStage.{UntilStage}
use Rattle.ctl_syntax.proofs.ConditionTrees.{holds_is, tree_holds}
use Rattle.pddl_ast.specs.Trees.{DomainTree, FormulaTree, ProblemTree}
use Rattle.pddl_system.specs.Fluents.{fluents}
use Rattle.pddl_system.specs.Settings.{setting}
use Rattle.pddl_system.specs.States.{formula_holds}
use Rattle.pddl_system.proofs.TreeTruth.{formula_same, trees_hold-row}
use Rattle.plan_theory.specs.UntilChains.{SetStage}
use Rattle.task_core.specs.Cubes.{SetOfVectors}
use Rattle.task_core.specs.Vectors.{Vector, value_of}
use Rattle.task_core.specs.declared.conditions.Cond.{Cond}
use Rattle.plan_command.specs.ContextGoals.{most_parts, part_count, part_limit}
use Rattle.plan_command.specs.FoundGoals.{CountsAs}
use Rattle.plan_command.specs.GoalConditions.{grounded_parts, grounded_formula, grounded_formulas, grounded_or_true, grounded_stage, limit_of_goal, sets_of_goal}
use Rattle.plan_command.specs.GoalSets.{GoalSets, all_hold, goal_sets, guarded_stage, of_patrol, of_until, one_holds}
use Rattle.command_base.specs.Words.{Bytes}
use Rattle.plan_command.proofs.GoalParts.{HasVisit, map_same}
use Rattle.ctl_syntax.specs.GoalSizes.{HasSomeVisit, count_of, most_of, most_stages, most_visits}

-- the states in which a tree of conditions holds
abbrev set_of_tree : CondTree → SetOfVectors
set_of_tree tree v = tree_holds tree (value_of v)

abbrev stage_of_tree : GuardedStage CondTree → SetStage
stage_of_tree stage = record { guard = set_of_tree stage.guard; target = set_of_tree stage.target }

-- the sets of a tree
abbrev sets_of_tree : GoalTree → GoalSets
sets_of_tree (until_chain tree) = of_until (record { stages = map stage_of_tree tree.stages; keep = set_of_tree tree.keep })
sets_of_tree (patrol_goal trees) = of_patrol (map set_of_tree trees)

of_condition : (c : Cond) → states_of c ≡ set_of_tree (condition_value c)
of_condition c = λ i v. holds_is c (value_of v) i

of_conditions : (conds : List Cond) → map states_of conds ≡ map set_of_tree (map condition_value conds)
of_conditions conds = map_same states_of (λ c. set_of_tree (condition_value c)) conds of_condition ∙ sym (map-map set_of_tree condition_value conds)

of_stage : (s : UntilStage) → stage_sets s ≡ stage_of_tree (stage_value s)
of_stage s =
    let guard = of_condition s.guard in
    let target = of_condition s.target in
    λ i. record { guard = guard i; target = target i }

sets_by_tree : (goal : ContextGoal) → sets_of_goal goal ≡ sets_of_tree (tree_of_goal goal)
sets_by_tree (Until chain) =
    let stages = map_same stage_sets (λ s. stage_of_tree (stage_value s)) chain.stages.items of_stage ∙ sym (map-map stage_of_tree stage_value chain.stages.items) in
    let keep = of_condition chain.keep in
    λ i. of_until (record { stages = stages i; keep = keep i })
sets_by_tree (Patrol visits) = ap of_patrol (of_conditions visits.items)

module _ (d : DomainTree) (p : ProblemTree) where
  one_formula : (f : FormulaTree) (v : Vector) → tree_holds (grounded_formula d p f) (value_of v) ≡ formula_holds (setting d p) (fluents d p) v f []
  one_formula f v = formula_same (setting d p) (fluents d p) v f []

  of_formulas : (fs : List FormulaTree) (v : Vector) → set_of_tree (grounded_formulas d p fs) v ≡ all_hold d p fs v
  of_formulas fs v =
      trees_hold-row (grounded_formula d p) fs (value_of v)
      ∙ list_all-same (λ f. tree_holds (grounded_formula d p f) (value_of v)) (λ f. formula_holds (setting d p) (fluents d p) v f []) (λ f. one_formula f v) fs

  set_of_formulas : (fs : List FormulaTree) → set_of_tree (grounded_formulas d p fs) ≡ all_hold d p fs
  set_of_formulas fs = λ i v. of_formulas fs v i

  -- a single formula holds where the conjunction of it does
  of_one : (f : FormulaTree) (v : Vector) → set_of_tree (grounded_formula d p f) v ≡ one_holds d p f v
  of_one f v = one_formula f v ∙ and_one (formula_holds (setting d p) (fluents d p) v f [])

  set_of_one : (f : FormulaTree) → set_of_tree (grounded_formula d p f) ≡ one_holds d p f
  set_of_one f = λ i v. of_one f v i

  of_given : (given : Option FormulaTree) → set_of_tree (grounded_or_true d p given) ≡ all_hold d p (option_to_list given)
  of_given None = refl
  of_given (Some f) = set_of_one f

  of_guarded : (s : PlainStage FormulaTree) → stage_of_tree (grounded_stage d p s) ≡ guarded_stage d p s
  of_guarded s =
      let guard = of_given s.guard in
      let target = set_of_formulas s.targets in
      λ i. record { guard = guard i; target = target i }

  sets_of_parts : (parts : PlainGoal FormulaTree) → sets_of_tree (grounded_parts d p parts) ≡ goal_sets d p parts
  sets_of_parts (plain_until c) =
      let stages = map-map stage_of_tree (grounded_stage d p) c.stages ∙ map_same (λ s. stage_of_tree (grounded_stage d p s)) (guarded_stage d p) c.stages of_guarded in
      let keep = of_given c.keep in
      λ i. of_until (record { stages = stages i; keep = keep i })
  sets_of_parts (plain_patrol fs) =
      ap of_patrol (map-map set_of_tree (grounded_formula d p) fs ∙ map_same (λ f. set_of_tree (grounded_formula d p f)) (one_holds d p) fs set_of_one)

  pub same_sets : (goal : ContextGoal) (parts : PlainGoal FormulaTree) → tree_of_goal goal ≡ grounded_parts d p parts → sets_of_goal goal ≡ goal_sets d p parts
  same_sets goal parts is = sets_by_tree goal ∙ (ap sets_of_tree is ∙ sets_of_parts parts)

-- the number of stages or visits, and the limit on it, by the tree
abbrev tree_count : GoalTree → ℕ
tree_count (until_chain tree) = length tree.stages
tree_count (patrol_goal trees) = length trees

abbrev tree_most : GoalTree → ℕ
tree_most (until_chain tree) = most_stages
tree_most (patrol_goal trees) = most_visits

abbrev tree_limit : GoalTree → Bytes
tree_limit (until_chain tree) = codes "stages"
tree_limit (patrol_goal trees) = codes "patrol"

abbrev TreeHasVisit : GoalTree → Type 0
TreeHasVisit (until_chain tree) = ⊤
TreeHasVisit (patrol_goal trees) = 1 ≤ length trees

goal_count : (goal : ContextGoal) → count_of goal ≡ tree_count (tree_of_goal goal)
goal_count (Until chain) = sym (length-map chain.stages.items stage_value)
goal_count (Patrol visits) = sym (length-map visits.items condition_value)

goal_most : (goal : ContextGoal) → most_of goal ≡ tree_most (tree_of_goal goal)
goal_most (Until chain) = refl
goal_most (Patrol visits) = refl

goal_limit : (goal : ContextGoal) → limit_of_goal goal ≡ tree_limit (tree_of_goal goal)
goal_limit (Until chain) = refl
goal_limit (Patrol visits) = refl

goal_visit : (goal : ContextGoal) → TreeHasVisit (tree_of_goal goal) → HasSomeVisit goal
goal_visit (Until chain) some = tt
goal_visit (Patrol visits) some = subst (λ n. 1 ≤ n) (length-map visits.items condition_value) some

module _ (d : DomainTree) (p : ProblemTree) where
  parts_count : (parts : PlainGoal FormulaTree) → tree_count (grounded_parts d p parts) ≡ part_count parts
  parts_count (plain_until c) = length-map c.stages (grounded_stage d p)
  parts_count (plain_patrol fs) = length-map fs (grounded_formula d p)

  parts_most : (parts : PlainGoal FormulaTree) → tree_most (grounded_parts d p parts) ≡ most_parts parts
  parts_most (plain_until c) = refl
  parts_most (plain_patrol fs) = refl

  parts_limit : (parts : PlainGoal FormulaTree) → tree_limit (grounded_parts d p parts) ≡ part_limit parts
  parts_limit (plain_until c) = refl
  parts_limit (plain_patrol fs) = refl

  parts_visit : (parts : PlainGoal FormulaTree) → HasVisit parts → TreeHasVisit (grounded_parts d p parts)
  parts_visit (plain_until c) some = tt
  parts_visit (plain_patrol fs) some = subst (λ n. 1 ≤ n) (sym (length-map fs (grounded_formula d p))) some

  pub same_counts : (goal : ContextGoal) (parts : PlainGoal FormulaTree) → tree_of_goal goal ≡ grounded_parts d p parts → HasVisit parts → CountsAs goal parts
  same_counts goal parts is some = record {
    count = goal_count goal ∙ (ap tree_count is ∙ parts_count parts);
    most = goal_most goal ∙ (ap tree_most is ∙ parts_most parts);
    limit = goal_limit goal ∙ (ap tree_limit is ∙ parts_limit parts);
    some = goal_visit goal (subst TreeHasVisit (sym is) (parts_visit parts some));
  }
