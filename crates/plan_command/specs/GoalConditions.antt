-- The goals that plans with contexts are looked for, as conditions over the fluents: those of a
-- problem's goal, and those that the program has.
use Rattle.std.specs.Prelude.{◌≡◌, ℕ, List, [], map, Option, Some, codes}
use Rattle.std.specs.Option.{option_map, option_map_or}
use Rattle.ctl_syntax.specs.Conditions.{CondTree, all_of, condition_row}
use Rattle.ctl_syntax.specs.ContextGoals.{PlainGoal, plain_patrol, plain_until}
use Rattle.ctl_syntax.specs.GoalValues.{GoalTree, UntilTree, tree_of_goal, patrol_goal, until_chain}
use Rattle.ctl_syntax.specs.UntilChains.{GuardedStage, PlainStage, PlainUntil}
use Rattle.ctl_syntax.specs.declared.context_goals.ContextGoal.{ContextGoal}
use Rattle.ctl_syntax.specs.declared.context_goals.ContextGoal.TheVariants.{Patrol, Until}
use Rattle.context_plan.specs.Chains.{IsPatrolOver, IsUntilOver, until_sets, visit_sets}
use Rattle.pddl_ast.specs.Trees.{DomainTree, FormulaTree, ProblemTree}
use Rattle.pddl_system.specs.Fluents.{fluents}
use Rattle.pddl_system.specs.Settings.{setting}
use Rattle.pddl_system.specs.Tasks.{condition_of}
use Rattle.plan_command.specs.ContextGoals.{context_goal}
use Rattle.plan_command.specs.GoalSets.{GoalSets, of_patrol, of_until}
use Rattle.command_base.specs.Words.{Bytes}

-- the condition of a formula without free variables, and the conjunction of those of some formulas
abbrev pub grounded_formula : DomainTree → ProblemTree → FormulaTree → CondTree
grounded_formula domain problem f = condition_of (setting domain problem) (fluents domain problem) f []

abbrev pub grounded_formulas : DomainTree → ProblemTree → List FormulaTree → CondTree
grounded_formulas domain problem formulas =
    all_of (condition_row (map (grounded_formula domain problem) formulas))

-- the condition of a formula that need not be there: where there is none, the conjunction of none
abbrev pub grounded_or_true : DomainTree → ProblemTree → Option FormulaTree → CondTree
grounded_or_true domain problem formula =
    option_map_or (grounded_formula domain problem) formula (grounded_formulas domain problem [])

-- a stage with its guard, as conditions: it is the conjunction of what it asks for; and an until-chain
abbrev pub grounded_stage : DomainTree → ProblemTree → PlainStage FormulaTree → GuardedStage CondTree
grounded_stage domain problem stage = record {
  guard = grounded_or_true domain problem stage.guard;
  target = grounded_formulas domain problem stage.targets;
}

abbrev pub grounded_until : DomainTree → ProblemTree → PlainUntil FormulaTree → UntilTree
grounded_until domain problem chain = record {
  stages = map (grounded_stage domain problem) chain.stages;
  keep = grounded_or_true domain problem chain.keep;
}

-- a goal
abbrev pub grounded_parts : DomainTree → ProblemTree → PlainGoal FormulaTree → GoalTree
grounded_parts domain problem (plain_until chain) = until_chain (grounded_until domain problem chain)
grounded_parts domain problem (plain_patrol visits) =
    patrol_goal (map (grounded_formula domain problem) visits)

-- the goal is the one of the problem, over the task's conditions
abbrev pub IsGoalOf : DomainTree → ProblemTree → ContextGoal → Type 0
IsGoalOf domain problem goal =
    Some (tree_of_goal goal) ≡ option_map (grounded_parts domain problem) (context_goal problem)

-- Private: the name of the limit on its stages or visits
abbrev pub limit_of_goal : ContextGoal → Bytes
limit_of_goal (Until chain) = codes "stages"
limit_of_goal (Patrol visits) = codes "patrol"

-- Private: its sets of states
abbrev pub sets_of_goal : ContextGoal → GoalSets
sets_of_goal (Until chain) = of_until (until_sets chain)
sets_of_goal (Patrol visits) = of_patrol (visit_sets visits.items)

-- Private: a search takes it
abbrev pub IsGoalOver : ℕ → ContextGoal → Type 0
IsGoalOver fluents (Until chain) = IsUntilOver fluents chain
IsGoalOver fluents (Patrol visits) = IsPatrolOver fluents visits.items
