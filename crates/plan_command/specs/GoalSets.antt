-- The goals that plans with contexts are looked for, as sets of states: which plans have them, and
-- which plan is printed.
use Rattle.std.specs.Prelude.{ℕ, List, [], ◌∷◌, length, map, option_to_list}
use Rattle.std.specs.List.{list_all}
use Rattle.plan_theory.specs.PatrolPrinted.{patrol_rules}
use Rattle.plan_theory.specs.Patrols.{HasPatrol}
use Rattle.plan_theory.specs.UntilChains.{HasUntil, SetStage, UntilSets, until_contexts}
use Rattle.plan_theory.specs.UntilPrinted.{until_rules}
use Rattle.ctl_syntax.specs.ContextGoals.{PlainGoal, plain_patrol, plain_until}
use Rattle.ctl_syntax.specs.UntilChains.{PlainStage, PlainUntil}
use Rattle.pddl_ast.specs.Trees.{DomainTree, FormulaTree, ProblemTree}
use Rattle.pddl_system.specs.Fluents.{fluents}
use Rattle.pddl_system.specs.Settings.{setting}
use Rattle.pddl_system.specs.States.{formula_holds}
use Rattle.plan_rules.specs.Rules.{ContextRule}
use Rattle.task_core.specs.ContextPlans.{Configuration, ContextPlan, IsComplete, IsInitial}
use Rattle.task_core.specs.Cubes.{SetOfVectors}
use Rattle.task_core.specs.Systems.{System}

-- the sets of an until-chain, or of the visits of a patrol goal
pub data GoalSets : Type 0 where
  of_until : UntilSets → GoalSets
  of_patrol : List SetOfVectors → GoalSets

-- the goal is true at a configuration, along the paths of the plan
abbrev pub HasSets : System → ContextPlan → GoalSets → Configuration → Type 0
HasSets sys plan (of_until chain) = HasUntil sys plan chain
HasSets sys plan (of_patrol visits) = HasPatrol sys plan visits

-- the plan goes on at each configuration that it may reach, and each initial one has the goal
pub record IsGoalPlan (sys : System) (sets : GoalSets) (plan : ContextPlan) : Type 0 where
  pub complete : IsComplete sys plan
  pub has : (x : Configuration) → IsInitial sys x → HasSets sys plan sets x

-- no plan with contexts is one, whatever its contexts are and however many
abbrev pub HasNoGoalPlan : System → GoalSets → Type 0
HasNoGoalPlan sys sets = (plan : ContextPlan) → IsGoalPlan sys sets plan → ⊥

-- the contexts of the plan that is printed: one for each stage and one for the end, or one for each
-- visit
abbrev pub contexts_for : GoalSets → ℕ
contexts_for (of_until chain) = until_contexts chain
contexts_for (of_patrol visits) = length visits

-- its rules
abbrev pub rules_for : System → GoalSets → List ContextRule
rules_for sys (of_until chain) = until_rules sys chain
rules_for sys (of_patrol visits) = patrol_rules sys visits

-- the states in which each of these formulas holds
abbrev pub all_hold : DomainTree → ProblemTree → List FormulaTree → SetOfVectors
all_hold domain problem formulas v =
    list_all (λ f. formula_holds (setting domain problem) (fluents domain problem) v f []) formulas

-- those in which one does
abbrev pub one_holds : DomainTree → ProblemTree → FormulaTree → SetOfVectors
one_holds domain problem formula = all_hold domain problem (formula ∷ [])

-- a stage with its guard, and an until-chain, as sets of states
abbrev pub guarded_stage : DomainTree → ProblemTree → PlainStage FormulaTree → SetStage
guarded_stage domain problem stage = record {
  guard = all_hold domain problem (option_to_list stage.guard);
  target = all_hold domain problem stage.targets;
}

abbrev pub until_chained : DomainTree → ProblemTree → PlainUntil FormulaTree → UntilSets
until_chained domain problem chain = record {
  stages = map (guarded_stage domain problem) chain.stages;
  keep = all_hold domain problem (option_to_list chain.keep);
}

-- a goal, as sets of states
abbrev pub goal_sets : DomainTree → ProblemTree → PlainGoal FormulaTree → GoalSets
goal_sets domain problem (plain_until chain) = of_until (until_chained domain problem chain)
goal_sets domain problem (plain_patrol visits) = of_patrol (map (one_holds domain problem) visits)
