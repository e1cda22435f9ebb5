-- Private: what is known of what a search for a plan with contexts of a task found.
use Rattle.std.specs.Prelude.{◌≡◌, ◌≢◌, ◌↔◌, ◌⊎◌, ⊤, ℕ, List, [], Option, Some, None, Result, Ok}
use Rattle.std.specs.Prelude.{Err}
use Rattle.ctl_syntax.specs.ContextGoals.{PlainGoal}
use Rattle.ctl_syntax.specs.declared.context_goals.ContextGoal.{ContextGoal}
use Rattle.dd_sets.specs.declared.errors.SetErr.{SetErr}
use Rattle.context_plan.specs.declared.found.FoundAuto.{FoundAuto}
use Rattle.context_plan.specs.declared.found.FoundAuto.TheVariants.{NoPlan, Plan}
use Rattle.pddl_ast.specs.Trees.{DomainTree, FormulaTree, ProblemTree, TemporalTree}
use Rattle.pddl_system.specs.Systems.{system}
use Rattle.plan_rules.specs.Denoted.{denoted_contexts}
use Rattle.plan_rules.specs.Plans.{IsAutomatonOf}
use Rattle.plan_rules.specs.Readings.{SpellsPlain}
use Rattle.plan_rules.specs.Rules.{ContextRule, automaton, context_rules_of}
use Rattle.plan_rules.specs.Texts.{automaton_text}
use Rattle.plan_rules.specs.declared.rules.AutoPlan.{AutoPlan}
use Rattle.task_core.specs.ContextPlans.{Configuration, ContextPlan}
use Rattle.task_core.specs.Tasks.{action_count, action_names, fluent_count, fluent_names}
use Rattle.task_core.specs.Tasks.{initial_states, system_of}
use Rattle.task_core.specs.declared.tasks.Task.{Task}
use Rattle.command_base.specs.Answers.{Answer, affirmed, denied}
use Rattle.plan_command.specs.ContextGoals.{context_goal, most_parts, part_count, part_limit}
use Rattle.plan_command.specs.GoalConditions.{IsGoalOf, limit_of_goal}
use Rattle.plan_command.specs.GoalConditions.{sets_of_goal}
use Rattle.plan_command.specs.GoalSets.{GoalSets, HasNoGoalPlan, HasSets, IsGoalPlan, contexts_for}
use Rattle.plan_command.specs.GoalSets.{goal_sets, rules_for}
use Rattle.plan_command.specs.PlanCommand.{no_plan_text}
use Rattle.plan_meets.specs.TemporalGoals.{HasGoal}
use Rattle.command_base.specs.Words.{Bytes}
use Rattle.ctl_syntax.specs.GoalSizes.{HasSomeVisit, count_of, most_of}

-- Private: the plan is the one that is printed, and has the goal
pub record IsPlanFor (task : Task) (sets : GoalSets) (plan : AutoPlan) : Type 0 where
  pub contexts : plan.contexts ≡ contexts_for sets
  pub in_task : IsAutomatonOf (fluent_count task) (action_count task) plan.contexts
      (context_rules_of plan)
  pub printed : context_rules_of plan ≡ rules_for (system_of task) sets
  pub has : IsGoalPlan (system_of task) sets (denoted_contexts (context_rules_of plan))

-- Private: what a search found: such a plan, or that there is none
abbrev pub IsGoalSearched : Task → GoalSets → Result FoundAuto SetErr → Type 0
IsGoalSearched task sets (Ok (Plan plan)) = IsPlanFor task sets plan
IsGoalSearched task sets (Ok NoPlan) = HasNoGoalPlan (system_of task) sets
IsGoalSearched task sets (Err e) = ⊤

-- Private: what a search from the initial states found: that there is none, or what was looked for
abbrev pub IsGoalSearchedFrom : Task → GoalSets → Result (Option FoundAuto) SetErr → Type 0
IsGoalSearchedFrom task sets (Ok None) = initial_states task ≡ []
IsGoalSearchedFrom task sets (Ok (Some found)) =
    (initial_states task ≢ []) × IsGoalSearched task sets (Ok found)
IsGoalSearchedFrom task sets (Err e) = ⊤

-- Private: the answer is such a plan's text
pub record IsGoalShown (task : Task) (sets : GoalSets) (answer : Answer) : Type 0 where
  pub text : Bytes
  pub shown : answer ≡ affirmed text
  pub contexts : ℕ
  pub rules : List ContextRule
  pub spelled : SpellsPlain (fluent_names task) (action_names task) text (automaton contexts rules)
  pub has : IsGoalPlan (system_of task) sets (denoted_contexts rules)
  pub printed : text ≡ automaton_text (fluent_names task) (action_names task)
      (contexts_for sets) (rules_for (system_of task) sets)

-- Private: the answer is that there is none
pub record IsGoalMissing (task : Task) (sets : GoalSets) (answer : Answer) : Type 0 where
  pub shown : answer ≡ denied no_plan_text
  pub none : HasNoGoalPlan (system_of task) sets

abbrev pub IsGoalResult : Task → GoalSets → Answer → Type 0
IsGoalResult task sets answer = IsGoalShown task sets answer ⊎ IsGoalMissing task sets answer

-- Private: the goal has as many stages or visits as these parts, and the same limit on them; and a
-- patrol goal has a visit
pub record CountsAs (goal : ContextGoal) (parts : PlainGoal FormulaTree) : Type 0 where
  pub count : count_of goal ≡ part_count parts
  pub most : most_of goal ≡ most_parts parts
  pub limit : limit_of_goal goal ≡ part_limit parts
  pub some : HasSomeVisit goal

-- Private: the goal stands for the one that the problem has: its conditions, and its sets, are those
-- of that goal, and it is true wherever the problem's goal is
pub record StandsForGoal (domain : DomainTree) (problem : ProblemTree)
    (goal : ContextGoal) : Type 0 where
  pub parts : PlainGoal FormulaTree
  pub is : context_goal problem ≡ Some parts
  pub conditions : IsGoalOf domain problem goal
  pub counts : CountsAs goal parts
  pub sets : sets_of_goal goal ≡ goal_sets domain problem parts
  pub temporal : TemporalTree
  pub temporal_is : problem.ctl ≡ Some temporal
  pub alike : (plan : ContextPlan) (x : Configuration) → HasGoal domain problem plan temporal x
      ↔ HasSets (system domain problem) plan (sets_of_goal goal) x
