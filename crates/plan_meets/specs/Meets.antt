-- What a plan means, and when that meets a problem: a table of pairs of a state and an action, for a
-- goal by reachability (Cimatti, Pistore, Roveri, Traverso 2003); and a plan with contexts, for a
-- goal in computation tree logic (Pistore, Traverso 2001).
use Rattle.std.specs.Prelude.{◌≡◌, Some}
use Rattle.pddl_ast.specs.Trees.{DomainTree, ProblemTree, TemporalTree}
use Rattle.pddl_system.specs.Systems.{system}
use Rattle.plan_check.specs.ContextVerdicts.{MeetsGoal}
use Rattle.plan_check.specs.Verdicts.{CanFollowRules}
use Rattle.plan_rules.specs.Denoted.{denoted, denoted_contexts}
use Rattle.plan_rules.specs.Rules.{PlainPlan, table, automaton}
use Rattle.task_core.specs.ContextPlans.{ContextPlan}
use Rattle.task_core.specs.Solutions.{IsSolution}
use Rattle.task_core.specs.Tables.{IsTable, Table}
use Rattle.plan_meets.specs.TemporalGoals.{HasGoal}
use Rattle.command_base.specs.Words.{PlanKind, of_class, with_contexts}

-- what a plan means: a table, or a plan with contexts
pub data Meaning : Type 0 where
  pairs : Table → Meaning
  contextual : ContextPlan → Meaning

-- the meaning of a plan as it is read: of a table its pairs, where each rule that matches a state
-- which the table may reach can be followed there; of an automaton its plan with contexts
abbrev pub Means : DomainTree → ProblemTree → PlainPlan → Meaning → Type 0
Means domain problem (table written rules) meaning =
    CanFollowRules (system domain problem) rules
    × (meaning ≡ pairs (denoted (system domain problem) rules))
Means domain problem (automaton contexts rules) meaning =
    meaning ≡ contextual (denoted_contexts rules)

-- what is meant meets the problem: for a class it is a table of the system and a solution of the
-- class; with contexts it is complete, and each initial configuration has the goal in computation
-- tree logic
abbrev pub Meets : PlanKind → DomainTree → ProblemTree → Meaning → Type 0
Meets (of_class class) domain problem (pairs rows) =
    IsTable (system domain problem) rows × IsSolution class (system domain problem) rows
Meets (of_class class) domain problem (contextual plan) = ⊥
Meets with_contexts domain problem (pairs rows) = ⊥
Meets with_contexts domain problem (contextual plan) =
    (goal : TemporalTree) × (problem.ctl ≡ Some goal)
    × MeetsGoal (system domain problem) plan (HasGoal domain problem plan goal)

-- a plan as it is read has a meaning that meets the problem
abbrev pub PlanMeets : PlanKind → DomainTree → ProblemTree → PlainPlan → Type 0
PlanMeets kind domain problem plan =
    (meaning : Meaning) × Means domain problem plan meaning × Meets kind domain problem meaning
