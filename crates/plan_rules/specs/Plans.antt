-- That a plan speaks of the fluents and actions of a task, and of its own contexts.
use Rattle.std.specs.Prelude.{ℕ, ◌<◌, ◌≤◌, List, All}
use Rattle.task_core.specs.Cubes.{Cube}
use Rattle.task_core.specs.Names.{Name}
use Rattle.plan_rules.specs.Rules.{PlanRule, PlanCase, PlanNext, always, by_cases, ContextRule}
use Rattle.plan_rules.specs.Rules.{PlainPlan, table, automaton, plain_of}
use Rattle.plan_rules.specs.Texts.{text_of}
use Rattle.plan_rules.specs.declared.rules.Plan.{Plan}

-- how many contexts a plan may have
abbrev pub most_contexts : ℕ
most_contexts = 1000000

-- each fluent is among so many
abbrev pub IsCubeOf : ℕ → Cube → Type 0
IsCubeOf fluents cube = All (λ lit. lit.fluent.0 < fluents) cube

-- each fluent and the action are among so many
pub record IsRuleOf (fluents actions : ℕ) (rule : PlanRule) : Type 0 where
  pub cube : IsCubeOf fluents rule.cube
  pub action : rule.action < actions

-- contexts are numbered from 1 up to their number
pub record IsContextOf (contexts context : ℕ) : Type 0 where
  pub first : 1 ≤ context
  pub last : context ≤ contexts

pub record IsCaseOf (fluents contexts : ℕ) (case : PlanCase) : Type 0 where
  pub cube : IsCubeOf fluents case.cube
  pub context : IsContextOf contexts case.context

abbrev pub IsNextOf : ℕ → ℕ → PlanNext → Type 0
IsNextOf fluents contexts (always context) = IsContextOf contexts context
IsNextOf fluents contexts (by_cases cases) = All (IsCaseOf fluents contexts) cases

pub record IsContextRuleOf (fluents actions contexts : ℕ) (rule : ContextRule) : Type 0 where
  pub context : IsContextOf contexts rule.context
  pub cube : IsCubeOf fluents rule.cube
  pub action : rule.action < actions
  pub next : IsNextOf fluents contexts rule.next

pub record IsAutomatonOf (fluents actions contexts : ℕ) (rules : List ContextRule) : Type 0 where
  pub number : IsContextOf most_contexts contexts
  pub each : All (IsContextRuleOf fluents actions contexts) rules

abbrev pub IsPlainPlanOf : ℕ → ℕ → PlainPlan → Type 0
IsPlainPlanOf fluents actions (table class rules) = All (IsRuleOf fluents actions) rules
IsPlainPlanOf fluents actions (automaton contexts rules) =
    IsAutomatonOf fluents actions contexts rules

abbrev pub IsPlanOf : ℕ → ℕ → Plan → Type 0
IsPlanOf fluents actions plan = IsPlainPlanOf fluents actions (plain_of plan)

-- the text of a plan over the names of fluents and actions
abbrev pub plan_text : List Name → List Name → Plan → List ℕ
plan_text fluents actions plan = text_of fluents actions (plain_of plan)
