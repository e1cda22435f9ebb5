-- The rules of a plan as they are run, whichever kind of plan it is.
use Rattle.std.specs.Prelude.{ℕ, ◌<◌, List, map}
use Rattle.plan_rules.specs.Advices.{AreCasesOf}
use Rattle.plan_rules.specs.Plans.{IsCubeOf}
use Rattle.plan_rules.specs.Rules.{PlainPlan, table, automaton, PlanRule, ContextRule, always}
use Rattle.task_core.specs.ContextPlans.{first_context}

-- a rule of a table, which stays in one context
abbrev pub in_one_context : PlanRule → ContextRule
in_one_context rule =
    record {
      context = first_context;
      cube = rule.cube;
      action = rule.action;
      next = always
          first_context;
    }

-- the rules of a plan as they are run: in each context the first that matches the state counts
abbrev pub run_rules : PlainPlan → List ContextRule
run_rules (table class rules) = map in_one_context rules
run_rules (automaton contexts rules) = rules

-- a rule that names fluents below n alone, and one of m actions
pub record IsRunRuleOf (n m : ℕ) (rule : ContextRule) : Type 0 where
  pub cube : IsCubeOf n rule.cube
  pub action : rule.action < m
  pub cases : AreCasesOf n rule.next
