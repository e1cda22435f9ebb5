-- The rules of a plan as a picture shows them, and which of them counts where.
use Rattle.std.specs.Prelude.{ℕ, suc, ◌==◌, ◌&&◌, if◌then◌else◌, Bool, true, List, [], ◌∷◌, Option, None, Some, map}
use Rattle.task_core.specs.ContextPlans.{Configuration}
use Rattle.task_core.specs.Cubes.{Cube, matches}
use Rattle.plan_rules.specs.Rules.{ContextRule, PlainPlan, PlanRule, table, automaton}

-- a rule: the context that it is for, if the plan has contexts, its literals and its action
pub record SeenRule : Type 0 where
  pub context : Option ℕ
  pub cube : Cube
  pub action : ℕ

abbrev pub seen_in_table : PlanRule → SeenRule
seen_in_table rule = record { context = None; cube = rule.cube; action = rule.action }

abbrev pub seen_in_automaton : ContextRule → SeenRule
seen_in_automaton rule =
    record { context = Some rule.context; cube = rule.cube; action = rule.action }

-- the rules of a plan, in the order of its text
abbrev pub seen_rules : PlainPlan → List SeenRule
seen_rules (table class rules) = map seen_in_table rules
seen_rules (automaton contexts rules) = map seen_in_automaton rules

-- whether a rule is for a context: each rule of a table is
abbrev pub is_in_context : Option ℕ → ℕ → Bool
is_in_context None context = true
is_in_context (Some own) context = own == context

-- whether a rule is for a configuration: it is for its context, and its literals hold in its state
abbrev pub is_for : Configuration → SeenRule → Bool
is_for x rule = is_in_context rule.context x.context && matches rule.cube x.state

-- the number of the first rule that is for a configuration, where the rules are counted from k on
abbrev pub first_for : Configuration → ℕ → List SeenRule → Option ℕ
first_for x k [] = None
first_for x k (rule ∷ rules) = if is_for x rule then Some k else first_for x (suc k) rules

-- the number of the rule that counts at a configuration, from 0: the first that is for it
abbrev pub rule_number : List SeenRule → Configuration → Option ℕ
rule_number rules x = first_for x 0 rules
