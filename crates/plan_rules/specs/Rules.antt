-- The plans as plain trees, without where they lie in memory.
use Rattle.std.specs.Prelude.{ℕ, List, map}
use Rattle.task_core.specs.Cubes.{Cube}
use Rattle.task_core.specs.declared.classes.Class.{Class}
use Rattle.plan_rules.specs.declared.rules.Rule.{Rule}
use Rattle.plan_rules.specs.declared.rules.TablePlan.{TablePlan}
use Rattle.plan_rules.specs.declared.rules.Case.{Case}
use Rattle.plan_rules.specs.declared.rules.Next.{Next}
use Rattle.plan_rules.specs.declared.rules.Next.TheVariants.{One, Cases}
use Rattle.plan_rules.specs.declared.rules.AutoRule.{AutoRule}
use Rattle.plan_rules.specs.declared.rules.AutoPlan.{AutoPlan}
use Rattle.plan_rules.specs.declared.rules.Plan.{Plan}
use Rattle.plan_rules.specs.declared.rules.Plan.TheVariants.{Table, Auto}

-- in each state that the cube matches, take the action of this number
pub record PlanRule : Type 0 where
  pub cube : Cube
  pub action : ℕ

-- where the cube matches the new state, go on in this context
pub record PlanCase : Type 0 where
  pub cube : Cube
  pub context : ℕ

-- the next context: always this one, or by cases on the new state
pub data PlanNext : Type 0 where
  always : ℕ → PlanNext
  by_cases : List PlanCase → PlanNext

-- in this context, in each state that the cube matches, take the action and go on in the next
-- context
pub record ContextRule : Type 0 where
  pub context : ℕ
  pub cube : Cube
  pub action : ℕ
  pub next : PlanNext

-- a plan: a table of a class with its rules, or an automaton with its number of contexts and its
-- rules
pub data PlainPlan : Type 0 where
  table : Class → List PlanRule → PlainPlan
  automaton : ℕ → List ContextRule → PlainPlan

abbrev pub rule_of : Rule → PlanRule
rule_of r = record { cube = r.cube.items; action = r.action.0 }

-- the rules of a plan, in order
abbrev pub rules_of : TablePlan → List PlanRule
rules_of p = map rule_of p.rules.items

abbrev pub case_of : Case → PlanCase
case_of c = record { cube = c.cube.items; context = c.context }

abbrev pub next_of : Next → PlanNext
next_of (One context) = always context
next_of (Cases cases) = by_cases (map case_of cases.items)

abbrev pub context_rule_of : AutoRule → ContextRule
context_rule_of r =
    record { context = r.context; cube = r.cube.items; action = r.action.0; next = next_of r.next }

abbrev pub context_rules_of : AutoPlan → List ContextRule
context_rules_of p = map context_rule_of p.rules.items

abbrev pub plain_of : Plan → PlainPlan
plain_of (Table p) = table p.class (rules_of p)
plain_of (Auto p) = automaton p.contexts (context_rules_of p)
