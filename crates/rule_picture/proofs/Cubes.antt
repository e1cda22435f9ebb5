-- The cubes of a plan's rules are over the task's fluents.
use Rattle.std.proofs.Common.{◌≡◌, ℕ, List, All, sym, subst}
use Rattle.std.proofs.lemmas.List.Elements.{All-map, All-weaker}
use Rattle.list_laws.proofs.Elements.{All-unmap}
use Rattle.plan_rules.specs.Plans.{IsContextRuleOf, IsCubeOf, IsPlainPlanOf, IsRuleOf}
use Rattle.plan_rules.specs.Rules.{ContextRule, PlainPlan, PlanRule, automaton, table}
use Rattle.rule_picture.specs.Rules.{SeenRule, seen_in_automaton, seen_in_table, seen_rules}
use Rattle.rule_picture.specs.Values.{seen_value, seen_values}
use Rattle.rule_picture.specs.declared.rules.Seen.{Seen}

abbrev HasCubeOf : ℕ → SeenRule → Type 0
HasCubeOf n rule = IsCubeOf n rule.cube

all_cubes : (n m : ℕ) (plan : PlainPlan) → IsPlainPlanOf n m plan → All (HasCubeOf n) (seen_rules plan)
all_cubes n m (table class rules) is =
    All-map (HasCubeOf n) seen_in_table rules (All-weaker (IsRuleOf n m) (λ (rule : PlanRule). IsCubeOf n rule.cube) (λ rule of. of.cube) rules is)
all_cubes n m (automaton contexts rules) is =
    All-map (HasCubeOf n) seen_in_automaton rules (All-weaker (IsContextRuleOf n m contexts) (λ (rule : ContextRule). IsCubeOf n rule.cube) (λ rule of. of.cube) rules is.each)

pub cubes_in_task : (n m : ℕ) (plan : PlainPlan) (rules : List Seen) → IsPlainPlanOf n m plan → seen_values rules ≡ seen_rules plan
    → All (λ (rule : Seen). IsCubeOf n rule.cube.now) rules
cubes_in_task n m plan rules is same =
    All-unmap (HasCubeOf n) seen_value rules (subst (λ (seen : List SeenRule). All (HasCubeOf n) seen) (sym same) (all_cubes n m plan is))
