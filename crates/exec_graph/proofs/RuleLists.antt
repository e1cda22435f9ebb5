-- The rules of one context among those of an automaton.
use Rattle.std.proofs.Common.{◌≡◌, ◌==◌, ℕ, Bool, true, false, cond, ◌&&◌, List, [], ◌∷◌, map, get_or, Some, refl, ap, subst}
use Rattle.std.specs.List.{All, filter}
use Rattle.std.proofs.lemmas.List.Elements.{Contains-get_or}
use Rattle.task_core.specs.Vectors.{Vector}
use Rattle.task_core.specs.Cubes.{matches}
use Rattle.plan_rules.specs.declared.rules.AutoRule.{AutoRule}
use Rattle.plan_rules.specs.Denoted.{rule_at}
use Rattle.plan_rules.specs.Plans.{IsContextRuleOf}
use Rattle.plan_rules.specs.Rules.{ContextRule, context_rule_of}
use Rattle.exec_graph.specs.Counting.{IsRuleWithin, first_matching}
use Rattle.list_laws.proofs.Elements.{Contains-filter-witness, All-unmap}
use Rattle.plan_rules.proofs.CaseCubes.{cases_of_next}

-- a rule of an automaton of a task names its fluents and actions alone
rule_within : (n m k : ℕ) (rule : ContextRule) → IsContextRuleOf n m k rule → IsRuleWithin n m rule
rule_within n m k rule h = record { cube = h.cube; action = h.action; next = cases_of_next n k rule.next h.next }

pub kept_within : (n m k : ℕ) (p : AutoRule → Bool) (rules : List AutoRule) → All (IsContextRuleOf n m k) (map context_rule_of rules)
    → All (λ rule. IsRuleWithin n m (context_rule_of rule)) (filter p rules)
kept_within n m k p rules all i d l =
    let kept = filter p rules in
    let c = (Contains-filter-witness p rules (get_or kept i d) (Contains-get_or kept i d l)).0 in
    let at = All-unmap (IsContextRuleOf n m k) context_rule_of rules all c.0 (get_or kept i d) c.1 in
    rule_within n m k (context_rule_of (get_or kept i d)) (subst (λ (r : AutoRule). IsContextRuleOf n m k (context_rule_of r)) c.2 at)

-- the first of those that matches is the first of all that has the context and matches
pub first_kept : (s : Vector) (c : ℕ) (rules : List AutoRule)
    → first_matching s (map context_rule_of (filter (λ (rule : AutoRule). rule.context == c) rules)) ≡ rule_at (map context_rule_of rules) s c
first_kept s c [] = refl
first_kept s c (rule ∷ rules) = at (first_kept s c rules) (rule.context == c)
  where
    at : first_matching s (map context_rule_of (filter (λ (r : AutoRule). r.context == c) rules)) ≡ rule_at (map context_rule_of rules) s c
        → (b : Bool) → first_matching s (map context_rule_of (cond b (rule ∷ filter (λ (r : AutoRule). r.context == c) rules) (filter (λ (r : AutoRule). r.context == c) rules)))
        ≡ cond (b && matches rule.cube.items s) (Some (context_rule_of rule)) (rule_at (map context_rule_of rules) s c)
    at rest true = ap (λ o. cond (matches rule.cube.items s) (Some (context_rule_of rule)) o) rest
    at rest false = rest
