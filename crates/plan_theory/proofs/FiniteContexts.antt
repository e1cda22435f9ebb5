-- The plan with contexts that a list of rules denotes acts in finitely many contexts.
use Rattle.std.proofs.Common.{◌≡◌, ℕ, suc, ◌+◌, ◌≤◌, List, [], ◌∷◌, Some, None, refl, ◌∙◌, ap, arith}
use Rattle.std.specs.Option.{option_map}
use Rattle.std.specs.Prelude.{◌&&◌, if◌then◌else◌}
use Rattle.std.proofs.lemmas.Bool.{ne_eqb}
use Rattle.task_core.specs.ContextPlans.{IsFinite}
use Rattle.task_core.specs.Cubes.{matches}
use Rattle.task_core.specs.Vectors.{Vector}
use Rattle.plan_rules.specs.Denoted.{denoted_contexts, rule_at}
use Rattle.plan_rules.specs.Rules.{ContextRule}

-- a number above the contexts of all rules
above : List ContextRule → ℕ
above [] = 0
above (rule ∷ rules) = suc rule.context + above rules

-- from there on no rule counts
no_rule : (rules : List ContextRule) (s : Vector) (c : ℕ) → above rules ≤ c → rule_at rules s c ≡ None
unfolding above
no_rule [] s c beyond = refl
no_rule (rule ∷ rules) s c beyond =
    ap (λ same. if same && matches rule.cube s then Some rule else rule_at rules s c) (ne_eqb rule.context c (λ e. absurd (omega arith)))
    ∙ no_rule rules s c (omega arith)

pub finitely_many : (rules : List ContextRule) → IsFinite (denoted_contexts rules)
finitely_many rules = (above rules, λ s c beyond. ap (option_map (λ (rule : ContextRule). rule.action)) (no_rule rules s c beyond))
