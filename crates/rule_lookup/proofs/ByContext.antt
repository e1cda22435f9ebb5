-- Rules in the order of their contexts denote what they denote in the plan's order.
use Rattle.std.proofs.Common.{◌≡◌, ℕ, Bool, true, false, not, ◌&&◌, cond, eqb, ltb, List, [], ◌∷◌, length, map, Option, Some, None, refl, sym, ◌∙◌, ap, arith}
use Rattle.std.proofs.Math.Path.{fun_ext}
use Rattle.std.proofs.lemmas.Bool.Decides.{nat_tests}
use Rattle.std.specs.List.{filter, find}
use Rattle.std.specs.List.Sorted.{IsStableByKey, ties}
use Rattle.std.specs.Option.{option_map, option_and_then}
use Rattle.std.specs.Ordering.{is_lt, nat_cmp}
use Rattle.std.specs.declared.cmp.Ordering.{Ordering}
use Rattle.std.specs.declared.cmp.Ordering.TheVariants.{Less, Equal, Greater}
use Rattle.std.proofs.lemmas.List.Elements.{filter_agree}
use Rattle.task_core.specs.ContextPlans.{ContextPlan}
use Rattle.task_core.specs.Cubes.{matches}
use Rattle.task_core.specs.Vectors.{Vector}
use Rattle.plan_rules.specs.Denoted.{denoted_contexts, next_context, rule_at}
use Rattle.plan_rules.specs.Rules.{ContextRule}
use Rattle.rule_lookup.specs.declared.rules.GuideRule.{GuideRule}
use Rattle.rule_lookup.specs.GuideRules.{rule_value}
use Rattle.rule_lookup.proofs.Finding.{find_both, find_map}

-- rules of which the same ones count denote the same
pub same_contexts : (a b : List ContextRule) → ((s : Vector) (c : ℕ) → rule_at a s c ≡ rule_at b s c) → denoted_contexts a ≡ denoted_contexts b
same_contexts a b same =
    let look_a : Vector → ℕ → Option ContextRule = λ s c. rule_at a s c in
    let look_b : Vector → ℕ → Option ContextRule = λ s c. rule_at b s c in
    let e : look_a ≡ look_b = fun_ext (λ s. fun_ext (λ c. same s c)) in
    ap (λ (look : Vector → ℕ → Option ContextRule).
    let plan : ContextPlan = record {
      act = λ s c. option_map (λ (rule : ContextRule). rule.action) (look s c);
      ctxt = λ s c t. option_and_then (λ (rule : ContextRule). next_context rule.next t) (look s c);
    } in plan) e

-- two numbers that tie are equal
less_by : (b e : Bool) → is_lt (cond b Less (cond e Equal Greater)) ≡ b
less_by true e = refl
less_by false true = refl
less_by false false = refl

equal_by : (x y : ℕ) → (not (ltb x y) && not (ltb y x)) ≡ eqb y x
equal_by x y = grind (arith, nat_tests)

ties_are : (x y : ℕ) → (not (is_lt (nat_cmp x y)) && not (is_lt (nat_cmp y x))) ≡ eqb y x
ties_are x y =
    ap (λ b. not b && not (is_lt (nat_cmp y x))) (less_by (ltb x y) (eqb x y))
    ∙ ap (λ b. not (ltb x y) && not b) (less_by (ltb y x) (eqb y x))
    ∙ equal_by x y

-- a stable sort by contexts keeps the rules of each context in their order
same_group : (old new : List GuideRule) → length new ≡ length old → IsStableByKey (λ (rule : GuideRule). rule.context) nat_cmp old new → (c : ℕ)
    → filter (λ (rule : GuideRule). eqb rule.context c) new ≡ filter (λ (rule : GuideRule). eqb rule.context c) old
same_group [] [] long stable c = refl
same_group [] (y ∷ new) long stable c = absurd (omega (arith, long))
same_group (x ∷ old) new long stable c =
    let one : GuideRule = record x { context = c } in
    let lt : GuideRule → GuideRule → Bool = λ a b. is_lt (nat_cmp a.context b.context) in
    let test : GuideRule → Bool = λ rule. eqb rule.context c in
    let agree : (rule : GuideRule) → ties lt one rule ≡ test rule = λ rule. ties_are c rule.context in
    sym (filter_agree (ties lt one) test agree new) ∙ stable one ∙ filter_agree (ties lt one) test agree (x ∷ old)

pub sorted_denotes : (old new : List GuideRule) → length new ≡ length old → IsStableByKey (λ (rule : GuideRule). rule.context) nat_cmp old new
    → denoted_contexts (map rule_value new) ≡ denoted_contexts (map rule_value old)
sorted_denotes old new long stable =
    same_contexts (map rule_value new) (map rule_value old)
    (λ s c.
    let test : ContextRule → Bool = λ rule. eqb rule.context c && matches rule.cube s in
    let in_context : GuideRule → Bool = λ rule. eqb rule.context c in
    let fits : GuideRule → Bool = λ rule. matches rule.cube.now s in
    find_map test rule_value new
    ∙ ap (option_map rule_value)
    (find_both in_context fits new ∙ ap (find fits) (same_group old new long stable c) ∙ sym (find_both in_context fits old))
    ∙ sym (find_map test rule_value old))
