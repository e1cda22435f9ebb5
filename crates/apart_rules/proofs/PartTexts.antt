-- The text of a part is no longer than that of the plan.
use Rattle.std.proofs.Common.{◌≡◌, ◌+◌, ◌++◌, ◌<◌, ◌≤◌, ◌⊎◌, ℕ, zero, suc, Bool, true, false, List, [], ◌∷◌, Option, None, codes, length, inl, inr, refl, sym, ap, ◌∙◌, subst, arith, length-append}
use Rattle.std.specs.Prelude.{decimal, ◌^◌, ◌/◌, ◌%◌}
use Rattle.std.specs.List.{Contains, flat_map}
use Rattle.std.proofs.lemmas.Bool.{cases_lt}
use Rattle.std.proofs.lemmas.Fmt.{decimal_nonempty, decimal_step, length-decimal-le}
use Rattle.std.proofs.lemmas.List.Elements.{All-contains}
use Rattle.task_core.specs.Names.{Name}
use Rattle.plan_rules.specs.Plans.{IsContextRuleOf, IsNextOf, IsPlainPlanOf}
use Rattle.plan_rules.specs.Rules.{ContextRule, PlainPlan, PlanNext, always, automaton, by_cases, table}
use Rattle.plan_rules.specs.Texts.{class_word, context_rule_text, line_feed, rule_text, text_of}
use Rattle.list_laws.proofs.Elements.{Contains-cons, Contains-head}
use Rattle.exec_graph.specs.Graphs.{PlainGraph}
use Rattle.controller_rules.specs.Serving.{IsServingPart, greatest_named, marked, marked_part, next_named}
use Rattle.controller_rules.specs.Texts.{controller_text, noted_text}
use Rattle.apart_rules.proofs.Marked.{marked-among}

-- without numbers of steps there are no comments
no_comments : {X : Type 0} (text : X → List ℕ) (before : Option ℕ) (xs : List X) → noted_text text before xs [] ≡ flat_map text xs
no_comments text before [] = refl
no_comments text before (x ∷ xs) = ap (λ bytes. text x ++ bytes) (no_comments text before xs)

pub no_notes : (fluents actions : List Name) (plan : PlainPlan) → controller_text fluents actions plan [] ≡ text_of fluents actions plan
no_notes fluents actions (table class rules) = ap (λ bytes. codes "(plan table " ++ class_word class ++ line_feed ++ bytes ++ codes ")" ++ line_feed) (no_comments (rule_text fluents actions) None rules)
no_notes fluents actions (automaton contexts rules) = ap (λ bytes. codes "(plan automaton " ++ decimal contexts ++ line_feed ++ bytes ++ codes ")" ++ line_feed) (no_comments (context_rule_text fluents actions) None rules)

-- fewer rules have no longer text
fewer : {X : Type 0} (text : X → List ℕ) (marks : List Bool) (xs : List X) → length (flat_map text (marked marks xs)) ≤ length (flat_map text xs)
fewer text [] xs = omega arith
fewer text (mark ∷ marks) [] = omega arith
fewer text (true ∷ marks) (x ∷ xs) =
    omega (arith, length-append (text x) (flat_map text (marked marks xs)), length-append (text x) (flat_map text xs), fewer text marks xs)
fewer text (false ∷ marks) (x ∷ xs) = omega (arith, length-append (text x) (flat_map text xs), fewer text marks xs)

-- nor has a smaller number
by_digits : (m n : ℕ) → m ≤ n → n < 2 ^ 64 → (10 ≤ n → length (decimal (m / 10)) ≤ length (decimal (n / 10))) → (m < 10) ⊎ (10 ≤ m) → (n < 10) ⊎ (10 ≤ n) → length (decimal m) ≤ length (decimal n)
by_digits m n few small rest (inl one) q =
    omega (arith, length-decimal-le 1 m (omega arith) (omega (arith, one)) (omega (arith, few, small)), decimal_nonempty n small)
by_digits m n few small rest (inr more) (inl one) = absurd (omega (arith, more, one, few))
by_digits m n few small rest (inr more) (inr much) =
    let here = ap length (decimal_step m more (omega (arith, few, small))) ∙ length-append (decimal (m / 10)) ((48 + m % 10) ∷ []) in
    let there = ap length (decimal_step n much small) ∙ length-append (decimal (n / 10)) ((48 + n % 10) ∷ []) in
    omega (arith, rest much, here, there)

shorter_within : (fuel m n : ℕ) → n < fuel → m ≤ n → n < 2 ^ 64 → length (decimal m) ≤ length (decimal n)
shorter_within zero m n less few small = absurd (omega arith)
shorter_within (suc fuel) m n less few small =
    by_digits m n few small (λ much. shorter_within fuel (m / 10) (n / 10) (omega (arith, much, less)) (omega (arith, few)) (omega (arith, small))) (cases_lt m 10) (cases_lt n 10)

shorter : (m n : ℕ) → m ≤ n → n < 2 ^ 64 → length (decimal m) ≤ length (decimal n)
shorter m n few small = shorter_within (suc n) m n (omega arith) few small

-- the contexts that rules name are among those of the plan
next_within : (f contexts : ℕ) (next : PlanNext) → 1 ≤ contexts → IsNextOf f contexts next → next_named next ≤ contexts
next_within f contexts (always context) some of = of.last
next_within f contexts (by_cases cases) some of = some

named_within : (f a contexts : ℕ) (rules : List ContextRule) → 1 ≤ contexts → ((rule : ContextRule) → Contains rules rule → IsContextRuleOf f a contexts rule) → greatest_named rules ≤ contexts
named_within f a contexts [] some of = some
named_within f a contexts (rule ∷ rules) some of =
    let here = of rule (Contains-head rule rules) in
    let own = here.context.last in
    omega (arith, own, next_within f contexts rule.next some here.next, named_within f a contexts rules some (λ other c. of other (Contains-cons rule rules other c)))

whole : (a b c d e f : List ℕ) → length (a ++ b ++ c ++ d ++ e ++ f) ≡ length a + length b + length c + length d + length e + length f
whole a b c d e f = grind (arith, length-append)

-- a head, a word, rules and an end
around : (head one other gap small large close end : List ℕ) → length one ≤ length other → length small ≤ length large
    → length (head ++ one ++ gap ++ small ++ close ++ end) ≤ length (head ++ other ++ gap ++ large ++ close ++ end)
around head one other gap small large close end le few = omega (arith, whole head one gap small close end, whole head other gap large close end, le, few)

module _ (fluents actions : List Name) (f a : ℕ) where
  marked_short : (marks : List Bool) (plan : PlainPlan) → IsPlainPlanOf f a plan → length (text_of fluents actions (marked_part marks plan)) ≤ length (text_of fluents actions plan)
  marked_short marks (table class rules) of =
      around (codes "(plan table ") (class_word class) (class_word class) line_feed (flat_map (rule_text fluents actions) (marked marks rules)) (flat_map (rule_text fluents actions) rules) (codes ")") line_feed (omega arith) (fewer (rule_text fluents actions) marks rules)
  marked_short marks (automaton contexts rules) of =
      around (codes "(plan automaton ") (decimal (greatest_named (marked marks rules))) (decimal contexts) line_feed (flat_map (context_rule_text fluents actions) (marked marks rules)) (flat_map (context_rule_text fluents actions) rules) (codes ")") line_feed
      (shorter (greatest_named (marked marks rules)) contexts
      (named_within f a contexts (marked marks rules) of.number.first (λ rule c. All-contains (IsContextRuleOf f a contexts) rules rule of.each (marked-among marks rules rule c)))
      (let most = of.number.last in omega (arith, most)))
      (fewer (context_rule_text fluents actions) marks rules)

  pub serving_short : (graph : PlainGraph) (plan part : PlainPlan) → IsPlainPlanOf f a plan → IsServingPart graph plan part
      → length (controller_text fluents actions part []) ≤ length (text_of fluents actions plan)
  serving_short graph plan part of serving =
      subst (λ (bytes : List ℕ). length bytes ≤ length (text_of fluents actions plan)) (sym (no_notes fluents actions part))
      (subst (λ (q : PlainPlan). length (text_of fluents actions q) ≤ length (text_of fluents actions plan)) (sym serving.is) (marked_short serving.marks plan of))
