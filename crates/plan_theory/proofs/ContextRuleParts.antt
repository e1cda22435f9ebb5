-- The rules of a plan that is given by sets: which of them match a state in a context, that one does
-- where some set has the state, and what numbers they have.
use Rattle.std.proofs.Common.{◌≡◌, ℕ, zero, suc, ◌+◌, ◌<◌, ◌≤◌, Bool, true, List, [], Option, Some, refl, sym, ◌∙◌, ap, subst, arith, ⊎_elim}
use Rattle.std.specs.Prelude.{◌&&◌, ◌==◌}
use Rattle.std.specs.List.{All, Contains, list_any, range_with_len}
use Rattle.std.specs.Option.{option_and_then, option_map}
use Rattle.std.proofs.lemmas.Bool.{and_from, and_parts, cases_lt, eq-eqb, eqb-true}
use Rattle.std.proofs.lemmas.List.Elements.{All-cons, All-map, All-nil, All-weaker}
use Rattle.task_core.specs.Cubes.{cubes_of, matches}
use Rattle.task_core.specs.Systems.{System, IsVector, IsSystem}
use Rattle.task_core.specs.Vectors.{Vector}
use Rattle.plan_rules.specs.Denoted.{denoted_contexts, next_context}
use Rattle.plan_rules.specs.Plans.{IsContextOf, IsContextRuleOf, IsCubeOf}
use Rattle.plan_rules.specs.Rules.{ContextRule, PlanNext, always}
use Rattle.plan_theory.specs.ContextRules.{StatesOfRules, action_rules, context_rules, next_rules, rules_in_context, rule_for}
use Rattle.plan_theory.specs.Layers.{action_numbers, may_lead, must_lead}
use Rattle.plan_theory.proofs.Cubes.{cubes_match}
use Rattle.plan_theory.proofs.PrintedWithin.{All-flat_map, cubes_below, range_below}
use Rattle.plan_theory.proofs.Weak.{HasOutcome-Exec}
use Rattle.list_laws.proofs.Elements.{Contains-cons, Contains-flat_map, Contains-flat_map-witness, Contains-head, Contains-map, Contains-map-witness, Contains-range_with_len, find-Some, find-found, list_any-from, list_any-witness}

-- a number among those from a on
pub Contains-range : (a n k : ℕ) → a ≤ k → k < a + n → Contains (range_with_len a n) k
Contains-range a zero k low high = absurd (omega arith)
Contains-range a (suc n) k low high =
    ⊎_elim
    (λ (h : a < k). Contains-cons a (range_with_len (a + 1) n) k (Contains-range (a + 1) n k (omega arith) (omega arith)))
    (λ (h : k ≤ a). let same : a ≡ k = omega arith in subst (Contains (range_with_len a (suc n))) same (Contains-head a (range_with_len (a + 1) n)))
    (cases_lt a k)

-- and each of those
pub record IsFrom (a n k : ℕ) : Type 0 where
  pub low : a ≤ k
  pub high : k < a + n

pub numbers_from : (a n : ℕ) → All (IsFrom a n) (range_with_len a n)
numbers_from a zero = All-nil (IsFrom a zero)
numbers_from a (suc n) =
    All-cons (IsFrom a (suc n)) a (range_with_len (a + 1) n)
    (record { low = omega arith; high = omega arith })
    (All-weaker (IsFrom (a + 1) n) (IsFrom a (suc n)) (λ k from. let low = from.low in let high = from.high in record { low = omega arith; high = omega arith }) (range_with_len (a + 1) n) (numbers_from (a + 1) n))

-- an action that leads somewhere is one of the system
pub leading_below : (sys : System) → IsSystem sys → (set : Vector → Bool) (v : Vector) (a : ℕ) → must_lead sys set v a ≡ true → a < sys.actions
leading_below sys ok set v a leads =
    let may = (and_parts (may_lead sys set v a) _ leads).0 in
    let t = list_any-witness set (sys.next v a) may in
    ok.actions v a (HasOutcome-Exec sys v a t.0 t.1)

module _ (sys : System) (states : StatesOfRules) (nexts : ℕ → List ℕ) (last : ℕ) where
  abbrev rules : List ContextRule
  rules = context_rules sys states nexts last

  -- the state is one of those of the rule
  record RuleHolds (v : Vector) (rule : ContextRule) : Type 0 where
    next : ℕ
    is : rule.next ≡ always next
    holds : states rule.context next rule.action v ≡ true

  rule_holds : (rule : ContextRule) (v : Vector) → Contains rules rule → IsVector sys v → matches rule.cube v ≡ true → RuleHolds v rule
  rule_holds rule v among is m =
      let by_context = Contains-flat_map-witness (rules_in_context sys states nexts) (range_with_len 1 last) rule among in
      let c = by_context.0 in
      let by_next = Contains-flat_map-witness (next_rules sys states c) (nexts c) rule by_context.2 in
      let j = by_next.0 in
      let by_action = Contains-flat_map-witness (action_rules sys states c j) (action_numbers sys) rule by_next.2 in
      let a = by_action.0 in
      let cubes = cubes_of sys.fluents (states c j a) in
      let cube = Contains-map-witness (rule_for c j a) cubes rule by_action.2 in
      let matched : matches cube.0 v ≡ true = ap (λ (r : ContextRule). matches r.cube v) cube.2 ∙ m in
      let some : list_any (λ d. matches d v) cubes ≡ true = list_any-from (λ d. matches d v) cubes cube.0 cube.1 matched in
      let holds : states c j a v ≡ true = sym (cubes_match sys.fluents 0 (states c j a) [] v refl is) ∙ some in
      subst (RuleHolds v) cube.2 (record { next = j; is = refl; holds = holds })

  abbrev counts : Vector → ℕ → ContextRule → Bool
  counts v c rule = (rule.context == c) && matches rule.cube v

  -- the rule of a context, a next context and an action that matches a state of theirs
  some_rule : (c j a : ℕ) (v : Vector) → IsVector sys v → 1 ≤ c → c ≤ last → Contains (nexts c) j → a < sys.actions → states c j a v ≡ true
      → list_any (counts v c) rules ≡ true
  some_rule c j a v is first end onward below holds =
      let cubes = cubes_of sys.fluents (states c j a) in
      let some : list_any (λ d. matches d v) cubes ≡ true = cubes_match sys.fluents 0 (states c j a) [] v refl is ∙ holds in
      let cube = list_any-witness (λ d. matches d v) cubes some in
      let rule = rule_for c j a cube.0 in
      list_any-from (counts v c) rules rule
      (Contains-flat_map (rules_in_context sys states nexts) (range_with_len 1 last) c rule
      (Contains-range 1 last c first (omega arith))
      (Contains-flat_map (next_rules sys states c) (nexts c) j rule onward
      (Contains-flat_map (action_rules sys states c j) (action_numbers sys) a rule
      (Contains-range_with_len sys.actions a below)
      (Contains-map (rule_for c j a) cubes cube.0 cube.1))))
      (and_from (c == c) (matches cube.0 v) (eq-eqb c c refl) cube.2)

  -- in a state of some of the sets of a context, which all take one action and go on in one context,
  -- the plan of the rules takes that action and goes on there
  pub rules_act : (v : Vector) (c j a : ℕ) → IsVector sys v → 1 ≤ c → c ≤ last → Contains (nexts c) j → a < sys.actions → states c j a v ≡ true
      → (turn : ℕ) (act : Option ℕ) → ((i b : ℕ) → states c i b v ≡ true → (turn ≡ i) × (act ≡ Some b))
      → ((denoted_contexts rules).act v c ≡ act) × ((t : Vector) → (denoted_contexts rules).ctxt v c t ≡ Some turn)
  rules_act v c j a is first end onward below holds turn act one =
      let found = find-Some (counts v c) rules (some_rule c j a v is first end onward below holds) in
      let rule = found.0 in
      let there = find-found (counts v c) rules rule found.1 in
      let both = and_parts (rule.context == c) (matches rule.cube v) there.1 in
      let here = rule_holds rule v there.0 is both.1 in
      let same = one here.next rule.action (subst (λ n. states n here.next rule.action v ≡ true) (eqb-true rule.context c both.0) here.holds) in (
        ap (option_map (λ (rule : ContextRule). rule.action)) found.1 ∙ sym same.1,
        λ t.
            ap (option_and_then (λ (rule : ContextRule). next_context rule.next t)) found.1
            ∙ ap (λ (next : PlanNext). next_context next t) here.is
            ∙ ap Some (sym same.0),
      )

  -- each rule speaks of the contexts of the plan, and of the system's fluents and actions alone

  abbrev Within : ContextRule → Type 0
  Within = IsContextRuleOf sys.fluents sys.actions last

  within : (c j a : ℕ) → IsContextOf last c → IsContextOf last j → a < sys.actions → All Within (action_rules sys states c j a)
  within c j a here there below =
      let cubes = cubes_of sys.fluents (states c j a) in
      All-map Within (rule_for c j a) cubes
      (All-weaker (IsCubeOf sys.fluents) (λ cube. Within (rule_for c j a cube)) (λ cube of_fluents. record { context = here; cube = of_fluents; action = below; next = there }) cubes
      (cubes_below 0 sys.fluents sys.fluents (states c j a) (omega arith)))

  pub rules_within : ((c : ℕ) → IsContextOf last c → All (IsContextOf last) (nexts c)) → All (IsContextRuleOf sys.fluents sys.actions last) rules
  rules_within each =
      let contexts = All-weaker (IsFrom 1 last) (IsContextOf last) (λ c from. let low = from.low in let high = from.high in record { first = omega arith; last = omega arith }) (range_with_len 1 last) (numbers_from 1 last) in
      All-flat_map (IsContextOf last) Within (rules_in_context sys states nexts) (range_with_len 1 last) contexts
      (λ c here. All-flat_map (IsContextOf last) Within (next_rules sys states c) (nexts c) (each c here)
      (λ j there. All-flat_map (λ a. a < sys.actions) Within (action_rules sys states c j) (action_numbers sys) (range_below 0 sys.actions sys.actions (omega arith))
      (λ a below. within c j a here there below)))
