-- The rules of the plans with contexts that are printed: no two of them count in one configuration, each
-- counts in some state, and each names its fluents in order and goes on in one context.
use Rattle.std.proofs.Common.{◌≡◌, ◌≢◌, ◌-◌, ◌<◌, ◌≤◌, ◌&&◌, if◌then◌else◌, ◌==◌, ℕ, suc, Bool, true, false, List, [], ◌∷◌, length, Some, refl, sym, ap, ◌∙◌, subst, arith, ⊎_elim}
use Rattle.std.specs.List.{Contains, list_any, range_with_len}
use Rattle.std.proofs.lemmas.Bool.{and_from, and_parts, eq-eqb, eqb-true, true≢false}
use Rattle.std.proofs.lemmas.Option.{same_Some}
use Rattle.task_core.specs.ContextPlans.{Configuration}
use Rattle.task_core.specs.Cubes.{Cube, SetOfVectors, cubes_of, matches}
use Rattle.task_core.specs.Systems.{System, Exec, IsSystem, IsVector}
use Rattle.task_core.specs.Vectors.{Vector}
use Rattle.plan_document.specs.Faithful.{IsToldRule}
use Rattle.plan_rules.specs.Rules.{ContextRule}
use Rattle.plan_theory.specs.ContextRules.{StatesOfRules, action_rules, context_rules, next_rules, rule_for, rules_in_context}
use Rattle.plan_theory.specs.LayerPlans.{is_action}
use Rattle.plan_theory.specs.Layers.{action_numbers, must_lead}
use Rattle.plan_theory.specs.PatrolPrinted.{patrol_action, patrol_next, patrol_nexts, patrol_rules, patrol_states}
use Rattle.plan_theory.specs.Patrols.{patrol_set}
use Rattle.plan_theory.specs.UntilChains.{UntilSets, until_advance, until_contexts, until_win_at}
use Rattle.plan_theory.specs.UntilPrinted.{until_action, until_nexts, until_rules, until_states}
use Rattle.plan_theory.proofs.Cubes.{cubes_match}
use Rattle.plan_theory.proofs.PatrolSets.{acts_in_patrol}
use Rattle.plan_theory.proofs.Tests.{HasOutcome-Exec, is_action-Some}
use Rattle.plan_theory.proofs.UntilTowards.{chain_acts}
use Rattle.list_laws.proofs.Elements.{Contains-cases, Contains-flat_map-witness, Contains-map-witness, Contains-nil, list_any-from, list_any-witness}
use Rattle.controller_rules.specs.AsRun.{counts_at}
use Rattle.apart_rules.proofs.ApartCubes.{AreApartCubes, Each, cubes_apart, cubes_matched, cubes_rise}
use Rattle.apart_rules.proofs.Lists.{Pairwise, pairwise-flat_map, pairwise-map, pairwise-range, pairwise-weaker, range_bounds}
use Rattle.apart_rules.proofs.Parts.{AreApart, CountsInState, NeverBoth}
use Rattle.apart_rules.proofs.PrintedTables.{in_order}

-- an action that leads somewhere can be executed
leading_executes : (sys : System) (set : SetOfVectors) (v : Vector) (a : ℕ) → must_lead sys set v a ≡ true → Exec sys v a
leading_executes sys set v a leads =
    let t = list_any-witness set (sys.next v a) (and_parts (list_any set (sys.next v a)) _ leads).0 in
    HasOutcome-Exec sys v a t.0 t.1

module _ (sys : System) (states : StatesOfRules) (nexts : ℕ → List ℕ) (last : ℕ) where
  abbrev rules : List ContextRule
  rules = context_rules sys states nexts last

  -- a rule that counts is of its context, and of the states of its action there
  record CountsFor (c j a : ℕ) (x : Configuration) : Type 0 where
    context : c ≡ x.context
    holds : states c j a x.state ≡ true

  counts_for : (c j a : ℕ) (rule : ContextRule) (x : Configuration) → Contains (action_rules sys states c j a) rule → length x.state ≡ sys.fluents → counts_at x rule ≡ true → CountsFor c j a x
  counts_for c j a rule x among long counts =
      let cubes = cubes_of sys.fluents (states c j a) in
      let cube = Contains-map-witness (rule_for c j a) cubes rule among in
      let both = and_parts (c == x.context) (matches cube.0 x.state) (ap (counts_at x) cube.2 ∙ counts) in
      record {
        context = eqb-true c x.context both.0;
        holds = sym (cubes_match sys.fluents 0 (states c j a) [] x.state refl long) ∙ list_any-from (λ d. matches d x.state) cubes cube.0 cube.1 both.1;
      }

  one_action : (c j a : ℕ) → Pairwise (NeverBoth sys.fluents) (action_rules sys states c j a)
  one_action c j a =
      let cubes = cubes_of sys.fluents (states c j a) in
      pairwise-map (NeverBoth sys.fluents) (rule_for c j a) cubes
      (pairwise-weaker AreApartCubes (λ (cube other : Cube). NeverBoth sys.fluents (rule_for c j a cube) (rule_for c j a other)) cubes
      (λ cube other never x long m k. never x.state (and_parts (c == x.context) (matches cube x.state) m).1 (and_parts (c == x.context) (matches other x.state) k).1)
      (cubes_apart 0 sys.fluents (states c j a)))

  -- where a state takes one action and goes on in one context, and the next contexts differ
  module _ (one : (v : Vector) (c i j a b : ℕ) → states c i a v ≡ true → states c j b v ≡ true → (i ≡ j) × (a ≡ b))
      (differ : (c : ℕ) → Pairwise (λ (i j : ℕ). i ≢ j) (nexts c)) where
    one_next : (c j : ℕ) → Pairwise (NeverBoth sys.fluents) (next_rules sys states c j)
    one_next c j =
        pairwise-flat_map (λ (a b : ℕ). a < b) (NeverBoth sys.fluents) (action_rules sys states c j) (action_numbers sys) (pairwise-range 0 sys.actions) (λ a among. one_action c j a)
        (λ a b rule other less among among' x long counts counts'.
        let here = counts_for c j a rule x among long counts in
        let there = counts_for c j b other x among' long counts' in
        let same = (one x.state c j j a b here.holds there.holds).1 in
        absurd (omega (arith, less, same)))

    record CountsOnward (c j : ℕ) (x : Configuration) : Type 0 where
      action : ℕ
      for : CountsFor c j action x

    counts_onward : (c j : ℕ) (rule : ContextRule) (x : Configuration) → Contains (next_rules sys states c j) rule → length x.state ≡ sys.fluents → counts_at x rule ≡ true → CountsOnward c j x
    counts_onward c j rule x among long counts =
        let by_action = Contains-flat_map-witness (action_rules sys states c j) (action_numbers sys) rule among in
        record { action = by_action.0; for = counts_for c j by_action.0 rule x by_action.2 long counts }

    one_context : (c : ℕ) → Pairwise (NeverBoth sys.fluents) (rules_in_context sys states nexts c)
    one_context c =
        pairwise-flat_map (λ (i j : ℕ). i ≢ j) (NeverBoth sys.fluents) (next_rules sys states c) (nexts c) (differ c) (λ j among. one_next c j)
        (λ i j rule other apart among among' x long counts counts'.
        let here = counts_onward c i rule x among long counts in
        let there = counts_onward c j other x among' long counts' in
        apart (one x.state c i j here.action there.action here.for.holds there.for.holds).0)

    in_context : (c : ℕ) (rule : ContextRule) (x : Configuration) → Contains (rules_in_context sys states nexts c) rule → length x.state ≡ sys.fluents → counts_at x rule ≡ true → c ≡ x.context
    in_context c rule x among long counts =
        let by_next = Contains-flat_map-witness (next_rules sys states c) (nexts c) rule among in
        (counts_onward c by_next.0 rule x by_next.2 long counts).for.context

    pub contexts_apart : AreApart sys.fluents rules
    contexts_apart =
        pairwise-flat_map (λ (c d : ℕ). c < d) (NeverBoth sys.fluents) (rules_in_context sys states nexts) (range_with_len 1 last) (pairwise-range 1 last) (λ c among. one_context c)
        (λ c d rule other less among among' x long counts counts'.
        let same : c ≡ d = in_context c rule x among long counts ∙ sym (in_context d other x among' long counts') in
        absurd (omega (arith, less, same)))

  -- each rule is of a cube of its states
  record OfStates (rule : ContextRule) : Type 0 where
    context : ℕ
    next : ℕ
    action : ℕ
    first : 1 ≤ context
    end : context ≤ last
    cube : Cube
    among : Contains (cubes_of sys.fluents (states context next action)) cube
    is : rule_for context next action cube ≡ rule

  of_states : (rule : ContextRule) → Contains rules rule → OfStates rule
  of_states rule c =
      let by_context = Contains-flat_map-witness (rules_in_context sys states nexts) (range_with_len 1 last) rule c in
      let by_next = Contains-flat_map-witness (next_rules sys states by_context.0) (nexts by_context.0) rule by_context.2 in
      let by_action = Contains-flat_map-witness (action_rules sys states by_context.0 by_next.0) (action_numbers sys) rule by_next.2 in
      let cube = Contains-map-witness (rule_for by_context.0 by_next.0 by_action.0) (cubes_of sys.fluents (states by_context.0 by_next.0 by_action.0)) rule by_action.2 in
      let bounds = range_bounds 1 last by_context.0 by_context.1 in
      record {
        context = by_context.0;
        next = by_next.0;
        action = by_action.0;
        first = bounds.0;
        end = (let l = bounds.1 in omega arith);
        cube = cube.0;
        among = cube.1;
        is = cube.2;
      }

  pub contexts_told : Each IsToldRule rules
  contexts_told rule c =
      let of = of_states rule c in
      subst IsToldRule of.is (record { cube = in_order 0 of.cube (cubes_rise 0 sys.fluents (states of.context of.next of.action) of.cube of.among); next = tt })

  -- where the states of an action can execute it
  module _ (ok : IsSystem sys) (executes : (c j a : ℕ) (v : Vector) → IsVector sys v → 1 ≤ c → c ≤ last → states c j a v ≡ true → Exec sys v a) where
    pub contexts_executable : (rule : ContextRule) (v : Vector) → Contains rules rule → IsVector sys v → matches rule.cube v ≡ true → Exec sys v rule.action
    contexts_executable rule v c is m =
        let of = of_states rule c in
        let matched : matches of.cube v ≡ true = ap (λ (r : ContextRule). matches r.cube v) of.is ∙ m in
        let holds : states of.context of.next of.action v ≡ true =
        sym (cubes_match sys.fluents 0 (states of.context of.next of.action) [] v refl is)
        ∙ list_any-from (λ d. matches d v) (cubes_of sys.fluents (states of.context of.next of.action)) of.cube of.among matched in
        subst (λ (r : ContextRule). Exec sys v r.action) of.is (executes of.context of.next of.action v is of.first of.end holds)

    pub contexts_in_state : (rule : ContextRule) → Contains rules rule → CountsInState sys rule
    contexts_in_state rule c =
        let of = of_states rule c in
        let at = cubes_matched [] 0 sys.fluents (states of.context of.next of.action) refl of.cube of.among in
        let v = at.rest in
        let matched : matches rule.cube v ≡ true = sym (ap (λ (r : ContextRule). matches r.cube v) of.is) ∙ at.matched in
        record {
          place = record { state = v; context = rule.context };
          is_state = record { vector = at.long; inside = ok.inside v rule.action (contexts_executable rule v c at.long matched) };
          counts = and_from (rule.context == rule.context) (matches rule.cube v) (eq-eqb rule.context rule.context refl) matched;
        }

-- until-chains
module _ (sys : System) (chain : UntilSets) where
  until_way : (v : Vector) (c j a : ℕ) → until_states sys chain c j a v ≡ true → (until_win_at sys chain c v ≡ true) × (until_advance sys chain c v ≡ j) × (until_action sys chain (until_advance sys chain c v) v ≡ Some a)
  until_way v c j a holds =
      let inside = and_parts (until_win_at sys chain c v) ((until_advance sys chain c v == j) && is_action a (until_action sys chain j v)) holds in
      let both = and_parts (until_advance sys chain c v == j) (is_action a (until_action sys chain j v)) inside.1 in
      let same : until_advance sys chain c v ≡ j = eqb-true (until_advance sys chain c v) j both.0 in
      (inside.0, same, ap (λ n. until_action sys chain n v) same ∙ is_action-Some a (until_action sys chain j v) both.1)

  until_one : (v : Vector) (c i j a b : ℕ) → until_states sys chain c i a v ≡ true → until_states sys chain c j b v ≡ true → (i ≡ j) × (a ≡ b)
  until_one v c i j a b h k =
      let one = until_way v c i a h in
      let two = until_way v c j b k in
      (sym one.1 ∙ two.1, same_Some a b (sym one.2 ∙ two.2))

  until_differ : (c : ℕ) → Pairwise (λ (i j : ℕ). i ≢ j) (until_nexts chain c)
  until_differ c = pairwise-weaker (λ (i j : ℕ). i < j) (λ (i j : ℕ). i ≢ j) (until_nexts chain c) (λ i j less same. absurd (omega (arith, less, same))) (pairwise-range c (suc (until_contexts chain) - c))

  until_executes : IsSystem sys → (c j a : ℕ) (v : Vector) → IsVector sys v → 1 ≤ c → c ≤ until_contexts chain → until_states sys chain c j a v ≡ true → Exec sys v a
  until_executes ok c j a v is first last holds =
      let way = until_way v c j a holds in
      let acts = chain_acts sys chain c v first ok is way.0 in
      subst (Exec sys v) (same_Some acts.action a (sym acts.chosen ∙ way.2)) (leading_executes sys _ v acts.action acts.leads)

  pub until_apart : AreApart sys.fluents (until_rules sys chain)
  until_apart = contexts_apart sys (until_states sys chain) (until_nexts chain) (until_contexts chain) until_one until_differ

  pub until_told : Each IsToldRule (until_rules sys chain)
  until_told = contexts_told sys (until_states sys chain) (until_nexts chain) (until_contexts chain)

  pub until_executable : IsSystem sys → (rule : ContextRule) (v : Vector) → Contains (until_rules sys chain) rule → IsVector sys v → matches rule.cube v ≡ true → Exec sys v rule.action
  until_executable ok = contexts_executable sys (until_states sys chain) (until_nexts chain) (until_contexts chain) ok (until_executes ok)

  pub until_in_state : IsSystem sys → (rule : ContextRule) → Contains (until_rules sys chain) rule → CountsInState sys rule
  until_in_state ok = contexts_in_state sys (until_states sys chain) (until_nexts chain) (until_contexts chain) ok (until_executes ok)

-- the next contexts of a patrol differ
two_differ : (i j : ℕ) → i ≢ j → Pairwise (λ (i j : ℕ). i ≢ j) (i ∷ j ∷ [])
two_differ i j apart = (
  λ k c. ⊎_elim (λ (e : j ≡ k). λ same. apart (same ∙ sym e)) (λ d. absurd (Contains-nil k d)) (Contains-cases j [] k c),
  (λ k c. absurd (Contains-nil k c), tt),
)

patrol_differ : (count c : ℕ) → Pairwise (λ (i j : ℕ). i ≢ j) (patrol_nexts count c)
patrol_differ count c = go (c == count) (count == 1) refl
  where
    go : (b d : Bool) → (count == 1) ≡ d → Pairwise (λ (i j : ℕ). i ≢ j) (if b then (if d then 1 ∷ [] else 1 ∷ count ∷ []) else c ∷ suc c ∷ [])
    go true true e = (λ k d. absurd (Contains-nil k d), tt)
    go true false e = two_differ 1 count (λ same. absurd (true≢false (sym (eq-eqb count 1 (sym same)) ∙ e)))
    go false d e = two_differ c (suc c) (λ same. absurd (omega (arith, same)))

module _ (sys : System) (visits : List SetOfVectors) where
  patrol_way : (v : Vector) (c j a : ℕ) → patrol_states sys visits c j a v ≡ true → (patrol_set sys visits v ≡ true) × (patrol_next visits c v ≡ j) × (patrol_action sys visits c v ≡ Some a)
  patrol_way v c j a holds =
      let inside = and_parts (patrol_set sys visits v) ((patrol_next visits c v == j) && is_action a (patrol_action sys visits c v)) holds in
      let both = and_parts (patrol_next visits c v == j) (is_action a (patrol_action sys visits c v)) inside.1 in
      (inside.0, eqb-true (patrol_next visits c v) j both.0, is_action-Some a (patrol_action sys visits c v) both.1)

  patrol_one : (v : Vector) (c i j a b : ℕ) → patrol_states sys visits c i a v ≡ true → patrol_states sys visits c j b v ≡ true → (i ≡ j) × (a ≡ b)
  patrol_one v c i j a b h k =
      let one = patrol_way v c i a h in
      let two = patrol_way v c j b k in
      (sym one.1 ∙ two.1, same_Some a b (sym one.2 ∙ two.2))

  pub patrol_apart : AreApart sys.fluents (patrol_rules sys visits)
  patrol_apart = contexts_apart sys (patrol_states sys visits) (patrol_nexts (length visits)) (length visits) patrol_one (patrol_differ (length visits))

  pub patrol_told : Each IsToldRule (patrol_rules sys visits)
  patrol_told = contexts_told sys (patrol_states sys visits) (patrol_nexts (length visits)) (length visits)

  patrol_executes : IsSystem sys → (c j a : ℕ) (v : Vector) → IsVector sys v → 1 ≤ c → c ≤ length visits → patrol_states sys visits c j a v ≡ true → Exec sys v a
  patrol_executes ok c j a v is first last holds =
      let way = patrol_way v c j a holds in
      let acts = acts_in_patrol sys ok visits c first last v is way.0 in
      subst (Exec sys v) (same_Some acts.action a (sym acts.chosen ∙ way.2)) (leading_executes sys (patrol_set sys visits) v acts.action acts.leads)

  pub patrol_executable : IsSystem sys → (rule : ContextRule) (v : Vector) → Contains (patrol_rules sys visits) rule → IsVector sys v → matches rule.cube v ≡ true → Exec sys v rule.action
  patrol_executable ok = contexts_executable sys (patrol_states sys visits) (patrol_nexts (length visits)) (length visits) ok (patrol_executes ok)

  pub patrol_in_state : IsSystem sys → (rule : ContextRule) → Contains (patrol_rules sys visits) rule → CountsInState sys rule
  patrol_in_state ok = contexts_in_state sys (patrol_states sys visits) (patrol_nexts (length visits)) (length visits) ok (patrol_executes ok)
