-- The rules of the plans that are printed for a class: no two of them match a state, each matches some
-- state, and each names its fluents in order.
use Rattle.std.proofs.Common.{◌≡◌, ℕ, ◌<◌, ◌^◌, ◌==◌, true, List, [], ◌∷◌, length, map, Some, refl, sym, ap, ◌∙◌, subst, arith}
use Rattle.std.specs.List.{All, Contains, list_any}
use Rattle.std.proofs.lemmas.Bool.{and_from, and_parts, eq-eqb}
use Rattle.std.proofs.lemmas.List.Elements.{All-cons, All-nil}
use Rattle.std.proofs.lemmas.Option.{same_Some}
use Rattle.task_core.specs.declared.literals.Lit.{Lit}
use Rattle.task_core.specs.ContextPlans.{first_context}
use Rattle.task_core.specs.Cubes.{Cube, cubes_of, matches}
use Rattle.task_core.specs.Systems.{System, IsSystem}
use Rattle.task_core.specs.Vectors.{Vector}
use Rattle.task_core.specs.declared.classes.Class.{Class}
use Rattle.task_core.specs.declared.classes.Class.TheVariants.{Weak}
use Rattle.plan_document.specs.Faithful.{IsInOrder}
use Rattle.rule_lookup.specs.RunRules.{in_one_context}
use Rattle.plan_rules.specs.Rules.{ContextRule, PlanRule}
use Rattle.plan_theory.specs.CyclicPlans.{cyclic_rules}
use Rattle.plan_theory.specs.LayerPlans.{chosen_action, printed_rules, rules_of_action, takers}
use Rattle.plan_theory.specs.Layers.{action_numbers}
use Rattle.plan_theory.specs.Pairs.{Pairs, restricted}
use Rattle.plan_theory.proofs.ClassLayers.{chosen_executable, printed_rule}
use Rattle.plan_theory.proofs.Cubes.{cubes_match}
use Rattle.plan_theory.proofs.Restricted.{restricted_system}
use Rattle.plan_theory.proofs.Tests.{is_action-Some}
use Rattle.list_laws.proofs.Elements.{Contains-cons, Contains-head, Contains-flat_map-witness, Contains-map-witness, list_any-from}
use Rattle.controller_rules.specs.AsRun.{counts_at}
use Rattle.apart_rules.proofs.ApartCubes.{AreApartCubes, Each, RisesFrom, cubes_apart, cubes_matched, cubes_rise}
use Rattle.apart_rules.proofs.Lists.{Pairwise, pairwise-flat_map, pairwise-map, pairwise-range, pairwise-weaker, pairwise_all}
use Rattle.apart_rules.proofs.Parts.{AreApart, CountsInState, NeverBoth, at_first}

-- a cube that rises is in order
pub in_order : (first : ℕ) (cube : Cube) → RisesFrom first cube → IsInOrder cube
in_order first cube r = pairwise_all (λ (lit other : Lit). lit.fluent.0 < other.fluent.0) cube r.rises

-- what holds of each element
pub all_of : {X : Type 0} (P : X → Type 0) (xs : List X) → Each P xs → All P xs
all_of P [] each = All-nil P
all_of P (x ∷ xs) each = All-cons P x xs (each x (Contains-head x xs)) (all_of P xs (λ y c. each y (Contains-cons x xs y c)))

-- no vector of n values is matched by both rules
abbrev NeverMatch : ℕ → PlanRule → PlanRule → Type 0
NeverMatch n rule other = (v : Vector) → length v ≡ n → matches rule.cube v ≡ true → matches other.cube v ≡ true → ⊥

module _ (class : Class) (sys : System) (K : ℕ) where
  abbrev rules : List PlanRule
  rules = printed_rules class sys K

  abbrev cubes_for : ℕ → List Cube
  cubes_for a = cubes_of sys.fluents (takers class sys K a)

  -- a state that a rule of an action matches takes the action
  takes : (a : ℕ) (rule : PlanRule) (v : Vector) → Contains (rules_of_action class sys K a) rule → length v ≡ sys.fluents → matches rule.cube v ≡ true → chosen_action class sys K v ≡ Some a
  takes a rule v c is m =
      let cube = Contains-map-witness (λ (cube : Cube). record { cube = cube; action = a }) (cubes_for a) rule c in
      let matched : matches cube.0 v ≡ true = ap (λ (r : PlanRule). matches r.cube v) cube.2 ∙ m in
      let some : list_any (λ d. matches d v) (cubes_for a) ≡ true = list_any-from (λ d. matches d v) (cubes_for a) cube.0 cube.1 matched in
      is_action-Some a (chosen_action class sys K v) (sym (cubes_match sys.fluents 0 (takers class sys K a) [] v refl is) ∙ some)

  one_action : (a : ℕ) → Pairwise (NeverMatch sys.fluents) (rules_of_action class sys K a)
  one_action a =
      pairwise-map (NeverMatch sys.fluents) (λ (cube : Cube). record { cube = cube; action = a }) (cubes_for a)
      (pairwise-weaker AreApartCubes (λ (cube other : Cube). NeverMatch sys.fluents (record { cube = cube; action = a }) (record { cube = other; action = a })) (cubes_for a)
      (λ cube other never v long m k. never v m k) (cubes_apart 0 sys.fluents (takers class sys K a)))

  two_actions : (a b : ℕ) (rule other : PlanRule) → a < b → Contains (rules_of_action class sys K a) rule → Contains (rules_of_action class sys K b) other → NeverMatch sys.fluents rule other
  two_actions a b rule other less c d v long m k =
      let same : a ≡ b = same_Some a b (sym (takes a rule v c long m) ∙ takes b other v d long k) in
      absurd (omega (arith, less, same))

  pub printed_apart : AreApart sys.fluents (map in_one_context rules)
  printed_apart =
      pairwise-map (NeverBoth sys.fluents) in_one_context rules
      (pairwise-weaker (NeverMatch sys.fluents) (λ (rule other : PlanRule). NeverBoth sys.fluents (in_one_context rule) (in_one_context other)) rules
      (λ rule other never x long m k. never x.state long (and_parts (first_context == x.context) (matches rule.cube x.state) m).1 (and_parts (first_context == x.context) (matches other.cube x.state) k).1)
      (pairwise-flat_map (λ (i j : ℕ). i < j) (NeverMatch sys.fluents) (rules_of_action class sys K) (action_numbers sys) (pairwise-range 0 sys.actions) (λ a c. one_action a) two_actions))

  -- each rule is of a cube of its action's states
  record OfCube (rule : PlanRule) : Type 0 where
    action : ℕ
    among : Contains (cubes_for action) rule.cube

  of_cube : (rule : PlanRule) → Contains rules rule → OfCube rule
  of_cube rule c =
      let by_action = Contains-flat_map-witness (rules_of_action class sys K) (action_numbers sys) rule c in
      let cube = Contains-map-witness (λ (cube : Cube). record { cube = cube; action = by_action.0 }) (cubes_for by_action.0) rule by_action.2 in
      record { action = by_action.0; among = subst (Contains (cubes_for by_action.0)) (ap (λ (r : PlanRule). r.cube) cube.2) cube.1 }

  pub printed_in_order : Each (λ (rule : PlanRule). IsInOrder rule.cube) rules
  printed_in_order rule c = let of = of_cube rule c in in_order 0 rule.cube (cubes_rise 0 sys.fluents (takers class sys K of.action) rule.cube of.among)

  pub printed_in_state : IsSystem sys → (rule : ContextRule) → Contains (map in_one_context rules) rule → CountsInState sys rule
  printed_in_state ok rule c =
      let plain = Contains-map-witness in_one_context rules rule c in
      let of = of_cube plain.0 plain.1 in
      let at = cubes_matched [] 0 sys.fluents (takers class sys K of.action) refl plain.0.cube of.among in
      let v = at.rest in
      let exec = chosen_executable class sys v plain.0.action K (printed_rule class sys K plain.0 v plain.1 at.long at.matched) in
      record {
        place = at_first v;
        is_state = record { vector = at.long; inside = ok.inside v plain.0.action exec };
        counts = subst (λ (r : ContextRule). counts_at (at_first v) r ≡ true) plain.2 (and_from (first_context == first_context) (matches plain.0.cube v) (eq-eqb first_context first_context refl) at.matched);
      }

-- the same of strong cyclic plans
pub cyclic_in_state : (sys : System) (pairs : Pairs) → IsSystem sys → (rule : ContextRule) → Contains (map in_one_context (cyclic_rules sys pairs)) rule → CountsInState sys rule
cyclic_in_state sys pairs ok rule c =
    let at = printed_in_state Weak (restricted sys pairs) (2 ^ sys.fluents) (restricted_system sys pairs ok) rule c in
    record { place = at.place; is_state = record { vector = at.is_state.vector; inside = at.is_state.inside }; counts = at.counts }
