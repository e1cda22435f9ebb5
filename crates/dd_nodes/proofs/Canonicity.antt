-- One number per function: in a reduced list two numbers have the same function exactly where they
-- are equal (Bryant 1986, Theorem 1). By induction on the numbers, from the conditions on a reduced
-- list alone.
use Rattle.std.proofs.Common.{◌≡◌, ◌≢◌, ℕ, zero, suc, ◌+◌, ◌<◌, Bool, true, false, eqb, List, length, Some, None, refl, sym, ap, subst, ◌∙◌, ⊎_elim, arith}
use Rattle.std.proofs.lemmas.Bool.Decides.{nat_tests}
use Rattle.std.proofs.lemmas.Bool.{cases_order, eq-eqb, ne_eqb, cond-true, cond-false}
use Rattle.std.proofs.lemmas.Option.{none-some, same_Some}
use Rattle.dd_nodes.specs.declared.node.Node.{Node}
use Rattle.dd_nodes.specs.NodeList.{Values, with_value, IsNumber, node_at, function, StandsBelow, IsReduced}
use Rattle.dd_nodes.proofs.NodeLemmas.{same_ref, same_node, number_cases, function_without_node, function_node, function_blind, node_place}

pub with_value_same : (values : Values) (v : ℕ) (b : Bool) → with_value values v b v ≡ b
with_value_same values v b = cond-true (eqb v v) b (values v) (eq-eqb v v refl)

pub with_value_other : (values : Values) (v : ℕ) (b : Bool) (u : ℕ) → u ≢ v → with_value values v b u ≡ values u
with_value_other values v b u differs = cond-false (eqb u v) b (values u) (ne_eqb u v differs)

pub with_value_above : (values : Values) (v : ℕ) (b : Bool) (u : ℕ) → v < u → with_value values v b u ≡ values u
with_value_above values v b u above = with_value_other values v b u (λ e. omega arith)

module _ (vars : ℕ) (nodes : List Node) (reduced : IsReduced vars nodes) where
  -- two numbers have the same function
  abbrev pub SameFunction : ℕ → ℕ → Type 0
  SameFunction a b = (values : Values) → function nodes a values ≡ function nodes b values

  -- a number below variable v in the diagram does not see its value
  pub blind_to : (v m : ℕ) → StandsBelow nodes v m → (values : Values) (b : Bool) → function nodes m (with_value values v b) ≡ function nodes m values
  blind_to v m deep values b = function_blind nodes vars reduced (m + 1) m (omega arith) (v + 1)
      (λ (k : Node) (at : node_at nodes m ≡ Some k). let deeper : v < k.var = deep k at in omega arith)
      (with_value values v b) values
      (λ u low _. with_value_above values v b u (omega arith))

  -- the function of a node where its variable is true, and where it is false
  pub hi_function : (n : ℕ) (node : Node) → node_at nodes n ≡ Some node → (values : Values) → function nodes n (with_value values node.var true) ≡ function nodes node.hi.0 values
  hi_function n node there values =
      function_node nodes vars reduced n node (with_value values node.var true) there
      ∙ cond-true (with_value values node.var true node.var) _ _ (with_value_same values node.var true)
      ∙ blind_to node.var node.hi.0 (reduced.hi_below n node there) values true

  pub lo_function : (n : ℕ) (node : Node) → node_at nodes n ≡ Some node → (values : Values) → function nodes n (with_value values node.var false) ≡ function nodes node.lo.0 values
  lo_function n node there values =
      function_node nodes vars reduced n node (with_value values node.var false) there
      ∙ cond-false (with_value values node.var false node.var) _ _ (with_value_same values node.var false)
      ∙ blind_to node.var node.lo.0 (reduced.lo_below n node there) values false

  -- equal functions have equal numbers, below a bound
  abbrev UniqueBelow : ℕ → Type 0
  UniqueBelow bound = (a b : ℕ) → a < bound → b < bound → IsNumber nodes a → IsNumber nodes b → SameFunction a b → a ≡ b

  -- a node has not the function of a number that stands below its variable
  apart : (bound : ℕ) → UniqueBelow bound → (a : ℕ) (node : Node) → node_at nodes a ≡ Some node → a < suc bound
      → (b : ℕ) → StandsBelow nodes node.var b → SameFunction a b → ⊥
  apart bound unique a node there below b deep same =
      let place = node_place nodes a node there in
      let hi_lower : node.hi.0 < a = reduced.hi_before a node there in
      let lo_lower : node.lo.0 < a = reduced.lo_before a node there in
      let within : a < length nodes + 2 = place.1 in
      let hi_same = λ (values : Values). sym (hi_function a node there values) ∙ same (with_value values node.var true) ∙ blind_to node.var b deep values true in
      let lo_same = λ (values : Values). sym (lo_function a node there values) ∙ same (with_value values node.var false) ∙ blind_to node.var b deep values false in
      let equal : node.lo.0 ≡ node.hi.0 = unique node.lo.0 node.hi.0 (omega arith) (omega arith) (omega arith) (omega arith) (λ values. lo_same values ∙ sym (hi_same values)) in
      reduced.tests a node there (same_ref node.lo node.hi equal)

  -- two nodes with the same function are one
  one_node : (bound : ℕ) → UniqueBelow bound → (a b : ℕ) (k l : Node) → node_at nodes a ≡ Some k → node_at nodes b ≡ Some l
      → a < suc bound → b < suc bound → SameFunction a b → k.var ≡ l.var → a ≡ b
  one_node bound unique a b k l at_a at_b in_a in_b same vars_equal =
      let within_a : a < length nodes + 2 = (node_place nodes a k at_a).1 in
      let within_b : b < length nodes + 2 = (node_place nodes b l at_b).1 in
      let hi_a : k.hi.0 < a = reduced.hi_before a k at_a in
      let lo_a : k.lo.0 < a = reduced.lo_before a k at_a in
      let hi_b : l.hi.0 < b = reduced.hi_before b l at_b in
      let lo_b : l.lo.0 < b = reduced.lo_before b l at_b in
      let hi_same = λ (values : Values). sym (hi_function a k at_a values) ∙ same (with_value values k.var true) ∙ ap (λ v. function nodes b (with_value values v true)) vars_equal ∙ hi_function b l at_b values in
      let lo_same = λ (values : Values). sym (lo_function a k at_a values) ∙ same (with_value values k.var false) ∙ ap (λ v. function nodes b (with_value values v false)) vars_equal ∙ lo_function b l at_b values in
      let hi_equal : k.hi.0 ≡ l.hi.0 = unique k.hi.0 l.hi.0 (omega arith) (omega arith) (omega arith) (omega arith) hi_same in
      let lo_equal : k.lo.0 ≡ l.lo.0 = unique k.lo.0 l.lo.0 (omega arith) (omega arith) (omega arith) (omega arith) lo_same in
      reduced.distinct a b k at_a (at_b ∙ ap Some (sym (same_node k l vars_equal lo_equal hi_equal)))

  -- a number stands below a variable that is less than its node's
  below_from : (v n : ℕ) (node : Node) → node_at nodes n ≡ Some node → v < node.var → StandsBelow nodes v n
  below_from v n node there less k at = subst (λ m. v < m.var) (same_Some node k (sym there ∙ at)) less

  below_constant : (v n : ℕ) → node_at nodes n ≡ None → StandsBelow nodes v n
  below_constant v n none k at = absurd (none-some k (sym none ∙ at))

  -- the step of the induction, by what the two numbers are
  unique_step : (bound : ℕ) → UniqueBelow bound → UniqueBelow (suc bound)
  unique_step bound unique a b in_a in_b number_a number_b same = ⊎_elim
      (λ (h : (a < 2) × (node_at nodes a ≡ None)). ⊎_elim
      (λ (g : (b < 2) × (node_at nodes b ≡ None)). constants h.0 g.0 h.1 g.1)
      (λ (g : (node : Node) × (node_at nodes b ≡ Some node)).
      absurd (apart bound unique b g.0 g.1 in_b a (below_constant g.0.var a h.1) (λ values. sym (same values))))
      (number_cases nodes b number_b))
      (λ (h : (node : Node) × (node_at nodes a ≡ Some node)). ⊎_elim
      (λ (g : (b < 2) × (node_at nodes b ≡ None)).
      absurd (apart bound unique a h.0 h.1 in_a b (below_constant h.0.var b g.1) same))
      (λ (g : (node : Node) × (node_at nodes b ≡ Some node)). both h.0 h.1 g.0 g.1)
      (number_cases nodes b number_b))
      (number_cases nodes a number_a)
    where
      constants : a < 2 → b < 2 → node_at nodes a ≡ None → node_at nodes b ≡ None → a ≡ b
      constants small_a small_b none_a none_b =
          let values : Values = λ _. false in
          let tests_equal : eqb a 1 ≡ eqb b 1 = sym (function_without_node nodes a values none_a) ∙ same values ∙ function_without_node nodes b values none_b in
          grind (arith, nat_tests)

      both : (k : Node) → node_at nodes a ≡ Some k → (l : Node) → node_at nodes b ≡ Some l → a ≡ b
      both k at_a l at_b = ⊎_elim
          (λ (e : k.var ≡ l.var). one_node bound unique a b k l at_a at_b in_a in_b same e)
          (⊎_elim
          (λ (less : k.var < l.var). absurd (apart bound unique a k at_a in_a b (below_from k.var b l at_b less) same))
          (λ (more : l.var < k.var). absurd (apart bound unique b l at_b in_b a (below_from l.var a k at_a more) (λ values. sym (same values)))))
          (cases_order k.var l.var)

  unique_below : (bound : ℕ) → UniqueBelow bound
  unique_below zero = λ (a b : ℕ) (in_a : a < 0) (in_b : b < 0) (number_a : IsNumber nodes a) (number_b : IsNumber nodes b) (same : SameFunction a b). absurd (omega arith)
  unique_below (suc bound) = unique_step bound (unique_below bound)

  -- equal functions, equal numbers
  pub canonical : (a b : ℕ) → IsNumber nodes a → IsNumber nodes b → SameFunction a b → a ≡ b
  canonical a b number_a number_b same = unique_below (length nodes + 2) a b number_a number_b number_a number_b same
