-- Numbers that are reached, against subfunctions.
use Rattle.std.proofs.Common.{◌≡◌, ℕ, zero, suc, ◌+◌, ◌<◌, ◌≤◌, Bool, true, false, cond, List, [], ◌∷◌, length, Some, None, slice_index_or, refl, sym, ap, subst, ◌∙◌, ⊎_elim, arith}
use Rattle.std.proofs.lemmas.Bool.{cases_lt}
use Rattle.std.proofs.lemmas.Option.{same_Some}
use Rattle.dd_nodes.specs.declared.node.Node.{Node}
use Rattle.dd_nodes.specs.NodeList.{Values, IsNumber, node_at, next_from, next, function, StandsFrom, IsReduced}
use Rattle.dd_nodes.specs.Reached.{descend, IsReached}
use Rattle.dd_nodes.specs.Subfunctions.{Function, with_first, fixed, IsSubfunction}
use Rattle.dd_nodes.proofs.NodeLemmas.{cases_Option, next_lower, function_next, function_without_node}
use Rattle.dd_nodes.proofs.Dependence.{sub_self, sub_chain, sub_hi, sub_lo, depends_function}

-- fixed variables, at a place within the list and past it
pub within_at : (first : List Bool) (v : ℕ) (d e : Bool) → v < length first → slice_index_or first v d ≡ slice_index_or first v e
within_at [] v d e within = absurd (omega arith)
within_at (b ∷ first) zero d e within = refl
within_at (b ∷ first) (suc v) d e within = within_at first v d e (omega arith)

pub past_at : (first : List Bool) (v : ℕ) (d : Bool) → length first ≤ v → slice_index_or first v d ≡ d
past_at [] v d past = refl
past_at (b ∷ first) zero d past = absurd (omega arith)
past_at (b ∷ first) (suc v) d past = past_at first v d (omega arith)

module _ (vars : ℕ) (nodes : List Node) (reduced : IsReduced vars nodes) where
  -- a step from a number leads to a subfunction
  next_sub : (values : Values) (n : ℕ) → IsSubfunction vars (function nodes n) (function nodes (next nodes values n))
  next_sub values n = ⊎_elim
      (λ (none : node_at nodes n ≡ None). subst (λ o. IsSubfunction vars (function nodes n) (function nodes (next_from values n o))) (sym none) (sub_self vars (function nodes n)))
      (λ (found : (node : Node) × (node_at nodes n ≡ Some node)).
      subst (λ o. IsSubfunction vars (function nodes n) (function nodes (next_from values n o))) (sym found.1) (either found.0 found.1 (values found.0.var)))
      (cases_Option (node_at nodes n))
    where
      either : (node : Node) → node_at nodes n ≡ Some node → (b : Bool) → IsSubfunction vars (function nodes n) (function nodes (cond b node.hi.0 node.lo.0))
      either node there true = sub_hi vars nodes reduced n node there
      either node there false = sub_lo vars nodes reduced n node there

  descend_sub : (choices : List Bool) (n : ℕ) → IsSubfunction vars (function nodes n) (function nodes (descend nodes choices n))
  unfolding descend
  descend_sub [] n = sub_self vars (function nodes n)
  descend_sub (choice ∷ choices) n = sub_chain vars (function nodes n) (function nodes (next nodes (λ _. choice) n)) (function nodes (descend nodes choices (next nodes (λ _. choice) n)))
      (next_sub (λ _. choice) n) (descend_sub choices (next nodes (λ _. choice) n))

  pub reached_sub : (n m : ℕ) → IsReached nodes n m → IsSubfunction vars (function nodes n) (function nodes m)
  reached_sub n m reached = subst (λ k. IsSubfunction vars (function nodes n) (function nodes k)) reached.leads (descend_sub reached.choices n)

  own_from : (n : ℕ) (node : Node) → node_at nodes n ≡ Some node → StandsFrom nodes node.var n
  own_from n node there k at = subst (λ m. node.var ≤ m.var) (same_Some node k (sym there ∙ at)) (omega arith)

  -- a fixed variable is a choice
  first_step : (first : List Bool) (n : ℕ) (node : Node) → node_at nodes n ≡ Some node → node.var < length first → (values : Values)
      → function nodes n (with_first first values) ≡ function nodes (next nodes (λ _. slice_index_or first node.var false) n) (with_first first values)
  first_step first n node there within values =
      function_next nodes vars reduced n node (with_first first values) there
      ∙ ap (λ m. function nodes m (with_first first values)) (ap (next_from (with_first first values) n) there
      ∙ ap (λ b. cond b node.hi.0 node.lo.0) (within_at first node.var (values node.var) false within)
      ∙ sym (ap (next_from (λ _. slice_index_or first node.var false) n) there))

  -- with its first variables fixed a number's function is that of a number that is reached
  FirstReached : List Bool → ℕ → Type 0
  FirstReached first n = (choices : List Bool) × (fixed first (function nodes n) ≡ function nodes (descend nodes choices n))

  first_node : (first : List Bool) (n : ℕ) (node : Node) → node_at nodes n ≡ Some node → ((m : ℕ) → m < n → FirstReached first m) → FirstReached first n
  unfolding descend FirstReached
  first_node first n node there lower_reached = ⊎_elim
      (λ (within : node.var < length first).
      let choice : Bool = slice_index_or first node.var false in
      let rest = lower_reached (next nodes (λ _. choice) n) (next_lower nodes vars reduced (λ _. choice) n node there) in
      (choice ∷ rest.0, (λ i values. first_step first n node there within values i) ∙ rest.1))
      (λ (past : length first ≤ node.var). (
        [],
        λ i values. depends_function vars nodes reduced node.var n (own_from n node there) (with_first first values) values
            (λ u above _. past_at first u (values u) (omega arith)) i,
      ))
      (cases_lt node.var (length first))

  first_reached : (first : List Bool) (bound n : ℕ) → n < bound → FirstReached first n
  unfolding descend FirstReached
  first_reached first zero n below = absurd (omega arith)
  first_reached first (suc bound) n below = ⊎_elim
      (λ (none : node_at nodes n ≡ None). ([], λ i values. (function_without_node nodes n (with_first first values) none ∙ sym (function_without_node nodes n values none)) i))
      (λ (found : (node : Node) × (node_at nodes n ≡ Some node)). first_node first n found.0 found.1 (λ m lower. first_reached first bound m (omega arith)))
      (cases_Option (node_at nodes n))

  pub sub_reached : (n : ℕ) (g : Function) → IsSubfunction vars (function nodes n) g → (m : ℕ) × IsReached nodes n m × (function nodes m ≡ g)
  unfolding FirstReached
  sub_reached n g sub =
      let found = first_reached sub.first (n + 1) n (omega arith) in
      (descend nodes found.0 n, record { choices = found.0; leads = refl }, sym found.1 ∙ (λ i values. sym (sub.fixes values) i))

  -- a number that is reached is in the list
  next_number : (values : Values) (n : ℕ) → IsNumber nodes n → IsNumber nodes (next nodes values n)
  next_number values n number = ⊎_elim
      (λ (none : node_at nodes n ≡ None). subst (λ o. IsNumber nodes (next_from values n o)) (sym none) number)
      (λ (found : (node : Node) × (node_at nodes n ≡ Some node)).
      let lower : next nodes values n < n = next_lower nodes vars reduced values n found.0 found.1 in omega arith)
      (cases_Option (node_at nodes n))

  descend_number : (choices : List Bool) (n : ℕ) → IsNumber nodes n → IsNumber nodes (descend nodes choices n)
  unfolding descend
  descend_number [] n number = number
  descend_number (choice ∷ choices) n number = descend_number choices (next nodes (λ _. choice) n) (next_number (λ _. choice) n number)

  pub reached_number : (n m : ℕ) → IsReached nodes n m → IsNumber nodes n → IsNumber nodes m
  reached_number n m reached number = subst (λ k. IsNumber nodes k) reached.leads (descend_number reached.choices n number)
