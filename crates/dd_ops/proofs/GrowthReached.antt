-- Numbers that are reached, against variables.
use Rattle.std.proofs.Common.{◌≡◌, ◌≢◌, ℕ, zero, suc, ◌+◌, ◌<◌, Bool, true, false, cond, eqb, List, [], ◌∷◌, Some, None, refl, sym, ap, subst, ◌∙◌, inl, inr, ◌⊎◌, ⊎_elim, arith, if◌then◌else◌}
use Rattle.std.proofs.lemmas.Bool.{cases_Bool, cases_eq, ne_eqb, cond-false, both_ways, not-true, not-false}
use Rattle.dd_nodes.specs.declared.node.Node.{Node}
use Rattle.dd_nodes.specs.NodeList.{Values, with_value, node_at, next_from, next, function, IsReduced}
use Rattle.dd_nodes.specs.Subfunctions.{with_first, agree}
use Rattle.dd_nodes.proofs.NodeLemmas.{cases_Option, function_node, function_without_node}
use Rattle.dd_ops.specs.Operations.{cofactor_of}
use Rattle.dd_nodes.specs.Reached.{descend, IsReached}
use Rattle.dd_ops.specs.Growth.{depends_on}
use Rattle.dd_nodes.proofs.Agreement.{agree_from, agree_same, agree_each}
use Rattle.dd_nodes.proofs.Reaching.{reached_sub}
use Rattle.dd_nodes.proofs.Dependence.{depends_number}
use Rattle.dd_ops.proofs.GrowthSubst.{sees_variable}

module _ (vars : ℕ) (nodes : List Node) (reduced : IsReduced vars nodes) where
  pub reached_sees : (n v : ℕ) → (m : ℕ) × (node : Node) × IsReached nodes n m × (node_at nodes m ≡ Some node) × (node.var ≡ v) → depends_on vars (function nodes n) v ≡ true
  reached_sees n v (m, node, reached, there, same) = subst (λ w. depends_on vars (function nodes n) w ≡ true) same
      (sees_variable vars nodes reduced (function nodes n) (depends_number vars nodes reduced n) m node there (reached_sub vars nodes reduced n m reached))

  -- a node is reached with the variable
  abbrev ReachesVariable : ℕ → ℕ → Type 0
  ReachesVariable n v = (m : ℕ) × (node : Node) × IsReached nodes n m × (node_at nodes m ≡ Some node) × (node.var ≡ v)

  reaches_here : (n v : ℕ) (node : Node) → node_at nodes n ≡ Some node → node.var ≡ v → ReachesVariable n v
  unfolding descend
  reaches_here n v node there same = (n, node, record { choices = []; leads = refl }, there, same)

  reaches_later : (n v : ℕ) (choice : Bool) → ReachesVariable (next nodes (λ _. choice) n) v → ReachesVariable n v
  unfolding descend
  reaches_later n v choice (m, node, reached, there, same) = (m, node, record { choices = choice ∷ reached.choices; leads = reached.leads }, there, same)

  -- a function with the same values at both values of v does not depend on it
  unseen_false : (n v : ℕ) → ((values : Values) → function nodes n (with_value values v true) ≡ function nodes n (with_value values v false)) → depends_on vars (function nodes n) v ≡ true → ⊥
  unseen_false n v same sees = both_ways (agree vars (cofactor_of (function nodes n) v true) (cofactor_of (function nodes n) v false))
      (not-true (agree vars (cofactor_of (function nodes n) v true) (cofactor_of (function nodes n) v false)) sees)
      (agree_same vars (cofactor_of (function nodes n) v true) (cofactor_of (function nodes n) v false) same)

  -- a function depends on what its node's children depend on, or on the node's variable
  sees_child : (n v : ℕ) (node : Node) → node_at nodes n ≡ Some node → node.var ≢ v → depends_on vars (function nodes n) v ≡ true
      → (depends_on vars (function nodes node.hi.0) v ≡ true) ⊎ (depends_on vars (function nodes node.lo.0) v ≡ true)
  sees_child n v node there differ sees = ⊎_elim
      inl
      (λ (hi_blind : depends_on vars (function nodes node.hi.0) v ≡ false). ⊎_elim
      inr
      (λ (lo_blind : depends_on vars (function nodes node.lo.0) v ≡ false). absurd (both_ways (agree vars (cofactor_of (function nodes n) v true) (cofactor_of (function nodes n) v false))
      (not-true (agree vars (cofactor_of (function nodes n) v true) (cofactor_of (function nodes n) v false)) sees)
      (agree_from vars (cofactor_of (function nodes n) v true) (cofactor_of (function nodes n) v false)
      (λ first long. at_first (with_first first (λ _. false))
      (agree_each vars (cofactor_of (function nodes node.hi.0) v true) (cofactor_of (function nodes node.hi.0) v false) (not-false (agree vars (cofactor_of (function nodes node.hi.0) v true) (cofactor_of (function nodes node.hi.0) v false)) hi_blind) first long)
      (agree_each vars (cofactor_of (function nodes node.lo.0) v true) (cofactor_of (function nodes node.lo.0) v false) (not-false (agree vars (cofactor_of (function nodes node.lo.0) v true) (cofactor_of (function nodes node.lo.0) v false)) lo_blind) first long)))))
      (cases_Bool (depends_on vars (function nodes node.lo.0) v)))
      (cases_Bool (depends_on vars (function nodes node.hi.0) v))
    where
      own : (values : Values) (b : Bool) → with_value values v b node.var ≡ values node.var
      own values b = cond-false (eqb node.var v) b (values node.var) (ne_eqb node.var v differ)

      at_value : (values : Values) (b : Bool) → function nodes n (with_value values v b) ≡ (if values node.var then function nodes node.hi.0 (with_value values v b) else function nodes node.lo.0 (with_value values v b))
      at_value values b = function_node nodes vars reduced n node (with_value values v b) there
          ∙ ap (λ c. cond c (function nodes node.hi.0 (with_value values v b)) (function nodes node.lo.0 (with_value values v b))) (own values b)

      at_first : (values : Values) → function nodes node.hi.0 (with_value values v true) ≡ function nodes node.hi.0 (with_value values v false)
          → function nodes node.lo.0 (with_value values v true) ≡ function nodes node.lo.0 (with_value values v false)
          → function nodes n (with_value values v true) ≡ function nodes n (with_value values v false)
      at_first values hi lo = at_value values true ∙ (λ i. cond (values node.var) (hi i) (lo i)) ∙ sym (at_value values false)

  sees_node : (n v : ℕ) (node : Node) → node_at nodes n ≡ Some node → depends_on vars (function nodes n) v ≡ true
      → ((m : ℕ) → m < n → depends_on vars (function nodes m) v ≡ true → ReachesVariable m v) → ReachesVariable n v
  sees_node n v node there sees lower_reached = ⊎_elim
      (λ (same : node.var ≡ v). reaches_here n v node there same)
      (λ (differ : node.var ≡ v → ⊥). ⊎_elim
      (λ (hi : depends_on vars (function nodes node.hi.0) v ≡ true).
      reaches_later n v true (subst (λ o. ReachesVariable (next_from (λ _. true) n o) v) (sym there) (lower_reached node.hi.0 (reduced.hi_before n node there) hi)))
      (λ (lo : depends_on vars (function nodes node.lo.0) v ≡ true).
      reaches_later n v false (subst (λ o. ReachesVariable (next_from (λ _. false) n o) v) (sym there) (lower_reached node.lo.0 (reduced.lo_before n node there) lo)))
      (sees_child n v node there differ sees))
      (cases_eq node.var v)

  sees_below : (bound n v : ℕ) → n < bound → depends_on vars (function nodes n) v ≡ true → ReachesVariable n v
  sees_below zero n v below sees = absurd (omega arith)
  sees_below (suc bound) n v below sees = ⊎_elim
      (λ (none : node_at nodes n ≡ None). absurd (unseen_false n v
      (λ values. function_without_node nodes n (with_value values v true) none ∙ sym (function_without_node nodes n (with_value values v false) none)) sees))
      (λ (found : (node : Node) × (node_at nodes n ≡ Some node)). sees_node n v found.0 found.1 sees (λ m lower sees_m. sees_below bound m v (omega arith) sees_m))
      (cases_Option (node_at nodes n))

  pub sees_reached : (n v : ℕ) → depends_on vars (function nodes n) v ≡ true → ReachesVariable n v
  sees_reached n v sees = sees_below (n + 1) n v (omega arith) sees
