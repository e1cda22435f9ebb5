-- Numbers, nodes and functions of a node list.
use Rattle.std.proofs.Common.{◌≡◌, ℕ, zero, suc, ◌+◌, ◌-◌, ◌<◌, ◌≤◌, Bool, true, false, cond, eqb, ltb, List, length, Option, Some, None, slice_get, refl, sym, ap, subst, ◌∙◌, inl, inr, ◌⊎◌, ⊎_elim, arith, if◌then◌else◌}
use Rattle.std.proofs.lemmas.Bool.{cases_lt, cond-true, cond-false, lt-ltb, le-ltb, cond_both}
use Rattle.std.proofs.lemmas.Option.{slice_get_within, slice_get_cases, none-some}
use Rattle.dd_nodes.specs.declared.node.Node.{Node}
use Rattle.dd_nodes.specs.declared.node.Ref.{Ref}
use Rattle.dd_nodes.specs.NodeList.{Values, IsNumber, node_at, next_from, next, walk, function, StandsBelow, StandsFrom, IsReduced}

-- two references with one number are equal
pub same_ref : (a b : Ref) → a.0 ≡ b.0 → a ≡ b
same_ref a b e = λ i. record { 0 = e i }

-- two nodes with equal parts are equal
pub same_node : (a b : Node) → a.var ≡ b.var → a.lo.0 ≡ b.lo.0 → a.hi.0 ≡ b.hi.0 → a ≡ b
same_node a b v l h = λ i. record { var = v i; lo = same_ref a.lo b.lo l i; hi = same_ref a.hi b.hi h i }

-- an option is empty or full
pub cases_Option : {X : Type 0} (o : Option X) → (o ≡ None) ⊎ ((x : X) × (o ≡ Some x))
cases_Option None = inl refl
cases_Option (Some x) = inr (x, refl)

module _ (nodes : List Node) where
  -- the constants have no node
  pub node_at_constant : (n : ℕ) → n < 2 → node_at nodes n ≡ None
  node_at_constant n small = cond-true (ltb n 2) None (slice_get nodes (n - 2)) (lt-ltb n 2 small)

  -- from 2 on the nodes come in order
  pub node_at_from : (n : ℕ) → 2 ≤ n → node_at nodes n ≡ slice_get nodes (n - 2)
  node_at_from n large = cond-false (ltb n 2) None (slice_get nodes (n - 2)) (le-ltb n 2 large)

  pub node_at_inner : (i : ℕ) → node_at nodes (i + 2) ≡ slice_get nodes i
  node_at_inner i =
      let here : i + 2 - 2 ≡ i = omega arith in
      node_at_from (i + 2) (omega arith) ∙ ap (slice_get nodes) here

  -- where a number's node stands
  pub node_place : (n : ℕ) (node : Node) → node_at nodes n ≡ Some node → (2 ≤ n) × (n < length nodes + 2) × (slice_get nodes (n - 2) ≡ Some node)
  node_place n node there = ⊎_elim
      (λ (small : n < 2). absurd (none-some node (sym (node_at_constant n small) ∙ there)))
      (λ (large : 2 ≤ n).
      let at : slice_get nodes (n - 2) ≡ Some node = sym (node_at_from n large) ∙ there in
      let within : n - 2 < length nodes = slice_get_within nodes (n - 2) node at in
      (large, omega arith, at))
      (cases_lt n 2)

  -- a number is a constant or has a node
  pub number_cases : (n : ℕ) → IsNumber nodes n → ((n < 2) × (node_at nodes n ≡ None)) ⊎ ((node : Node) × (node_at nodes n ≡ Some node))
  number_cases n within = ⊎_elim
      (λ (small : n < 2). inl (small, node_at_constant n small))
      (λ (large : 2 ≤ n). ⊎_elim
      (λ (h : (x : Node) × (n - 2 < length nodes) × (slice_get nodes (n - 2) ≡ Some x) × _). inr (h.0, node_at_from n large ∙ h.2))
      (λ (h : (length nodes ≤ n - 2) × (slice_get nodes (n - 2) ≡ None)).
      let past : length nodes ≤ n - 2 = h.0 in absurd (omega arith))
      (slice_get_cases nodes (n - 2)).1)
      (cases_lt n 2)

  -- a walk stays at a number without a node
  pub walk_stays : (values : Values) (steps n : ℕ) → node_at nodes n ≡ None → walk nodes values steps n ≡ n
  unfolding walk
  walk_stays values zero n none = refl
  walk_stays values (suc steps) n none = ap (walk nodes values steps) (ap (next_from values n) none) ∙ walk_stays values steps n none

  -- the constants' functions
  pub function_without_node : (n : ℕ) (values : Values) → node_at nodes n ≡ None → function nodes n values ≡ eqb n 1
  unfolding function
  function_without_node n values none = ap (λ m. eqb m 1) (walk_stays values n n none)

  pub function_false : (values : Values) → function nodes 0 values ≡ false
  function_false values = function_without_node 0 values (node_at_constant 0 (omega arith))

  pub function_true : (values : Values) → function nodes 1 values ≡ true
  function_true values = function_without_node 1 values (node_at_constant 1 (omega arith))

  module _ (vars : ℕ) (reduced : IsReduced vars nodes) where
    -- a step from a node lowers the number
    pub next_lower : (values : Values) (n : ℕ) (node : Node) → node_at nodes n ≡ Some node → next nodes values n < n
    next_lower values n node there = subst (λ o. next_from values n o < n) (sym there)
        (cond_both (values node.var) node.hi.0 node.lo.0 (λ m. m < n) (λ _. reduced.hi_before n node there) (λ _. reduced.lo_before n node there))

    -- as many steps as the number are enough
    pub walk_enough : (values : Values) (a b n : ℕ) → n ≤ a → n ≤ b → walk nodes values a n ≡ walk nodes values b n
    unfolding walk
    walk_enough values zero b n in_a in_b =
        let none : node_at nodes n ≡ None = node_at_constant n (omega arith) in
        let zero_steps : n ≡ walk nodes values b n = sym (walk_stays values b n none) in
        zero_steps
    walk_enough values (suc a) zero n in_a in_b =
        walk_stays values (suc a) n (node_at_constant n (omega arith))
    walk_enough values (suc a) (suc b) n in_a in_b = ⊎_elim
        (λ (none : node_at nodes n ≡ None). walk_stays values (suc a) n none ∙ sym (walk_stays values (suc b) n none))
        (λ (found : (node : Node) × (node_at nodes n ≡ Some node)).
        let lower : next nodes values n < n = next_lower values n found.0 found.1 in
        walk_enough values a b (next nodes values n) (omega arith) (omega arith))
        (cases_Option (node_at nodes n))

    -- a node's function is that of the child that its variable chooses
    pub function_next : (n : ℕ) (node : Node) (values : Values) → node_at nodes n ≡ Some node → function nodes n values ≡ function nodes (next nodes values n) values
    unfolding function walk
    function_next zero node values there = absurd (none-some node (sym (node_at_constant 0 (omega arith)) ∙ there))
    function_next (suc m) node values there =
        let lower : next nodes values (suc m) < suc m = next_lower values (suc m) node there in
        ap (λ k. eqb k 1) (walk_enough values m (next nodes values (suc m)) (next nodes values (suc m)) (omega arith) (omega arith))

    pub function_node : (n : ℕ) (node : Node) (values : Values) → node_at nodes n ≡ Some node
        → function nodes n values ≡ (if values node.var then function nodes node.hi.0 values else function nodes node.lo.0 values)
    function_node n node values there =
        function_next n node values there
        ∙ ap (λ o. function nodes (next_from values n o) values) there
        ∙ cond_out (values node.var)
      where
        cond_out : (b : Bool) → function nodes (cond b node.hi.0 node.lo.0) values ≡ cond b (function nodes node.hi.0 values) (function nodes node.lo.0 values)
        cond_out true = refl
        cond_out false = refl

    -- the function of a number from variable low on depends on no variable below low, and on none
    -- that is no variable
    pub function_blind : (bound n : ℕ) → n < bound → (low : ℕ) → StandsFrom nodes low n → (s t : Values) → ((u : ℕ) → low ≤ u → u < vars → s u ≡ t u) → function nodes n s ≡ function nodes n t
    function_blind zero n below low from s t agree = absurd (omega arith)
    function_blind (suc bound) n below low from s t agree = ⊎_elim
        (λ (none : node_at nodes n ≡ None). function_without_node n s none ∙ sym (function_without_node n t none))
        (λ (found : (node : Node) × (node_at nodes n ≡ Some node)).
        let node : Node = found.0 in
        let there : node_at nodes n ≡ Some node = found.1 in
        let low_var : low ≤ node.var = from node there in
        let var_in : node.var < vars = reduced.in_range n node there in
        let hi_lower : node.hi.0 < n = reduced.hi_before n node there in
        let lo_lower : node.lo.0 < n = reduced.lo_before n node there in
        let here : s node.var ≡ t node.var = agree node.var low_var var_in in
        let child = λ (m : ℕ) (lower : m < n) (deep : StandsBelow nodes node.var m).
        function_blind bound m (omega arith) low (λ (k : Node) (at : node_at nodes m ≡ Some k). let deeper : node.var < k.var = deep k at in omega arith) s t agree in
        let hi : function nodes node.hi.0 s ≡ function nodes node.hi.0 t = child node.hi.0 hi_lower (reduced.hi_below n node there) in
        let lo : function nodes node.lo.0 s ≡ function nodes node.lo.0 t = child node.lo.0 lo_lower (reduced.lo_below n node there) in
        function_node n node s there ∙ (λ i. cond (here i) (hi i) (lo i)) ∙ sym (function_node n node t there))
        (cases_Option (node_at nodes n))

    -- where the variable is true the function is that of hi, and where it is false that of lo
    pub function_hi : (n : ℕ) (node : Node) (values : Values) → node_at nodes n ≡ Some node → values node.var ≡ true → function nodes node.hi.0 values ≡ function nodes n values
    function_hi n node values there is_true =
        sym (function_node n node values there ∙ cond-true (values node.var) (function nodes node.hi.0 values) (function nodes node.lo.0 values) is_true)

    pub function_lo : (n : ℕ) (node : Node) (values : Values) → node_at nodes n ≡ Some node → values node.var ≡ false → function nodes node.lo.0 values ≡ function nodes n values
    function_lo n node values there is_false =
        sym (function_node n node values there ∙ cond-false (values node.var) (function nodes node.hi.0 values) (function nodes node.lo.0 values) is_false)
