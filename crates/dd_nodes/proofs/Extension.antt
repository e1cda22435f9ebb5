-- What stays when nodes are appended to a list.
use Rattle.std.proofs.Common.{◌≡◌, ◌≢◌, ℕ, zero, suc, ◌+◌, ◌-◌, ◌<◌, ◌≤◌, ◌==◌, List, [], ◌∷◌, ◌++◌, length, Some, None, slice_get, refl, sym, ap, subst, ◌∙◌, inl, inr, ◌⊎◌, ⊎_elim, arith, length-append}
use Rattle.std.proofs.lemmas.Option.{none-some, same_Some}
use Rattle.dd_nodes.specs.declared.node.Node.{Node}
use Rattle.dd_nodes.specs.NodeList.{Values, IsNumber, node_at, next_from, next, walk, function, StandsBelow, StandsFrom, IsReduced, Lacks}
use Rattle.dd_nodes.proofs.NodeLemmas.{cases_Option, node_at_constant, node_at_from, node_at_inner, node_place, number_cases, next_lower}

-- an element keeps its place when elements are appended
pub slice_get_append : {X : Type 0} (xs ys : List X) (i : ℕ) (x : X) → slice_get xs i ≡ Some x → slice_get (xs ++ ys) i ≡ Some x
slice_get_append [] ys i x at = absurd (none-some x at)
slice_get_append (y ∷ xs) ys zero x at = at
slice_get_append (y ∷ xs) ys (suc i) x at = slice_get_append xs ys i x at

-- an element of a list with one more is an old one or the new one
pub slice_get_push : {X : Type 0} (xs : List X) (y : X) (i : ℕ) (x : X) → slice_get (xs ++ y ∷ []) i ≡ Some x → (slice_get xs i ≡ Some x) ⊎ ((i ≡ length xs) × (x ≡ y))
slice_get_push [] y zero x at = inr (refl, sym (same_Some y x at))
slice_get_push [] y (suc i) x at = absurd (none-some x at)
slice_get_push (z ∷ xs) y zero x at = inl at
slice_get_push (z ∷ xs) y (suc i) x at = ⊎_elim
    inl
    (λ (h : (i ≡ length xs) × (x ≡ y)). inr (ap suc h.0, h.1))
    (slice_get_push xs y i x at)

-- the new element stands last
pub slice_get_last : {X : Type 0} (xs : List X) (y : X) → slice_get (xs ++ y ∷ []) (length xs) ≡ Some y
slice_get_last [] y = refl
slice_get_last (x ∷ xs) y = slice_get_last xs y

module _ (before more : List Node) where
  pub node_kept : (n : ℕ) (node : Node) → node_at before n ≡ Some node → node_at (before ++ more) n ≡ Some node
  node_kept n node there =
      let place = node_place before n node there in
      node_at_from (before ++ more) n place.0 ∙ slice_get_append before more (n - 2) node place.2

  pub number_kept : (n : ℕ) → IsNumber before n → IsNumber (before ++ more) n
  number_kept n number = omega (arith, length-append before more)

  -- a number of the list before has the node that it had, or none as before
  pub node_at_kept : (n : ℕ) → IsNumber before n → node_at (before ++ more) n ≡ node_at before n
  node_at_kept n number = ⊎_elim
      (λ (h : (n < 2) × (node_at before n ≡ None)). node_at_constant (before ++ more) n h.0 ∙ sym h.1)
      (λ (h : (node : Node) × (node_at before n ≡ Some node)). node_kept n h.0 h.1 ∙ sym h.1)
      (number_cases before n number)

  pub stands_from_kept : (v n : ℕ) → IsNumber before n → StandsFrom before v n → StandsFrom (before ++ more) v n
  stands_from_kept v n number from node there = from node (sym (node_at_kept n number) ∙ there)

  pub stands_below_kept : (v n : ℕ) → IsNumber before n → StandsBelow before v n → StandsBelow (before ++ more) v n
  stands_below_kept v n number below node there = below node (sym (node_at_kept n number) ∙ there)

  module _ (vars : ℕ) (reduced : IsReduced vars before) where
    -- a step from a number of the list before leads to such a number
    next_number : (values : Values) (n : ℕ) → IsNumber before n → IsNumber before (next before values n)
    next_number values n number = ⊎_elim
        (λ (none : node_at before n ≡ None). subst (λ o. IsNumber before (next_from values n o)) (sym none) number)
        (λ (found : (node : Node) × (node_at before n ≡ Some node)).
        let lower : next before values n < n = next_lower before vars reduced values n found.0 found.1 in omega arith)
        (cases_Option (node_at before n))

    walk_kept : (values : Values) (steps n : ℕ) → IsNumber before n → walk (before ++ more) values steps n ≡ walk before values steps n
    unfolding walk
    walk_kept values zero n number = refl
    walk_kept values (suc steps) n number =
        ap (λ o. walk (before ++ more) values steps (next_from values n o)) (node_at_kept n number)
        ∙ walk_kept values steps (next before values n) (next_number values n number)

    -- each number of the list before keeps its function
    pub function_kept : (n : ℕ) → IsNumber before n → (values : Values) → function (before ++ more) n values ≡ function before n values
    unfolding function
    function_kept n number values = ap (λ m. m == 1) (walk_kept values n n number)

-- the list with one more node
module _ (before : List Node) (node : Node) where
  pub node_pushed : node_at (before ++ node ∷ []) (length before + 2) ≡ Some node
  node_pushed = node_at_inner (before ++ node ∷ []) (length before) ∙ slice_get_last before node

  -- a node of the longer list is an old one or the new one
  pub push_cases : (n : ℕ) (k : Node) → node_at (before ++ node ∷ []) n ≡ Some k → (node_at before n ≡ Some k) ⊎ ((n ≡ length before + 2) × (k ≡ node))
  push_cases n k there =
      let place = node_place (before ++ node ∷ []) n k there in
      let large : 2 ≤ n = place.0 in
      ⊎_elim
      (λ (old : slice_get before (n - 2) ≡ Some k). inl (node_at_from before n large ∙ old))
      (λ (new : (n - 2 ≡ length before) × (k ≡ node)). let last : n - 2 ≡ length before = new.0 in inr (omega arith, new.1))
      (slice_get_push before node (n - 2) k place.2)

  -- what holds of each old node and of the new one holds of each node of the longer list
  push_each : (P : ℕ → Node → Type 0) → ((n : ℕ) (k : Node) → node_at before n ≡ Some k → P n k) → P (length before + 2) node
      → (n : ℕ) (k : Node) → node_at (before ++ node ∷ []) n ≡ Some k → P n k
  push_each P old new n k there = ⊎_elim
      (λ (at : node_at before n ≡ Some k). old n k at)
      (λ (last : (n ≡ length before + 2) × (k ≡ node)). subst (λ m. P m k) (sym last.0) (subst (λ l. P (length before + 2) l) (sym last.1) new))
      (push_cases n k there)

  -- a reduced list stays so with a node that it lacks, whose children differ, are in the list and
  -- stand below its variable
  pub reduced_push : (vars : ℕ) → IsReduced vars before → node.var < vars → node.lo ≢ node.hi → Lacks before node
      → IsNumber before node.lo.0 → IsNumber before node.hi.0 → StandsBelow before node.var node.lo.0 → StandsBelow before node.var node.hi.0
      → IsReduced vars (before ++ node ∷ [])
  reduced_push vars reduced in_range differ lacks lo hi lo_below hi_below = record {
    in_range = push_each (λ n k. k.var < vars) reduced.in_range in_range;
    tests = push_each (λ n k. k.lo ≢ k.hi) reduced.tests differ;
    distinct = λ m n k at_m at_n. distinct m n k (push_cases m k at_m) (push_cases n k at_n);
    lo_before = push_each (λ n k. k.lo.0 < n) reduced.lo_before lo;
    hi_before = push_each (λ n k. k.hi.0 < n) reduced.hi_before hi;
    lo_below = push_each (λ n k. StandsBelow (before ++ node ∷ []) k.var k.lo.0)
        (λ n k there. let place = node_place before n k there in let lower : k.lo.0 < n = reduced.lo_before n k there in let within : n < length before + 2 = place.1 in
        stands_below_kept before (node ∷ []) k.var k.lo.0 (omega arith) (reduced.lo_below n k there))
        (stands_below_kept before (node ∷ []) node.var node.lo.0 lo lo_below);
    hi_below = push_each (λ n k. StandsBelow (before ++ node ∷ []) k.var k.hi.0)
        (λ n k there. let place = node_place before n k there in let lower : k.hi.0 < n = reduced.hi_before n k there in let within : n < length before + 2 = place.1 in
        stands_below_kept before (node ∷ []) k.var k.hi.0 (omega arith) (reduced.hi_below n k there))
        (stands_below_kept before (node ∷ []) node.var node.hi.0 hi hi_below);
  }
    where
      distinct : (m n : ℕ) (k : Node) → (node_at before m ≡ Some k) ⊎ ((m ≡ length before + 2) × (k ≡ node)) → (node_at before n ≡ Some k) ⊎ ((n ≡ length before + 2) × (k ≡ node)) → m ≡ n
      distinct m n k (inl at_m) (inl at_n) = reduced.distinct m n k at_m at_n
      distinct m n k (inl at_m) (inr last_n) = absurd (lacks m (at_m ∙ ap Some last_n.1))
      distinct m n k (inr last_m) (inl at_n) = absurd (lacks n (at_n ∙ ap Some last_m.1))
      distinct m n k (inr last_m) (inr last_n) = last_m.0 ∙ sym last_n.0
