-- The marked nodes of a reduced list, under new numbers, are a reduced list with the same functions.
use Rattle.std.proofs.Common.{◌≡◌, ◌≢◌, ℕ, zero, suc, ◌+◌, ◌-◌, ◌<◌, ◌≤◌, Bool, true, false, cond, ltb, List, [], ◌∷◌, ◌++◌, length, map, get_or, slice_get, Some, None, refl, sym, ap, subst, ◌∙◌, ◌⊎◌, ⊎_elim, arith}
use Rattle.std.proofs.lemmas.Bool.{cases_lt, cases_order, lt-ltb, le-ltb, cond-true, cond-false}
use Rattle.std.proofs.lemmas.List.{length-map}
use Rattle.std.proofs.lemmas.Option.{none-some, same_Some, slice_get_cases}
use Rattle.std.proofs.lemmas.List.Elements.{All-map}
use Rattle.std.specs.List.{All, Any}
use Rattle.dd_nodes.specs.declared.node.Node.{Node}
use Rattle.dd_nodes.specs.declared.node.Ref.{Ref}
use Rattle.dd_nodes.specs.NodeList.{Values, IsNumber, node_at, next_from, next, function, StandsBelow, IsReduced}
use Rattle.dd_nodes.specs.Reached.{descend, IsReached}
use Rattle.dd_nodes.specs.Table.{IsNodeTable}
use Rattle.dd_nodes.specs.Collecting.{HasMark, IsCaused, AreMarks, AreInOrder, IsCollection, marked_below, renumbered, new_root, new_node, Keeps, Collected}
use Rattle.dd_nodes.specs.Collecting.IsCaused.{as_root, as_lo, as_hi}
use Rattle.dd_nodes.proofs.NodeLemmas.{same_ref, same_node, node_at_constant, node_at_inner, node_place, number_cases, function_node, function_without_node}
use Rattle.dd_nodes.proofs.NodeCount.{any_map}

-- counting marks
module _ (marks : List ℕ) where
  pub below_marked : (k : ℕ) → 0 < get_or marks k 0 → marked_below marks (suc k) ≡ suc (marked_below marks k)
  unfolding marked_below
  below_marked k some = cond-true (ltb 0 (get_or marks k 0)) (suc (marked_below marks k)) (marked_below marks k) (lt-ltb 0 (get_or marks k 0) some)

  pub below_unmarked : (k : ℕ) → get_or marks k 0 ≡ 0 → marked_below marks (suc k) ≡ marked_below marks k
  unfolding marked_below
  below_unmarked k none = cond-false (ltb 0 (get_or marks k 0)) (suc (marked_below marks k)) (marked_below marks k) (le-ltb 0 (get_or marks k 0) (omega arith))

  -- one place more
  below_step : (k : ℕ) → (marked_below marks k ≤ marked_below marks (suc k)) × (marked_below marks (suc k) ≤ suc (marked_below marks k))
  below_step k = ⊎_elim
      (λ (some : 0 < get_or marks k 0). let e : marked_below marks (suc k) ≡ suc (marked_below marks k) = below_marked k some in (omega arith, omega arith))
      (λ (none : get_or marks k 0 ≤ 0). let e : marked_below marks (suc k) ≡ marked_below marks k = below_unmarked k (omega arith) in (omega arith, omega arith))
      (cases_lt 0 (get_or marks k 0))

  pub below_within : (k : ℕ) → marked_below marks k ≤ k
  unfolding marked_below
  below_within zero = omega arith
  below_within (suc k) =
      let step = below_step k in
      let most : marked_below marks (suc k) ≤ suc (marked_below marks k) = step.1 in
      let rest : marked_below marks k ≤ k = below_within k in
      omega arith

  pub below_more : (i k : ℕ) → i ≤ k → marked_below marks i ≤ marked_below marks k
  below_more i zero most = let e : i ≡ 0 = omega arith in subst (λ j. marked_below marks j ≤ marked_below marks 0) (sym e) (omega arith)
  below_more i (suc k) most = ⊎_elim
      (λ (h : i < suc k).
      let rest : marked_below marks i ≤ marked_below marks k = below_more i k (omega arith) in
      let least : marked_below marks k ≤ marked_below marks (suc k) = (below_step k).0 in
      omega arith)
      (λ (h : suc k ≤ i). let e : i ≡ suc k = omega arith in subst (λ j. marked_below marks j ≤ marked_below marks (suc k)) (sym e) (omega arith))
      (cases_lt i (suc k))

  pub below_rises : (i k : ℕ) → 0 < get_or marks i 0 → i < k → marked_below marks i < marked_below marks k
  below_rises i k some less =
      let here : marked_below marks (suc i) ≡ suc (marked_below marks i) = below_marked i some in
      let more : marked_below marks (suc i) ≤ marked_below marks k = below_more (suc i) k (omega arith) in
      omega arith

  -- each smaller number is that of a marked place
  pub below_onto : (p k : ℕ) → p < marked_below marks k → (i : ℕ) × (i < k) × (0 < get_or marks i 0) × (marked_below marks i ≡ p)
  unfolding marked_below
  below_onto p zero less = absurd (omega arith)
  below_onto p (suc k) less = ⊎_elim
      (λ (h : p < marked_below marks k). let found = below_onto p k h in let within : found.0 < k = found.1 in (found.0, omega arith, found.2, found.3))
      (λ (h : marked_below marks k ≤ p). ⊎_elim
      (λ (some : 0 < get_or marks k 0).
      let e : marked_below marks (suc k) ≡ suc (marked_below marks k) = below_marked k some in
      (k, omega arith, some, omega arith))
      (λ (none : get_or marks k 0 ≤ 0).
      let e : marked_below marks (suc k) ≡ marked_below marks k = below_unmarked k (omega arith) in
      absurd (omega arith))
      (cases_lt 0 (get_or marks k 0)))
      (cases_lt p (marked_below marks k))

  -- new numbers
  pub number_small : (n : ℕ) → n < 2 → renumbered marks n ≡ n
  number_small n small = cond-true (ltb n 2) n (marked_below marks (n - 2) + 2) (lt-ltb n 2 small)

  pub number_large : (n : ℕ) → 2 ≤ n → renumbered marks n ≡ marked_below marks (n - 2) + 2
  number_large n large = cond-false (ltb n 2) n (marked_below marks (n - 2) + 2) (le-ltb n 2 large)

  number_rises : (m n : ℕ) → HasMark marks m → m < n → renumbered marks m < renumbered marks n
  number_rises m n has less = ⊎_elim
      (λ (small_m : m < 2).
      let e : renumbered marks m ≡ m = number_small m small_m in
      ⊎_elim
      (λ (small_n : n < 2). let f : renumbered marks n ≡ n = number_small n small_n in omega arith)
      (λ (large_n : 2 ≤ n). let f : renumbered marks n ≡ marked_below marks (n - 2) + 2 = number_large n large_n in omega arith)
      (cases_lt n 2))
      (λ (large_m : 2 ≤ m).
      let e : renumbered marks m ≡ marked_below marks (m - 2) + 2 = number_large m large_m in
      let f : renumbered marks n ≡ marked_below marks (n - 2) + 2 = number_large n (omega arith) in
      let rises : marked_below marks (m - 2) < marked_below marks (n - 2) = below_rises (m - 2) (n - 2) (has large_m) (omega arith) in
      omega arith)
      (cases_lt m 2)

  number_one : (m n : ℕ) → HasMark marks m → HasMark marks n → renumbered marks m ≡ renumbered marks n → m ≡ n
  number_one m n has_m has_n same = ⊎_elim
      (λ (e : m ≡ n). e)
      (λ (h : (m < n) ⊎ (n < m)). ⊎_elim
      (λ (less : m < n). let rises : renumbered marks m < renumbered marks n = number_rises m n has_m less in absurd (omega arith))
      (λ (less : n < m). let rises : renumbered marks n < renumbered marks m = number_rises n m has_n less in absurd (omega arith))
      h)
      (cases_order m n)

-- choices in turn
descend_more : (nodes : List Node) (choices : List Bool) (choice : Bool) (n : ℕ) → descend nodes (choices ++ choice ∷ []) n ≡ next nodes (λ _. choice) (descend nodes choices n)
unfolding descend
descend_more nodes [] choice n = refl
descend_more nodes (first ∷ choices) choice n = descend_more nodes choices choice (next nodes (λ _. first) n)

descend_none : (nodes : List Node) (n : ℕ) → descend nodes [] n ≡ n
unfolding descend
descend_none nodes n = refl

reached_child : (nodes : List Node) (from m : ℕ) (node : Node) (choice : Bool) → node_at nodes m ≡ Some node → IsReached nodes from m → IsReached nodes from (cond choice node.hi.0 node.lo.0)
reached_child nodes from m node choice there reached = record {
  choices = reached.choices ++ choice ∷ [];
  leads = descend_more nodes reached.choices choice from ∙ ap (next nodes (λ _. choice)) reached.leads ∙ ap (next_from (λ _. choice) m) there;
}

-- a node of the new list, with the node of the old one that it was
record Was (marks : List ℕ) (before : List Node) (m : ℕ) (k : Node) : Type 0 where
  n : ℕ
  node : Node
  has : HasMark marks n
  there : node_at before n ≡ Some node
  number : renumbered marks n ≡ m
  is : k ≡ new_node marks node

module _ (vars : ℕ) (before : List Node) (reduced : IsReduced vars before) (roots : List Ref) (numbers : All (λ (r : Ref). IsNumber before r.0) roots)
    (marks : List ℕ) (are : AreMarks before roots marks 0) (after : List Node) (keeps : Keeps marks before after) where
  -- where a marked node is now
  node_now : (n : ℕ) (node : Node) → HasMark marks n → node_at before n ≡ Some node → node_at after (renumbered marks n) ≡ Some (new_node marks node)
  node_now n node has there =
      let place = node_place before n node there in
      let large : 2 ≤ n = place.0 in
      ap (node_at after) (number_large marks n large) ∙ node_at_inner after (marked_below marks (n - 2)) ∙ keeps.nodes (n - 2) node (has large) place.2

  -- and what a node was
  was : (m : ℕ) (k : Node) → node_at after m ≡ Some k → Was marks before m k
  was m k there =
      let place = node_place after m k there in
      let large : 2 ≤ m = place.0 in
      let short : m < length after + 2 = place.1 in
      let count : length after ≡ marked_below marks (length before) = keeps.count in
      let found = below_onto marks (m - 2) (length before) (omega arith) in
      let within : found.0 < length before = found.1 in
      ⊎_elim
      (λ (h : (x : Node) × (found.0 < length before) × (slice_get before found.0 ≡ Some x) × (get_or before found.0 x ≡ x)).
      let new : slice_get after (marked_below marks found.0) ≡ Some (new_node marks h.0) = keeps.nodes found.0 h.0 found.2 h.2 in
      let at : found.0 + 2 - 2 ≡ found.0 = omega arith in
      record {
        n = found.0 + 2;
        node = h.0;
        has = λ _. subst (λ i. 0 < get_or marks i 0) (sym at) found.2;
        there = node_at_inner before found.0 ∙ h.2;
        number = number_large marks (found.0 + 2) (omega arith) ∙ ap (λ i. marked_below marks i + 2) at ∙ (let e : marked_below marks found.0 ≡ m - 2 = found.3 in omega arith);
        is = same_Some k (new_node marks h.0) (sym place.2 ∙ ap (slice_get after) (sym found.3) ∙ new);
      })
      (λ (h : (length before ≤ found.0) × (slice_get before found.0 ≡ None)). let past : length before ≤ found.0 = h.0 in absurd (omega arith))
      (slice_get_cases before found.0).1

  -- the children of a marked node are marked
  lo_has : (n : ℕ) (node : Node) → HasMark marks n → node_at before n ≡ Some node → HasMark marks node.lo.0
  lo_has n node has there = let place = node_place before n node there in are.los_have (n - 2) node (omega arith) (has place.0) place.2

  hi_has : (n : ℕ) (node : Node) → HasMark marks n → node_at before n ≡ Some node → HasMark marks node.hi.0
  hi_has n node has there = let place = node_place before n node there in are.his_have (n - 2) node (omega arith) (has place.0) place.2

  -- a number stands below the same variables
  below_now : (v n : ℕ) → IsNumber before n → HasMark marks n → StandsBelow before v n → StandsBelow after v (renumbered marks n)
  below_now v n number has below k there = ⊎_elim
      (λ (h : (n < 2) × (node_at before n ≡ None)). absurd (none-some k (sym (node_at_constant after n h.0) ∙ ap (node_at after) (sym (number_small marks n h.0)) ∙ there)))
      (λ (h : (node : Node) × (node_at before n ≡ Some node)).
      let deep : v < h.0.var = below h.0 h.1 in
      let same : new_node marks h.0 ≡ k = same_Some (new_node marks h.0) k (sym (node_now n h.0 has h.1) ∙ there) in
      subst (λ x. v < x.var) same deep)
      (number_cases before n number)

  pub kept_reduced : IsReduced vars after
  kept_reduced = record {
    in_range = λ m k there. let w = was m k there in subst (λ x. x.var < vars) (sym w.is) (reduced.in_range w.n w.node w.there);
    tests = λ m k there. let w = was m k there in subst (λ x. x.lo ≢ x.hi) (sym w.is) (λ e. tests m k w e);
    distinct = λ m n k at_m at_n. one m n k (was m k at_m) (was n k at_n);
    lo_before = λ m k there. let w = was m k there in lo_lower m k w;
    hi_before = λ m k there. let w = was m k there in hi_lower m k w;
    lo_below = λ m k there. let w = was m k there in
        let lower : w.node.lo.0 < w.n = reduced.lo_before w.n w.node w.there in
        let place = node_place before w.n w.node w.there in
        let within : w.n < length before + 2 = place.1 in
        subst (λ x. StandsBelow after x.var x.lo.0) (sym w.is) (below_now w.node.var w.node.lo.0 (omega arith) (lo_has w.n w.node w.has w.there) (reduced.lo_below w.n w.node w.there));
    hi_below = λ m k there. let w = was m k there in
        let lower : w.node.hi.0 < w.n = reduced.hi_before w.n w.node w.there in
        let place = node_place before w.n w.node w.there in
        let within : w.n < length before + 2 = place.1 in
        subst (λ x. StandsBelow after x.var x.hi.0) (sym w.is) (below_now w.node.var w.node.hi.0 (omega arith) (hi_has w.n w.node w.has w.there) (reduced.hi_below w.n w.node w.there));
  }
    where
      tests : (m : ℕ) (k : Node) (w : Was marks before m k) → new_root marks w.node.lo ≡ new_root marks w.node.hi → ⊥
      tests m k w e = reduced.tests w.n w.node w.there
          (same_ref w.node.lo w.node.hi (number_one marks w.node.lo.0 w.node.hi.0 (lo_has w.n w.node w.has w.there) (hi_has w.n w.node w.has w.there) (ap (λ (r : Ref). r.0) e)))

      one : (m n : ℕ) (k : Node) → Was marks before m k → Was marks before n k → m ≡ n
      one m n k v w =
          let e : new_node marks v.node ≡ new_node marks w.node = sym v.is ∙ w.is in
          let same : v.node ≡ w.node = same_node v.node w.node (ap (λ (x : Node). x.var) e)
          (number_one marks v.node.lo.0 w.node.lo.0 (lo_has v.n v.node v.has v.there) (lo_has w.n w.node w.has w.there) (ap (λ (x : Node). x.lo.0) e))
          (number_one marks v.node.hi.0 w.node.hi.0 (hi_has v.n v.node v.has v.there) (hi_has w.n w.node w.has w.there) (ap (λ (x : Node). x.hi.0) e)) in
          sym v.number ∙ ap (renumbered marks) (reduced.distinct v.n w.n v.node v.there (w.there ∙ ap Some (sym same))) ∙ w.number

      lo_lower : (m : ℕ) (k : Node) → Was marks before m k → k.lo.0 < m
      lo_lower m k w =
          let rises : renumbered marks w.node.lo.0 < renumbered marks w.n = number_rises marks w.node.lo.0 w.n (lo_has w.n w.node w.has w.there) (reduced.lo_before w.n w.node w.there) in
          let number : renumbered marks w.n ≡ m = w.number in
          subst (λ x. x.lo.0 < m) (sym w.is) (omega arith)

      hi_lower : (m : ℕ) (k : Node) → Was marks before m k → k.hi.0 < m
      hi_lower m k w =
          let rises : renumbered marks w.node.hi.0 < renumbered marks w.n = number_rises marks w.node.hi.0 w.n (hi_has w.n w.node w.has w.there) (reduced.hi_before w.n w.node w.there) in
          let number : renumbered marks w.n ≡ m = w.number in
          subst (λ x. x.hi.0 < m) (sym w.is) (omega arith)

  -- the new number is one
  pub kept_number : (n : ℕ) → IsNumber before n → HasMark marks n → IsNumber after (renumbered marks n)
  kept_number n number has = ⊎_elim
      (λ (h : (n < 2) × (node_at before n ≡ None)). let e : renumbered marks n ≡ n = number_small marks n h.0 in let small : n < 2 = h.0 in omega arith)
      (λ (h : (node : Node) × (node_at before n ≡ Some node)). (node_place after (renumbered marks n) (new_node marks h.0) (node_now n h.0 has h.1)).1)
      (number_cases before n number)

  -- a marked number keeps its function
  kept_value : (values : Values) (bound n : ℕ) → n < bound → IsNumber before n → HasMark marks n → function after (renumbered marks n) values ≡ function before n values
  kept_value values zero n below number has = absurd (omega arith)
  kept_value values (suc bound) n below number has = ⊎_elim
      (λ (h : (n < 2) × (node_at before n ≡ None)).
      ap (λ m. function after m values) (number_small marks n h.0)
      ∙ function_without_node after n values (node_at_constant after n h.0) ∙ sym (function_without_node before n values h.1))
      (λ (h : (node : Node) × (node_at before n ≡ Some node)).
      let node : Node = h.0 in
      let there : node_at before n ≡ Some node = h.1 in
      let lo_lower : node.lo.0 < n = reduced.lo_before n node there in
      let hi_lower : node.hi.0 < n = reduced.hi_before n node there in
      let lo : function after (renumbered marks node.lo.0) values ≡ function before node.lo.0 values = kept_value values bound node.lo.0 (omega arith) (omega arith) (lo_has n node has there) in
      let hi : function after (renumbered marks node.hi.0) values ≡ function before node.hi.0 values = kept_value values bound node.hi.0 (omega arith) (omega arith) (hi_has n node has there) in
      function_node after vars kept_reduced (renumbered marks n) (new_node marks node) values (node_now n node has there)
      ∙ (λ i. cond (values node.var) (hi i) (lo i))
      ∙ sym (function_node before vars reduced n node values there))
      (number_cases before n number)

  pub kept_function : (n : ℕ) → IsNumber before n → HasMark marks n → function after (renumbered marks n) ≡ function before n
  kept_function n number has = λ i values. kept_value values (n + 1) n (omega arith) number has i

  -- each node of the new list is reached
  kept_reached_from : (bound m : ℕ) → length after + 2 < m + bound → 2 ≤ m → IsNumber after m → Any (λ (r : Ref). IsReached after r.0 m) (map (new_root marks) roots)
  kept_reached_from zero m left large number = absurd (omega arith)
  kept_reached_from (suc bound) m left large number = ⊎_elim
      (λ (h : (m < 2) × (node_at after m ≡ None)). let small : m < 2 = h.0 in absurd (omega arith))
      (λ (h : (k : Node) × (node_at after m ≡ Some k)).
      let w = was m h.0 h.1 in
      let place = node_place before w.n w.node w.there in
      let large_n : 2 ≤ w.n = place.0 in
      let back : w.n - 2 + 2 ≡ w.n = omega arith in
      by_cause (λ above higher in_list. kept_reached_from bound above (omega arith) (omega arith) in_list)
      (w.n - 2) (ap (renumbered marks) back ∙ w.number) (are.caused (w.n - 2) (w.has large_n)))
      (number_cases after m number)
    where
      by_parent : ((above : ℕ) → m < above → IsNumber after above → Any (λ (r : Ref). IsReached after r.0 above) (map (new_root marks) roots))
          → (i : ℕ) → renumbered marks (i + 2) ≡ m → (place : ℕ) (node : Node) → 0 < get_or marks place 0 → slice_get before place ≡ Some node → (choice : Bool) → cond choice node.hi.0 node.lo.0 ≡ i + 2
          → cond choice node.hi.0 node.lo.0 < place + 2 → HasMark marks (cond choice node.hi.0 node.lo.0) → cond choice (renumbered marks node.hi.0) (renumbered marks node.lo.0) ≡ renumbered marks (cond choice node.hi.0 node.lo.0)
          → Any (λ (r : Ref). IsReached after r.0 m) (map (new_root marks) roots)
      by_parent rest i is place node marked at choice child lower has_child shift =
          let there : node_at before (place + 2) ≡ Some node = node_at_inner before place ∙ at in
          let back : place + 2 - 2 ≡ place = omega arith in
          let has : HasMark marks (place + 2) = λ _. subst (λ j. 0 < get_or marks j 0) (sym back) marked in
          let now : node_at after (renumbered marks (place + 2)) ≡ Some (new_node marks node) = node_now (place + 2) node has there in
          let now_place = node_place after (renumbered marks (place + 2)) (new_node marks node) now in
          let rises : renumbered marks (cond choice node.hi.0 node.lo.0) < renumbered marks (place + 2) = number_rises marks (cond choice node.hi.0 node.lo.0) (place + 2) has_child lower in
          let here : renumbered marks (cond choice node.hi.0 node.lo.0) ≡ m = ap (renumbered marks) child ∙ is in
          let reached = rest (renumbered marks (place + 2)) (omega arith) now_place.1 in
          (reached.0, reached.1, reached.2, reached.3, subst (IsReached after reached.1.0) (shift ∙ here) (reached_child after reached.1.0 (renumbered marks (place + 2)) (new_node marks node) choice now reached.4))

      by_cause : ((above : ℕ) → m < above → IsNumber after above → Any (λ (r : Ref). IsReached after r.0 above) (map (new_root marks) roots))
          → (i : ℕ) → renumbered marks (i + 2) ≡ m → IsCaused before roots marks i → Any (λ (r : Ref). IsReached after r.0 m) (map (new_root marks) roots)
      by_cause rest i is (as_root some) = any_map (λ (r : Ref). r.0 ≡ i + 2) (λ (r : Ref). IsReached after r.0 m) (new_root marks)
          (λ r e. record { choices = []; leads = descend_none after (renumbered marks r.0) ∙ ap (renumbered marks) e ∙ is }) roots some
      by_cause rest i is (as_lo place node marked at child) =
          let there : node_at before (place + 2) ≡ Some node = node_at_inner before place ∙ at in
          by_parent rest i is place node marked at false child (reduced.lo_before (place + 2) node there) (are.los_have place node (omega arith) marked at) refl
      by_cause rest i is (as_hi place node marked at child) =
          let there : node_at before (place + 2) ≡ Some node = node_at_inner before place ∙ at in
          by_parent rest i is place node marked at true child (reduced.hi_before (place + 2) node there) (are.his_have place node (omega arith) marked at) refl

  pub kept_reached : (m : ℕ) → 2 ≤ m → IsNumber after m → Any (λ (r : Ref). IsReached after r.0 m) (map (new_root marks) roots)
  kept_reached m large number = kept_reached_from (length after + 3) m (omega arith) large number

  pub kept_collected : Collected before after roots (map (new_root marks) roots)
  kept_collected = record {
    count = length-map roots (new_root marks);
    numbers = All-map (λ (r : Ref). IsNumber after r.0) (new_root marks) roots
        (λ k d within. kept_number (get_or roots k d).0 (numbers k d within) (are.roots_have k d within));
    functions = same_functions roots numbers are.roots_have;
    reached = kept_reached;
  }
    where
      same_functions : (list : List Ref) → All (λ (r : Ref). IsNumber before r.0) list → All (λ (r : Ref). HasMark marks r.0) list
          → map (λ (r : Ref). function after r.0) (map (new_root marks) list) ≡ map (λ (r : Ref). function before r.0) list
      same_functions [] in_list have = refl
      same_functions (r ∷ list) in_list have =
          let here : function after (renumbered marks r.0) ≡ function before r.0 = kept_function r.0 (in_list 0 r (omega arith)) (have 0 r (omega arith)) in
          λ i. here i ∷ same_functions list (λ k d within. in_list (suc k) d (omega arith)) (λ k d within. have (suc k) d (omega arith)) i

-- a reduced list is in order
pub in_order : (vars : ℕ) (nodes : List Node) → IsReduced vars nodes → AreInOrder nodes
in_order vars nodes reduced = record {
  lo_before = λ i node at. reduced.lo_before (i + 2) node (node_at_inner nodes i ∙ at);
  hi_before = λ i node at. reduced.hi_before (i + 2) node (node_at_inner nodes i ∙ at);
}

-- what a collection leaves is a table
pub collection_table : (vars limit : ℕ) (before after : List Node) (old new : List Ref) → IsNodeTable (record { vars = vars; limit = limit; nodes = before })
    → All (λ (r : Ref). IsNumber before r.0) old → IsCollection before after old new → IsNodeTable (record { vars = vars; limit = limit; nodes = after })
collection_table vars limit before after old new table numbers collection =
    let count : length after ≡ marked_below collection.marks (length before) = collection.kept.count in
    let fewer : marked_below collection.marks (length before) ≤ length before = below_within collection.marks (length before) in
    let within : length before ≤ limit = table.within_limit in
    record {
      few_vars = table.few_vars;
      some_room = table.some_room;
      small_limit = table.small_limit;
      within_limit = omega arith;
      reduced = kept_reduced vars before table.reduced old numbers collection.marks collection.needed after collection.kept;
    }

-- and the roots have their functions
pub collection_collected : (vars : ℕ) (before after : List Node) (old new : List Ref) → IsReduced vars before
    → All (λ (r : Ref). IsNumber before r.0) old → IsCollection before after old new → Collected before after old new
collection_collected vars before after old new reduced numbers collection =
    subst (Collected before after old) (sym collection.roots)
    (kept_collected vars before reduced old numbers collection.marks collection.needed after collection.kept)
