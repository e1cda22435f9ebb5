-- Subfunctions of subfunctions, and the functions from which a node's function is made.
use Rattle.std.proofs.Common.{◌≡◌, ℕ, zero, suc, ◌+◌, ◌<◌, ◌≤◌, Bool, true, false, List, [], ◌∷◌, ◌++◌, length, drop, replicate, slice_index_or, Some, refl, sym, ap, subst, ◌∙◌, ⊎_elim, arith, length-append, length-drop, append-nil}
use Rattle.std.proofs.lemmas.Bool.{cases_order, cond-true, cond-false}
use Rattle.std.proofs.lemmas.Option.{same_Some}
use Rattle.std.proofs.Math.ListN.{length-replicate}
use Rattle.dd_nodes.specs.declared.node.Node.{Node}
use Rattle.dd_nodes.specs.NodeList.{Values, with_value, node_at, function, StandsBelow, StandsFrom, IsReduced}
use Rattle.dd_nodes.specs.Subfunctions.{Function, with_first, DependsOnly, IsSubfunction}
use Rattle.dd_nodes.proofs.NodeLemmas.{function_node, function_blind}
use Rattle.dd_nodes.proofs.Canonicity.{with_value_same, with_value_above}

-- fixing the first variables by a, and before it by b, fixes them by a and what b has beyond
both_at : (a b : List Bool) (v : ℕ) (d : Bool) → slice_index_or a v (slice_index_or b v d) ≡ slice_index_or (a ++ drop (length a) b) v d
both_at [] b v d = refl
both_at (x ∷ a) [] zero d = refl
both_at (x ∷ a) [] (suc v) d = ap (λ l. slice_index_or l v d) (sym (append-nil a))
both_at (x ∷ a) (y ∷ b) zero d = refl
both_at (x ∷ a) (y ∷ b) (suc v) d = both_at a b v d

-- a value at place v, behind v others
place_at : (v : ℕ) (b d : Bool) → slice_index_or (replicate v false ++ b ∷ []) v d ≡ b
place_at zero b d = refl
place_at (suc v) b d = place_at v b d

place_past : (v u : ℕ) (b d : Bool) → v < u → slice_index_or (replicate v false ++ b ∷ []) u d ≡ d
place_past zero zero b d past = absurd (omega arith)
place_past zero (suc u) b d past = refl
place_past (suc v) zero b d past = absurd (omega arith)
place_past (suc v) (suc u) b d past = place_past v u b d (omega arith)

-- what a function depends on
pub depends_lower : (low' low vars : ℕ) (f : Function) → low' ≤ low → DependsOnly low vars f → DependsOnly low' vars f
depends_lower low' low vars f lower depends s t agree = depends s t (λ u above within. agree u (omega arith) within)

pub depends_subfunction : (low vars : ℕ) (f g : Function) → IsSubfunction vars f g → DependsOnly low vars f → DependsOnly low vars g
depends_subfunction low vars f g sub depends s t agree =
    sub.fixes s
    ∙ depends (with_first sub.first s) (with_first sub.first t) (λ u above within. ap (slice_index_or sub.first u) (agree u above within))
    ∙ sym (sub.fixes t)

module _ (vars : ℕ) where
  -- each function is its own subfunction
  pub sub_self : (f : Function) → IsSubfunction vars f f
  sub_self f = record { first = []; few = omega arith; fixes = λ values. refl }

  pub sub_same : (f g : Function) → ((values : Values) → g values ≡ f values) → IsSubfunction vars f g
  sub_same f g same = record { first = []; few = omega arith; fixes = same }

  -- a subfunction of a subfunction is a subfunction
  pub sub_chain : (f g h : Function) → IsSubfunction vars f g → IsSubfunction vars g h → IsSubfunction vars f h
  sub_chain f g h of_f of_g =
      let few_f : length of_f.first ≤ vars = of_f.few in
      let few_g : length of_g.first ≤ vars = of_g.few in
      record {
        first = of_f.first ++ drop (length of_f.first) of_g.first;
        few = omega (arith, length-append of_f.first (drop (length of_f.first) of_g.first), length-drop (length of_f.first) of_g.first);
        fixes = λ values.
            of_g.fixes values
            ∙ of_f.fixes (with_first of_g.first values)
            ∙ ap f (λ i v. both_at of_f.first of_g.first v (values v) i);
      }

  -- a function that depends on no variable below v becomes a subfunction where v is fixed
  pub sub_at : (v : ℕ) (b : Bool) (f g : Function) → v < vars → DependsOnly v vars f → ((values : Values) → g values ≡ f (with_value values v b)) → IsSubfunction vars f g
  sub_at v b f g within depends same = record {
    first = replicate v false ++ b ∷ [];
    few = omega (arith, length-append (replicate v false) (b ∷ []), length-replicate v false);
    fixes = λ values. same values ∙ depends (with_value values v b) (with_first (replicate v false ++ b ∷ []) values) (λ u above _. here values u above);
  }
    where
      here : (values : Values) (u : ℕ) → v ≤ u → with_value values v b u ≡ with_first (replicate v false ++ b ∷ []) values u
      here values u above = ⊎_elim
          (λ (e : u ≡ v). subst (λ w. with_value values v b w ≡ with_first (replicate v false ++ b ∷ []) values w) (sym e)
          (with_value_same values v b ∙ sym (place_at v b (values v))))
          (⊎_elim
          (λ (less : u < v). absurd (omega arith))
          (λ (more : v < u). with_value_above values v b u more ∙ sym (place_past v u b (values u) more)))
          (cases_order u v)

  module _ (nodes : List Node) (reduced : IsReduced vars nodes) where
    -- the function of a number depends on no variables but those from its node's on
    pub depends_function : (low n : ℕ) → StandsFrom nodes low n → DependsOnly low vars (function nodes n)
    depends_function low n from s t agree = function_blind nodes vars reduced (n + 1) n (omega arith) low from s t agree

    pub depends_number : (n : ℕ) → DependsOnly 0 vars (function nodes n)
    depends_number n = depends_function 0 n (λ node there. omega arith)

    -- a number below variable v in the diagram has the same function where v is fixed
    pub function_at_below : (v n : ℕ) (b : Bool) → StandsBelow nodes v n → (values : Values) → function nodes n values ≡ function nodes n (with_value values v b)
    function_at_below v n b below values = sym (function_blind nodes vars reduced (n + 1) n (omega arith) (v + 1)
        (λ (k : Node) (at : node_at nodes n ≡ Some k). let deeper : v < k.var = below k at in omega arith)
        (with_value values v b) values (λ u above _. with_value_above values v b u (omega arith)))

    -- the functions of a node's children are its function where its variable is fixed
    pub function_at_hi : (n : ℕ) (node : Node) → node_at nodes n ≡ Some node → (values : Values) → function nodes node.hi.0 values ≡ function nodes n (with_value values node.var true)
    function_at_hi n node there values =
        function_at_below node.var node.hi.0 true (reduced.hi_below n node there) values
        ∙ sym (function_node nodes vars reduced n node (with_value values node.var true) there
        ∙ cond-true (with_value values node.var true node.var) _ _ (with_value_same values node.var true))

    pub function_at_lo : (n : ℕ) (node : Node) → node_at nodes n ≡ Some node → (values : Values) → function nodes node.lo.0 values ≡ function nodes n (with_value values node.var false)
    function_at_lo n node there values =
        function_at_below node.var node.lo.0 false (reduced.lo_below n node there) values
        ∙ sym (function_node nodes vars reduced n node (with_value values node.var false) there
        ∙ cond-false (with_value values node.var false node.var) _ _ (with_value_same values node.var false))

    -- and so they are subfunctions
    pub sub_hi : (n : ℕ) (node : Node) → node_at nodes n ≡ Some node → IsSubfunction vars (function nodes n) (function nodes node.hi.0)
    sub_hi n node there = sub_at node.var true (function nodes n) (function nodes node.hi.0) (reduced.in_range n node there)
        (depends_function node.var n (λ k at. own n node k there at)) (function_at_hi n node there)
      where
        own : (n : ℕ) (node k : Node) → node_at nodes n ≡ Some node → node_at nodes n ≡ Some k → node.var ≤ k.var
        own n node k there at = subst (λ m. node.var ≤ m.var) (same_Some node k (sym there ∙ at)) (omega arith)

    pub sub_lo : (n : ℕ) (node : Node) → node_at nodes n ≡ Some node → IsSubfunction vars (function nodes n) (function nodes node.lo.0)
    sub_lo n node there = sub_at node.var false (function nodes n) (function nodes node.lo.0) (reduced.in_range n node there)
        (depends_function node.var n (λ k at. own n node k there at)) (function_at_lo n node there)
      where
        own : (n : ℕ) (node k : Node) → node_at nodes n ≡ Some node → node_at nodes n ≡ Some k → node.var ≤ k.var
        own n node k there at = subst (λ m. node.var ≤ m.var) (same_Some node k (sym there ∙ at)) (omega arith)
