-- The cubes of a number are read off its diagram.
use Rattle.std.proofs.Common.{◌≡◌, ◌⊎◌, ℕ, zero, suc, ◌+◌, ◌-◌, ◌<◌, ◌≤◌, Bool, true, false, not, cond, List, [], ◌∷◌, ◌++◌, length, map, Some, refl, sym, ap, subst, ◌∙◌, ⊎_elim, inl, inr, arith, append_assoc, append-nil, ◌==◌}
use borrow.Author.Tests.{eq-eqb}
use Rattle.std.specs.List.{list_any}
use Rattle.std.proofs.lemmas.Bool.{cases_lt, cond-true, cond-false, false_from_ne_true, both_ways, not-true}
use Rattle.std.proofs.lemmas.List.{map-append}
use Rattle.list_laws.proofs.Elements.{list_all-from, list_any-none}
use Rattle.dd_nodes.specs.declared.node.Node.{Node}
use Rattle.dd_nodes.specs.NodeList.{Values, IsNumber, IsReduced, StandsFrom, function, node_at}
use Rattle.dd_nodes.proofs.NodeLemmas.{function_false, function_true, function_blind, function_hi, function_lo, node_place, same_ref}
use Rattle.dd_nodes.proofs.Canonicity.{canonical}
use Rattle.task_core.specs.Cubes.{Cube, SetOfVectors, literal, half, is_empty_set, is_whole_set, ignores_first, cubes_from}
use Rattle.task_core.specs.Vectors.{Vector, value_of, all_vectors, same_value}
use Rattle.task_core.specs.declared.literals.Lit.{Lit}
use Rattle.task_core.proofs.Vectors.{same_value_refl, same_value_equal, list_all_contains, list_any_contains, all_vectors_has}
use Rattle.dd_ops.proofs.QuestionLemmas.{below_from}
use Rattle.dd_sets.specs.Stores.{set_from}

-- an empty set, a whole one, and one that ignores the first fluent
empty_each : (k : ℕ) (set : SetOfVectors) → is_empty_set k set ≡ true → (v : Vector) → length v ≡ k → set v ≡ false
empty_each k set e v long = list_any_contains set (all_vectors k) v (not-true (list_any set (all_vectors k)) e) (all_vectors_has k v long)

whole_each : (k : ℕ) (set : SetOfVectors) → is_whole_set k set ≡ true → (v : Vector) → length v ≡ k → set v ≡ true
whole_each k set e v long = list_all_contains set (all_vectors k) v e (all_vectors_has k v long)

ignores_each : (k : ℕ) (set : SetOfVectors) → ignores_first k set ≡ true → (v : Vector) → length v ≡ k → set (false ∷ v) ≡ set (true ∷ v)
ignores_each k set e v long =
    same_value_equal (set (false ∷ v)) (set (true ∷ v)) (list_all_contains (λ w. same_value (set (false ∷ w)) (set (true ∷ w))) (all_vectors k) v e (all_vectors_has k v long))

-- the values of the fluents from one on
from_values : Values → ℕ → ℕ → Vector
from_values values first zero = []
from_values values first (suc k) = values first ∷ from_values values (first + 1) k

length_from : (values : Values) (first k : ℕ) → length (from_values values first k) ≡ k
unfolding from_values
length_from values first zero = refl
length_from values first (suc k) = ap suc (length_from values (first + 1) k)

value_shift : (b : Bool) (v : Vector) (u first : ℕ) → first + 1 ≤ u → value_of (b ∷ v) (u - first) ≡ value_of v (u - (first + 1))
value_shift b v u first above = let e : u - first ≡ suc (u - (first + 1)) = omega arith in ap (value_of (b ∷ v)) e

value_first : (b : Bool) (v : Vector) (u first : ℕ) → u ≡ first → value_of (b ∷ v) (u - first) ≡ b
value_first b v u first same = let e : u - first ≡ 0 = omega arith in ap (value_of (b ∷ v)) e

value_from : (values : Values) (k first u : ℕ) → first ≤ u → u < first + k → value_of (from_values values first k) (u - first) ≡ values u
unfolding from_values
value_from values zero first u above below = absurd (omega arith)
value_from values (suc k) first u above below = ⊎_elim
    (λ (here : u ≡ first). value_first (values first) (from_values values (first + 1) k) u first here ∙ ap values (sym here))
    (λ (past : first + 1 ≤ u). value_shift (values first) (from_values values (first + 1) k) u first past ∙ value_from values k (first + 1) u past (omega arith))
    (either (cases_lt first u))
  where
    either : (first < u) ⊎ (u ≤ first) → (u ≡ first) ⊎ (first + 1 ≤ u)
    either (inl past) = inr (omega arith)
    either (inr here) = inl (omega arith)

module _ (vars : ℕ) (nodes : List Node) (reduced : IsReduced vars nodes) where
  -- the function of a number that stands from `first` on, by its set
  by_set : (n first k : ℕ) → first + k ≡ vars → StandsFrom nodes first n → (values : Values) → function nodes n values ≡ set_from nodes first n (from_values values first k)
  by_set n first k whole from values =
      function_blind nodes vars reduced (n + 1) n (omega arith) first from values (λ f. value_of (from_values values first k) (f - first))
      (λ u above below. sym (value_from values k first u above (omega arith)))

  -- a number that stands below `first` does not see that fluent
  half_skips : (n first : ℕ) (b : Bool) → StandsFrom nodes (first + 1) n → half b (set_from nodes first n) ≡ set_from nodes (first + 1) n
  half_skips n first b from = λ i v. at v i
    where
      at : (v : Vector) → half b (set_from nodes first n) v ≡ set_from nodes (first + 1) n v
      at v = function_blind nodes vars reduced (n + 1) n (omega arith) (first + 1) from (λ f. value_of (b ∷ v) (f - first)) (λ f. value_of v (f - (first + 1)))
          (λ u above below. value_shift b v u first above)

  module _ (n : ℕ) (node : Node) (there : node_at nodes n ≡ Some node) where
    -- the halves of a node are its children
    half_false : (first : ℕ) → node.var ≡ first → half false (set_from nodes first n) ≡ set_from nodes (first + 1) node.lo.0
    half_false first is = λ i v. at v i
      where
        at : (v : Vector) → half false (set_from nodes first n) v ≡ set_from nodes (first + 1) node.lo.0 v
        at v =
            sym (function_lo nodes vars reduced n node (λ f. value_of (false ∷ v) (f - first)) there (value_first false v node.var first is))
            ∙ ap (λ s. s v) (half_skips node.lo.0 first false (subst (λ w. StandsFrom nodes (w + 1) node.lo.0) is (below_from nodes node.var node.lo.0 (reduced.lo_below n node there))))

    half_true : (first : ℕ) → node.var ≡ first → half true (set_from nodes first n) ≡ set_from nodes (first + 1) node.hi.0
    half_true first is = λ i v. at v i
      where
        at : (v : Vector) → half true (set_from nodes first n) v ≡ set_from nodes (first + 1) node.hi.0 v
        at v =
            sym (function_hi nodes vars reduced n node (λ f. value_of (true ∷ v) (f - first)) there (value_first true v node.var first is))
            ∙ ap (λ s. s v) (half_skips node.hi.0 first true (subst (λ w. StandsFrom nodes (w + 1) node.hi.0) is (below_from nodes node.var node.hi.0 (reduced.hi_below n node there))))

    number : IsNumber nodes n
    number = (node_place nodes n node there).1

    inner : 2 ≤ n
    inner = (node_place nodes n node there).0

    -- a node's set is neither empty nor whole
    not_empty : (first k : ℕ) → first + k ≡ vars → StandsFrom nodes first n → is_empty_set k (set_from nodes first n) ≡ false
    not_empty first k whole from = false_from_ne_true (is_empty_set k (set_from nodes first n)) (λ e.
        let is_in : IsNumber nodes n = number in
        let above : 2 ≤ n = inner in
        let zero_number : n ≡ 0 = canonical vars nodes reduced n 0 number (omega arith) (λ values.
        by_set n first k whole from values
        ∙ empty_each k (set_from nodes first n) e (from_values values first k) (length_from values first k)
        ∙ sym (function_false nodes values)) in
        omega arith)

    not_whole : (first k : ℕ) → first + k ≡ vars → StandsFrom nodes first n → is_whole_set k (set_from nodes first n) ≡ false
    not_whole first k whole from = false_from_ne_true (is_whole_set k (set_from nodes first n)) (λ e.
        let is_in : IsNumber nodes n = number in
        let above : 2 ≤ n = inner in
        let one_number : n ≡ 1 = canonical vars nodes reduced n 1 number (omega arith) (λ values.
        by_set n first k whole from values
        ∙ whole_each k (set_from nodes first n) e (from_values values first k) (length_from values first k)
        ∙ sym (function_true nodes values)) in
        omega arith)

    -- it depends on its own fluent
    not_ignoring : (first k : ℕ) → first + suc k ≡ vars → node.var ≡ first → ignores_first k (set_from nodes first n) ≡ false
    not_ignoring first k whole is = false_from_ne_true (ignores_first k (set_from nodes first n)) (λ e.
        let is_in : IsNumber nodes n = number in
        let lo_lower : node.lo.0 < n = reduced.lo_before n node there in
        let hi_lower : node.hi.0 < n = reduced.hi_before n node there in
        let lo_from : StandsFrom nodes (first + 1) node.lo.0 = subst (λ w. StandsFrom nodes (w + 1) node.lo.0) is (below_from nodes node.var node.lo.0 (reduced.lo_below n node there)) in
        let hi_from : StandsFrom nodes (first + 1) node.hi.0 = subst (λ w. StandsFrom nodes (w + 1) node.hi.0) is (below_from nodes node.var node.hi.0 (reduced.hi_below n node there)) in
        let same : node.lo.0 ≡ node.hi.0 = canonical vars nodes reduced node.lo.0 node.hi.0 (omega arith) (omega arith) (λ values.
        by_set node.lo.0 (first + 1) k (omega arith) lo_from values
        ∙ ap (λ s. s (from_values values (first + 1) k)) (sym (half_false first is))
        ∙ ignores_each k (set_from nodes first n) e (from_values values (first + 1) k) (length_from values (first + 1) k)
        ∙ ap (λ s. s (from_values values (first + 1) k)) (half_true first is)
        ∙ sym (by_set node.hi.0 (first + 1) k (omega arith) hi_from values)) in
        reduced.tests n node there (same_ref node.lo node.hi same))

    same_var : (k : Node) → node_at nodes n ≡ Some k → node.var ≡ k.var
    same_var k at = some_var (sym there ∙ at)
      where
        some_var : {l : Node} → Some node ≡ Some l → node.var ≡ l.var
        some_var e = cc

    own_from : (first : ℕ) → first < node.var → StandsFrom nodes (first + 1) n
    own_from first above k at = let e : node.var ≡ k.var = same_var k at in omega arith

    -- and on none above
    ignoring : (first k : ℕ) → first < node.var → ignores_first k (set_from nodes first n) ≡ true
    ignoring first k above = list_all-from (λ v. same_value (set_from nodes first n (false ∷ v)) (set_from nodes first n (true ∷ v))) (all_vectors k)
        (λ v has. subst (λ b. same_value (set_from nodes first n (false ∷ v)) b ≡ true)
        (ap (λ s. s v) (half_skips n first false stands ∙ sym (half_skips n first true stands)))
        (same_value_refl (set_from nodes first n (false ∷ v))))
      where
        stands : StandsFrom nodes (first + 1) n
        stands = own_from first above

    own_stands : (first : ℕ) → first ≤ node.var → StandsFrom nodes first n
    own_stands first above k at = let e : node.var ≡ k.var = same_var k at in omega arith

    cubes_skip : (first k : ℕ) → first + suc k ≡ vars → first < node.var → cubes_from first (suc k) (set_from nodes first n) ≡ cubes_from (first + 1) k (set_from nodes (first + 1) n)
    cubes_skip first k whole above =
        cond-false (is_empty_set (suc k) (set_from nodes first n)) _ _ (not_empty first (suc k) whole (own_stands first (omega arith)))
        ∙ cond-false (is_whole_set (suc k) (set_from nodes first n)) _ _ (not_whole first (suc k) whole (own_stands first (omega arith)))
        ∙ cond-true (ignores_first k (set_from nodes first n)) _ _ (ignoring first k above)
        ∙ ap (cubes_from (first + 1) k) (half_skips n first false (own_from first above))

    -- the cubes of its children, each behind its literal
    split : ℕ → ℕ → List Cube
    split v k =
        map (λ cube. literal v false ∷ cube) (cubes_from (v + 1) k (set_from nodes (v + 1) node.lo.0))
        ++ map (λ cube. literal v true ∷ cube) (cubes_from (v + 1) k (set_from nodes (v + 1) node.hi.0))

    cubes_split : (first k : ℕ) → first + suc k ≡ vars → node.var ≡ first → cubes_from first (suc k) (set_from nodes first n) ≡ split first k
    unfolding split
    cubes_split first k whole is =
        cond-false (is_empty_set (suc k) (set_from nodes first n)) _ _ (not_empty first (suc k) whole (own_stands first (omega arith)))
        ∙ cond-false (is_whole_set (suc k) (set_from nodes first n)) _ _ (not_whole first (suc k) whole (own_stands first (omega arith)))
        ∙ cond-false (ignores_first k (set_from nodes first n)) _ _ (not_ignoring first k whole is)
        ∙ (λ i. map (λ cube. literal first false ∷ cube) (cubes_from (first + 1) k (half_false first is i))
        ++ map (λ cube. literal first true ∷ cube) (cubes_from (first + 1) k (half_true first is i)))

    cubes_jump : (gap first k : ℕ) → first + k ≡ vars → first + gap ≡ node.var → cubes_from first k (set_from nodes first n) ≡ split node.var (vars - (node.var + 1))
    cubes_jump gap first zero whole to = let within : node.var < vars = reduced.in_range n node there in absurd (omega arith)
    cubes_jump zero first (suc k) whole to =
        let is : node.var ≡ first = omega arith in
        let rest : k ≡ vars - (node.var + 1) = omega arith in
        cubes_split first k whole is ∙ (λ i. split (sym is i) (rest i))
    cubes_jump (suc gap) first (suc k) whole to = cubes_skip first k whole (omega arith) ∙ cubes_jump gap (first + 1) k (omega arith) (omega arith)

    -- from any fluent at or above its own
    pub cubes_node : (first k : ℕ) → first + k ≡ vars → StandsFrom nodes first n
        → cubes_from first k (set_from nodes first n)
        ≡ map (λ cube. literal node.var false ∷ cube) (cubes_from (node.var + 1) (vars - (node.var + 1)) (set_from nodes (node.var + 1) node.lo.0))
        ++ map (λ cube. literal node.var true ∷ cube) (cubes_from (node.var + 1) (vars - (node.var + 1)) (set_from nodes (node.var + 1) node.hi.0))
    unfolding split
    cubes_node first k whole from = let above : first ≤ node.var = from node there in cubes_jump (node.var - first) first k whole (omega arith)

    pub lo_stands : StandsFrom nodes (node.var + 1) node.lo.0
    lo_stands = below_from nodes node.var node.lo.0 (reduced.lo_below n node there)

    pub hi_stands : StandsFrom nodes (node.var + 1) node.hi.0
    hi_stands = below_from nodes node.var node.hi.0 (reduced.hi_below n node there)

-- the constants
pub cubes_false : (nodes : List Node) (first k : ℕ) → cubes_from first k (set_from nodes first 0) ≡ []
cubes_false nodes first zero = ap (λ b. cond b ([] ∷ []) []) (function_false nodes (λ f. value_of [] (f - first)))
cubes_false nodes first (suc k) = cond-true (is_empty_set (suc k) (set_from nodes first 0)) _ _
    (ap not (list_any-none (set_from nodes first 0) (all_vectors (suc k)) (λ v has. function_false nodes (λ f. value_of v (f - first)))))

pub cubes_true : (nodes : List Node) (first k : ℕ) → cubes_from first k (set_from nodes first 1) ≡ [] ∷ []
cubes_true nodes first zero = ap (λ b. cond b ([] ∷ []) []) (function_true nodes (λ f. value_of [] (f - first)))
cubes_true nodes first (suc k) =
    cond-false (is_empty_set (suc k) (set_from nodes first 1)) _ _ (false_from_ne_true (is_empty_set (suc k) (set_from nodes first 1)) (λ e.
    both_ways (set_from nodes first 1 (from_values (λ _. true) first (suc k)))
    (empty_each (suc k) (set_from nodes first 1) e (from_values (λ _. true) first (suc k)) (length_from (λ _. true) first (suc k)))
    (function_true nodes (λ f. value_of (from_values (λ _. true) first (suc k)) (f - first)))))
    ∙ cond-true (is_whole_set (suc k) (set_from nodes first 1)) _ _
    (list_all-from (set_from nodes first 1) (all_vectors (suc k)) (λ v has. function_true nodes (λ f. value_of v (f - first))))

-- cubes behind a longer path
behind : (path : Cube) (lit : Lit) (cubes : List Cube) → map (λ cube. (path ++ lit ∷ []) ++ cube) cubes ≡ map (λ cube. path ++ cube) (map (λ cube. lit ∷ cube) cubes)
behind path lit [] = refl
behind path lit (cube ∷ cubes) = (λ i. append_assoc path (lit ∷ []) cube i ∷ behind path lit cubes i)

pub both_behind : (before between after : List Cube) (path : Cube) (lo hi : Lit) (lows highs : List Cube)
    → between ≡ before ++ map (λ cube. (path ++ lo ∷ []) ++ cube) lows → after ≡ between ++ map (λ cube. (path ++ hi ∷ []) ++ cube) highs
    → after ≡ before ++ map (λ cube. path ++ cube) (map (λ cube. lo ∷ cube) lows ++ map (λ cube. hi ∷ cube) highs)
both_behind before between after path lo hi lows highs first second =
    second
    ∙ (λ i. first i ++ behind path hi highs i)
    ∙ ap (λ cubes. (before ++ cubes) ++ map (λ cube. path ++ cube) (map (λ cube. hi ∷ cube) highs)) (behind path lo lows)
    ∙ append_assoc before (map (λ cube. path ++ cube) (map (λ cube. lo ∷ cube) lows)) (map (λ cube. path ++ cube) (map (λ cube. hi ∷ cube) highs))
    ∙ ap (λ cubes. before ++ cubes) (sym (map-append (λ cube. path ++ cube) (map (λ cube. lo ∷ cube) lows) (map (λ cube. hi ∷ cube) highs)))

-- a number that is no node and not that of the whole set
pub zero_number : (n : ℕ) → n < 2 → false ≡ (n == 1) → n ≡ 0
zero_number n small test = go (cases_lt n 1)
  where
    go : (n < 1) ⊎ (1 ≤ n) → n ≡ 0
    go (inl less) = omega arith
    go (inr more) = let is : n ≡ 1 = omega arith in absurd (both_ways (n == 1) (sym test) (eq-eqb n 1 is))

-- it has no cube, and the whole set has the empty one
pub none_more : (nodes : List Node) (n first rest : ℕ) (before : List Cube) (path : Cube) → n ≡ 0 → before ≡ before ++ map (λ cube. path ++ cube) (cubes_from first rest (set_from nodes first n))
none_more nodes n first rest before path is =
    sym (append-nil before) ∙ ap (λ cubes. before ++ map (λ cube. path ++ cube) cubes) (sym (ap (λ m. cubes_from first rest (set_from nodes first m)) is ∙ cubes_false nodes first rest))

pub one_more : (nodes : List Node) (n first rest : ℕ) (before after : List Cube) (path : Cube) → n ≡ 1 → after ≡ before ++ path ∷ []
    → after ≡ before ++ map (λ cube. path ++ cube) (cubes_from first rest (set_from nodes first n))
one_more nodes n first rest before after path is appended =
    appended
    ∙ ap (λ cube. before ++ cube ∷ []) (sym (append-nil path))
    ∙ ap (λ cubes. before ++ map (λ cube. path ++ cube) cubes) (sym (ap (λ m. cubes_from first rest (set_from nodes first m)) is ∙ cubes_true nodes first rest))

-- the cubes of a node are those of its children, each behind its literal
pub node_more : (vars : ℕ) (nodes : List Node) → IsReduced vars nodes → (n : ℕ) (node : Node) → node_at nodes n ≡ Some node → (before between after : List Cube) (path lows highs : Cube)
    → lows ≡ path ++ literal node.var false ∷ [] → highs ≡ path ++ literal node.var true ∷ []
    → ((first rest : ℕ) → first + rest ≡ vars → StandsFrom nodes first node.lo.0 → between ≡ before ++ map (λ cube. lows ++ cube) (cubes_from first rest (set_from nodes first node.lo.0)))
    → ((first rest : ℕ) → first + rest ≡ vars → StandsFrom nodes first node.hi.0 → after ≡ between ++ map (λ cube. highs ++ cube) (cubes_from first rest (set_from nodes first node.hi.0)))
    → (first rest : ℕ) → first + rest ≡ vars → StandsFrom nodes first n → after ≡ before ++ map (λ cube. path ++ cube) (cubes_from first rest (set_from nodes first n))
node_more vars nodes reduced n node there before between after path lows highs is_lows is_highs low high first rest whole from =
    let within : node.var < vars = reduced.in_range n node there in
    both_behind before between after path (literal node.var false) (literal node.var true)
    (cubes_from (node.var + 1) (vars - (node.var + 1)) (set_from nodes (node.var + 1) node.lo.0))
    (cubes_from (node.var + 1) (vars - (node.var + 1)) (set_from nodes (node.var + 1) node.hi.0))
    (low (node.var + 1) (vars - (node.var + 1)) (omega arith) (lo_stands vars nodes reduced n node there)
    ∙ ap (λ (front : Cube). before ++ map (λ cube. front ++ cube) (cubes_from (node.var + 1) (vars - (node.var + 1)) (set_from nodes (node.var + 1) node.lo.0))) is_lows)
    (high (node.var + 1) (vars - (node.var + 1)) (omega arith) (hi_stands vars nodes reduced n node there)
    ∙ ap (λ (front : Cube). between ++ map (λ cube. front ++ cube) (cubes_from (node.var + 1) (vars - (node.var + 1)) (set_from nodes (node.var + 1) node.hi.0))) is_highs)
    ∙ ap (λ cubes. before ++ map (λ cube. path ++ cube) cubes) (sym (cubes_node vars nodes reduced n node there first rest whole from))

-- over all fluents, behind no path, they are those of the set
pub all_cubes : (vars : ℕ) (nodes : List Node) (n : ℕ) (set : Values → Bool) → function nodes n ≡ set → (path : Cube) (before after : List Cube) → path ≡ [] → before ≡ []
    → ((first rest : ℕ) → first + rest ≡ vars → StandsFrom nodes first n → after ≡ before ++ map (λ cube. path ++ cube) (cubes_from first rest (set_from nodes first n)))
    → after ≡ cubes_from 0 vars (λ state. set (value_of state))
all_cubes vars nodes n set is path before after no_path none_before all =
    all 0 vars (omega arith) (λ k at. omega arith)
    ∙ (λ i. none_before i ++ map (λ cube. no_path i ++ cube) (cubes_from 0 vars (set_from nodes 0 n)))
    ∙ same_cubes (cubes_from 0 vars (set_from nodes 0 n))
    ∙ ap (cubes_from 0 vars) (λ i state. is i (λ f. value_of state (sub_zero f i)))
  where
    same_cubes : (cubes : List Cube) → map (λ (cube : Cube). [] ++ cube) cubes ≡ cubes
    same_cubes [] = refl
    same_cubes (cube ∷ cubes) = ap (λ rest. cube ∷ rest) (same_cubes cubes)

    sub_zero : (f : ℕ) → f - 0 ≡ f
    sub_zero f = omega arith
