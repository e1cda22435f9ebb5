-- The pieces of a substitution: how large `grow` is at most, and which functions are parts of them.
use Rattle.std.proofs.Common.{◌≡◌, ℕ, zero, suc, ◌+◌, ◌-◌, ◌*◌, ◌^◌, ◌<◌, ◌≤◌, Bool, true, false, not, ◌&&◌, cond, eqb, List, [], ◌∷◌, ◌++◌, length, map, filter, slice_index_or, Contains, Some, refl, sym, ap, subst, ◌∙◌, ⊎_elim, arith, pow_pos}
use Rattle.std.specs.List.{All, list_all, range_with_len}
use native.Mathlib.Nat.{pow-succ'}
use Rattle.std.proofs.lemmas.Bool.{cases_lt, cases_eq, eq-eqb, eqb-true, and_parts, and_from, not_from_false, false_from_ne_true, both_ways, not-true}
use Rattle.std.proofs.lemmas.List.{map-append}
use Rattle.std.proofs.lemmas.List.FromFn.{length-range_with_len}
use Rattle.std.proofs.lemmas.List.Elements.{Contains-append_left, Contains-append_right, All-nil, All-cons, All-append, All-map, All-weaker, All-filter, filter_passes}
use Rattle.std.proofs.lemmas.Simd.{map-map}
use Rattle.list_laws.proofs.Elements.{Contains-filter, Contains-map, Contains-range_with_len}
use Rattle.list_laws.proofs.Numbers.{below_power}
use Rattle.dd_nodes.specs.declared.node.Node.{Node}
use Rattle.dd_nodes.specs.NodeList.{Values, with_value, node_at, function, IsReduced}
use Rattle.dd_nodes.specs.Subfunctions.{Function, with_first, fixed, lists, lists_up_to, agree, subfunctions, IsSubfunction}
use Rattle.dd_nodes.proofs.NodeLemmas.{same_ref, node_place}
use Rattle.dd_nodes.proofs.Canonicity.{with_value_same, canonical, with_value_other}
use Rattle.dd_ops.specs.Operations.{variable, cofactor_of}
use Rattle.dd_nodes.specs.Subfunctions.{DependsOnly}
use Rattle.dd_ops.specs.Growth.{grow, IsPart, subst_pieces, depends_on}
use Rattle.dd_nodes.proofs.Agreement.{agree_same, lists_from, agree_values}
use Rattle.dd_nodes.proofs.Dependence.{sub_chain, sub_self, function_at_hi, function_at_lo}
use Rattle.dd_ops.proofs.GrowthParts.{part_same}
use Rattle.dd_nodes.proofs.Reaching.{within_at, past_at}
use Rattle.dd_ops.proofs.GrowthBounds.{length-lists_up_to, length-filter_within, grow_piece, grow-append, grow-nil, grow_each, grow_variable, grow_constant}

-- 4 ^ n is the square of 2 ^ n
four_pow : (n : ℕ) → 4 ^ n ≡ 2 ^ n * 2 ^ n
four_pow zero = refl
four_pow (suc n) =
    let twice : 2 ^ suc n * 2 ^ suc n ≡ (2 * 2 ^ n) * (2 * 2 ^ n) = ap (λ m. m * m) (pow-succ' 2 n) in
    let square : 4 ^ n ≡ 2 ^ n * 2 ^ n = four_pow n in
    omega (arith, pow-succ' 4 n)

-- the sum of what results and variables add
add_up : (vars b results of_variables seen all : ℕ) → vars < b + 1 → results + b ≤ (b + 1) * b → of_variables ≤ seen * 1 → seen ≤ vars → all ≤ results + of_variables
    → all ≤ (b + 1) * (b + 1)
add_up vars b results of_variables seen all less few_results few_variables few_seen both = omega arith

module _ (vars : ℕ) (before : List Node) where
  -- where each piece adds nothing all add nothing
  grow_none : {X : Type 0} (q : X → Bool) (h : X → Function) → ((x : X) → q x ≡ true → grow vars before (h x ∷ []) ≡ 0) → (xs : List X) → list_all q xs ≡ true → grow vars before (map h xs) ≡ 0
  grow_none q h each [] all = grow-nil vars before
  grow_none q h each (x ∷ xs) all =
      let parts = and_parts (q x) (list_all q xs) all in
      omega (arith, grow-append vars before (h x ∷ []) (map h xs), each x parts.0, grow_none q h each xs parts.1)

  -- what functions of lists add, where those of whole lists add nothing
  grow_lists : (h : List Bool → Function) (bound : ℕ) → ((first : List Bool) → grow vars before (h first ∷ []) ≤ bound)
      → (n : ℕ) → ((first : List Bool) → length first ≡ n → grow vars before (h first ∷ []) ≡ 0)
      → grow vars before (map h (lists_up_to n)) + bound ≤ 2 ^ n * bound
  unfolding lists_up_to lists
  grow_lists h bound each zero whole = omega (arith, whole [] refl)
  grow_lists h bound each (suc n) whole =
      let none : grow vars before (map h (lists (suc n))) ≡ 0 = grow_none (λ first. eqb (length first) (suc n)) h
      (λ first long. whole first (eqb-true (length first) (suc n) long)) (lists (suc n))
      (lists_from (λ first. eqb (length first) (suc n)) (suc n) (λ first long. eq-eqb (length first) (suc n) long)) in
      let most : grow vars before (map h (lists_up_to n)) ≤ length (lists_up_to n) * bound = grow_each vars before h bound each (lists_up_to n) in
      let long : (length (lists_up_to n) + 1) * bound ≡ 2 ^ suc n * bound = ap (λ m. m * bound) (length-lists_up_to n ∙ sym (pow-succ' 2 n)) in
      let both : grow vars before (map h (lists_up_to n ++ lists (suc n))) ≤ grow vars before (map h (lists_up_to n)) + grow vars before (map h (lists (suc n))) =
      subst (λ l. grow vars before l ≤ grow vars before (map h (lists_up_to n)) + grow vars before (map h (lists (suc n))))
      (sym (map-append h (lists_up_to n) (lists (suc n)))) (grow-append vars before (map h (lists_up_to n)) (map h (lists (suc n)))) in
      omega arith

  -- a substitution adds at most the square of the number of states
  pub grow_subst : (f : Function) (is_listed : ℕ → Bool) (replaced : Values → Values) → DependsOnly 0 vars f → grow vars before (subst_pieces vars f is_listed replaced) ≤ 4 ^ vars
  unfolding subst_pieces
  grow_subst f is_listed replaced depends =
      let positive : 0 < 2 ^ vars = pow_pos vars in
      let results : grow vars before (map result (lists_up_to vars)) + (2 ^ vars - 1) ≤ 2 ^ vars * (2 ^ vars - 1) = grow_lists result (2 ^ vars - 1) each vars whole in
      let same : grow vars before (map (λ g values. g (replaced values)) (subfunctions vars f)) ≡ grow vars before (map result (lists_up_to vars)) =
      ap (grow vars before) (map-map (λ g values. g (replaced values)) (λ first. fixed first f) (lists_up_to vars)) in
      let of_variables : grow vars before (map variable seen) ≤ length seen * 1 = grow_each vars before variable 1 (grow_variable vars before) seen in
      let few : length seen ≤ vars = omega (arith, length-filter_within (λ v. depends_on vars f v && not (is_listed v)) (range_with_len 0 vars), length-range_with_len 0 vars) in
      let both : grow vars before (map (λ g values. g (replaced values)) (subfunctions vars f) ++ map variable seen)
      ≤ grow vars before (map (λ g values. g (replaced values)) (subfunctions vars f)) + grow vars before (map variable seen) =
      grow-append vars before (map (λ g values. g (replaced values)) (subfunctions vars f)) (map variable seen) in
      let root : 2 ^ vars - 1 + 1 ≡ 2 ^ vars = omega arith in
      subst (λ m. grow vars before (map (λ g values. g (replaced values)) (subfunctions vars f) ++ map variable seen) ≤ m) (ap (λ m. m * m) root ∙ sym (four_pow vars))
      (add_up vars (2 ^ vars - 1) (grow vars before (map result (lists_up_to vars))) (grow vars before (map variable seen)) (length seen)
      (grow vars before (map (λ g values. g (replaced values)) (subfunctions vars f) ++ map variable seen))
      (omega (arith, below_power vars)) (subst (λ m. grow vars before (map result (lists_up_to vars)) + (2 ^ vars - 1) ≤ m * (2 ^ vars - 1)) (sym root) results)
      of_variables few (omega arith))
    where
      result : List Bool → Function
      result first values = fixed first f (replaced values)

      seen : List ℕ
      seen = filter (λ v. depends_on vars f v && not (is_listed v)) (range_with_len 0 vars)

      each : (first : List Bool) → grow vars before (result first ∷ []) ≤ 2 ^ vars - 1
      each first = omega (arith, grow_piece vars before (result first), pow_pos vars)

      whole : (first : List Bool) → length first ≡ vars → grow vars before (result first ∷ []) ≡ 0
      whole first long = grow_constant vars before (result first) (fixed first f (λ _. false))
          (λ values. depends (with_first first (replaced values)) (with_first first (λ _. false))
          (λ u above within. within_at first u (replaced values u) false (omega arith)))

-- each list of n truth values stands in `lists n`
lists_contain : (n : ℕ) (first : List Bool) → length first ≡ n → Contains (lists n) first
unfolding lists
lists_contain zero [] long = (0, omega arith, refl)
lists_contain zero (b ∷ first) long = absurd (omega arith)
lists_contain (suc n) [] long = absurd (omega arith)
lists_contain (suc n) (false ∷ rest) long = Contains-append_left (map (λ rest. false ∷ rest) (lists n)) (map (λ rest. true ∷ rest) (lists n)) (false ∷ rest)
    (Contains-map (λ rest. false ∷ rest) (lists n) rest (lists_contain n rest (omega arith)))
lists_contain (suc n) (true ∷ rest) long = Contains-append_right (map (λ rest. false ∷ rest) (lists n)) (map (λ rest. true ∷ rest) (lists n)) (true ∷ rest)
    (Contains-map (λ rest. true ∷ rest) (lists n) rest (lists_contain n rest (omega arith)))

lists_up_contain : (n : ℕ) (first : List Bool) → length first ≤ n → Contains (lists_up_to n) first
unfolding lists_up_to
lists_up_contain zero [] within = (0, omega arith, refl)
lists_up_contain zero (b ∷ first) within = absurd (omega arith)
lists_up_contain (suc n) first within = ⊎_elim
    (λ (shorter : length first < suc n). Contains-append_left (lists_up_to n) (lists (suc n)) first (lists_up_contain n first (omega arith)))
    (λ (whole : suc n ≤ length first). Contains-append_right (lists_up_to n) (lists (suc n)) first (lists_contain (suc n) first (omega arith)))
    (cases_lt (length first) (suc n))

module _ (vars : ℕ) (f : Function) (is_listed : ℕ → Bool) (replaced : Values → Values) where
  -- a piece is a part
  part_member : (pieces : List Function) (g : Function) → Contains pieces g → IsPart vars pieces g
  part_member pieces g (k, within, at) = (k, g, within, at, sub_self vars g)

  -- what a subfunction of f becomes is a part
  pub part_result : (g : Function) → IsSubfunction vars f g → IsPart vars (subst_pieces vars f is_listed replaced) (λ values. g (replaced values))
  unfolding subst_pieces
  part_result g sub = part_same vars (subst_pieces vars f is_listed replaced) (λ values. fixed sub.first f (replaced values)) (λ values. g (replaced values))
      (λ values. sub.fixes (replaced values))
      (part_member (subst_pieces vars f is_listed replaced) (λ values. fixed sub.first f (replaced values))
      (Contains-append_left (map (λ g values. g (replaced values)) (subfunctions vars f)) (map variable (filter (λ v. depends_on vars f v && not (is_listed v)) (range_with_len 0 vars)))
      (λ values. fixed sub.first f (replaced values))
      (Contains-map (λ g values. g (replaced values)) (subfunctions vars f) (fixed sub.first f)
      (Contains-map (λ first. fixed first f) (lists_up_to vars) sub.first (lists_up_contain vars sub.first sub.few)))))

  -- a variable that is not listed and on which f depends is a part
  pub part_variable : (v : ℕ) → v < vars → depends_on vars f v ≡ true → is_listed v ≡ false → IsPart vars (subst_pieces vars f is_listed replaced) (variable v)
  unfolding subst_pieces
  part_variable v within sees unlisted = part_member (subst_pieces vars f is_listed replaced) (variable v)
      (Contains-append_right (map (λ g values. g (replaced values)) (subfunctions vars f)) (map variable (filter (λ v. depends_on vars f v && not (is_listed v)) (range_with_len 0 vars)))
      (variable v)
      (Contains-map variable (filter (λ v. depends_on vars f v && not (is_listed v)) (range_with_len 0 vars)) v
      (Contains-filter (λ v. depends_on vars f v && not (is_listed v)) (range_with_len 0 vars) v (Contains-range_with_len vars v within)
      (and_from (depends_on vars f v) (not (is_listed v)) sees (not_from_false (is_listed v) unlisted)))))

-- a function of variables below vars that does not see v has the same subfunctions at both values
-- of v
unseen : (vars : ℕ) (f g : Function) (v : ℕ) → DependsOnly 0 vars f → agree vars (cofactor_of f v true) (cofactor_of f v false) ≡ true → IsSubfunction vars f g
    → (values : Values) → cofactor_of g v true values ≡ cofactor_of g v false values
unseen vars f g v depends same sub values =
    sub.fixes (with_value values v true)
    ∙ ⊎_elim
    (λ (within : v < length sub.first). ap f (λ i u. inside within u i))
    (λ (past : length sub.first ≤ v).
    ap f (λ i u. outside past true u i)
    ∙ agree_values vars (cofactor_of f v true) (cofactor_of f v false) (cofactor_depends true) (cofactor_depends false) same (with_first sub.first values)
    ∙ ap f (λ i u. sym (outside past false u) i))
    (cases_lt v (length sub.first))
    ∙ sym (sub.fixes (with_value values v false))
  where
    cofactor_depends : (b : Bool) → DependsOnly 0 vars (cofactor_of f v b)
    cofactor_depends b s t agreeing = depends (with_value s v b) (with_value t v b) (λ u above within. ap (λ c. cond (eqb u v) b c) (agreeing u above within))

    inside : v < length sub.first → (u : ℕ) → with_first sub.first (with_value values v true) u ≡ with_first sub.first (with_value values v false) u
    inside within u = ⊎_elim
        (λ (low : u < length sub.first). within_at sub.first u (with_value values v true u) (with_value values v false u) low)
        (λ (high : length sub.first ≤ u). ap (slice_index_or sub.first u) (with_value_other values v true u (λ e. omega arith) ∙ sym (with_value_other values v false u (λ e. omega arith))))
        (cases_lt u (length sub.first))

    outside : length sub.first ≤ v → (b : Bool) (u : ℕ) → with_first sub.first (with_value values v b) u ≡ with_value (with_first sub.first values) v b u
    outside past b u = ⊎_elim
        (λ (e : u ≡ v). subst (λ w. with_first sub.first (with_value values v b) w ≡ with_value (with_first sub.first values) v b w) (sym e)
        (past_at sub.first v (with_value values v b v) past ∙ with_value_same values v b ∙ sym (with_value_same (with_first sub.first values) v b)))
        (λ (other : u ≡ v → ⊥). ap (slice_index_or sub.first u) (with_value_other values v b u other) ∙ sym (with_value_other (with_first sub.first values) v b u other))
        (cases_eq u v)

-- a function depends on the variable of each node whose function is its subfunction
pub sees_variable : (vars : ℕ) (nodes : List Node) → IsReduced vars nodes → (f : Function) → DependsOnly 0 vars f
    → (n : ℕ) (node : Node) → node_at nodes n ≡ Some node → IsSubfunction vars f (function nodes n) → depends_on vars f node.var ≡ true
sees_variable vars nodes reduced f depends n node there sub =
    not_from_false (agree vars (cofactor_of f node.var true) (cofactor_of f node.var false))
    (false_from_ne_true (agree vars (cofactor_of f node.var true) (cofactor_of f node.var false)) blind)
  where
    blind : agree vars (cofactor_of f node.var true) (cofactor_of f node.var false) ≡ true → ⊥
    blind same =
        let place = node_place nodes n node there in
        let within : n < length nodes + 2 = place.1 in
        let hi_lower : node.hi.0 < n = reduced.hi_before n node there in
        let lo_lower : node.lo.0 < n = reduced.lo_before n node there in
        let equal : node.lo.0 ≡ node.hi.0 = canonical vars nodes reduced node.lo.0 node.hi.0 (omega arith) (omega arith)
        (λ values.
        function_at_lo vars nodes reduced n node there values
        ∙ sym (unseen vars f (function nodes n) node.var depends same sub values)
        ∙ sym (function_at_hi vars nodes reduced n node there values)) in
        reduced.tests n node there (same_ref node.lo node.hi equal)

-- no list in `lists_up_to n` is longer than n
lists_long : (n : ℕ) → All (λ first. length first ≡ n) (lists n)
unfolding lists
lists_long zero = All-cons (λ first. length first ≡ 0) [] [] refl (All-nil (λ first. length first ≡ 0))
lists_long (suc n) = All-append (λ first. length first ≡ suc n) (map (λ rest. false ∷ rest) (lists n)) (map (λ rest. true ∷ rest) (lists n))
    (All-map (λ first. length first ≡ suc n) (λ rest. false ∷ rest) (lists n) (All-weaker (λ rest. length rest ≡ n) (λ rest. length (false ∷ rest) ≡ suc n) (λ rest long. ap suc long) (lists n) (lists_long n)))
    (All-map (λ first. length first ≡ suc n) (λ rest. true ∷ rest) (lists n) (All-weaker (λ rest. length rest ≡ n) (λ rest. length (true ∷ rest) ≡ suc n) (λ rest long. ap suc long) (lists n) (lists_long n)))

lists_short : (n : ℕ) → All (λ first. length first ≤ n) (lists_up_to n)
unfolding lists_up_to
lists_short zero = All-cons (λ first. length first ≤ 0) [] [] (omega arith) (All-nil (λ first. length first ≤ 0))
lists_short (suc n) = All-append (λ first. length first ≤ suc n) (lists_up_to n) (lists (suc n))
    (All-weaker (λ first. length first ≤ n) (λ first. length first ≤ suc n) (λ first short. omega arith) (lists_up_to n) (lists_short n))
    (All-weaker (λ first. length first ≡ suc n) (λ first. length first ≤ suc n) (λ first long. omega arith) (lists (suc n)) (lists_long (suc n)))

range_below : (a n : ℕ) → All (λ v. v < a + n) (range_with_len a n)
range_below a zero = All-nil (λ v. v < a + zero)
range_below a (suc n) = All-cons (λ v. v < a + suc n) a (range_with_len (a + 1) n) (omega arith)
    (All-weaker (λ v. v < a + 1 + n) (λ v. v < a + suc n) (λ v less. omega arith) (range_with_len (a + 1) n) (range_below (a + 1) n))

-- a function depends on each variable on which a subfunction of it depends
pub depends_on_chain : (vars : ℕ) (f g : Function) (v : ℕ) → DependsOnly 0 vars f → IsSubfunction vars f g → depends_on vars g v ≡ true → depends_on vars f v ≡ true
depends_on_chain vars f g v depends sub sees =
    not_from_false (agree vars (cofactor_of f v true) (cofactor_of f v false))
    (false_from_ne_true (agree vars (cofactor_of f v true) (cofactor_of f v false))
    (λ same. both_ways (agree vars (cofactor_of g v true) (cofactor_of g v false))
    (not-true (agree vars (cofactor_of g v true) (cofactor_of g v false)) sees)
    (agree_same vars (cofactor_of g v true) (cofactor_of g v false) (unseen vars f g v depends same sub))))

-- the pieces of a substitution in a subfunction are parts of those of the substitution in the
-- function
pub subst_pieces_sub : (vars : ℕ) (f g : Function) (is_listed : ℕ → Bool) (replaced : Values → Values) → DependsOnly 0 vars f → IsSubfunction vars f g
    → All (λ piece. IsPart vars (subst_pieces vars f is_listed replaced) piece) (subst_pieces vars g is_listed replaced)
unfolding subst_pieces
subst_pieces_sub vars f g is_listed replaced depends sub =
    All-append piece_ok (map (λ g values. g (replaced values)) (subfunctions vars g)) (map variable (filter seen (range_with_len 0 vars)))
    (All-map piece_ok (λ g values. g (replaced values)) (subfunctions vars g)
    (All-map (λ h. piece_ok (λ values. h (replaced values))) (λ first. fixed first g) (lists_up_to vars)
    (All-weaker (λ first. length first ≤ vars) (λ first. piece_ok (λ values. fixed first g (replaced values)))
    (λ first short. part_result vars f is_listed replaced (fixed first g) (sub_chain vars f g (fixed first g) sub (record { first = first; few = short; fixes = λ values. refl })))
    (lists_up_to vars) (lists_short vars))))
    (All-map piece_ok variable (filter seen (range_with_len 0 vars))
    (both_weaker (filter seen (range_with_len 0 vars))
    (filter_passes seen (range_with_len 0 vars))
    (All-filter seen (λ v. v < 0 + vars) (range_with_len 0 vars) (range_below 0 vars))))
  where
    piece_ok : Function → Type 0
    piece_ok piece = IsPart vars (subst_pieces vars f is_listed replaced) piece

    seen : ℕ → Bool
    seen v = depends_on vars g v && not (is_listed v)

    each : (v : ℕ) → seen v ≡ true → v < 0 + vars → piece_ok (variable v)
    each v passes within =
        let parts = and_parts (depends_on vars g v) (not (is_listed v)) passes in
        part_variable vars f is_listed replaced v (omega arith) (depends_on_chain vars f g v depends sub parts.0) (not-true (is_listed v) parts.1)

    both_weaker : (vs : List ℕ) → All (λ v. seen v ≡ true) vs → All (λ v. v < 0 + vars) vs → All (λ v. piece_ok (variable v)) vs
    both_weaker vs passes within k d at = each (slice_index_or vs k d) (passes k d at) (within k d at)
