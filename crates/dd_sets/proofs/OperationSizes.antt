-- How many nodes the answer of an operation has: each of its subfunctions is the operation on
-- subfunctions of its operands.
use Rattle.std.proofs.Common.{◌≡◌, ℕ, zero, suc, ◌+◌, ◌*◌, ◌==◌, ◌≢◌, ◌<◌, ◌≤◌, Bool, true, false, not, ◌&&◌, ◌||◌, List, [], ◌∷◌, ◌++◌, length, map, flat_map, set, slice_index_or, Contains, refl, sym, ap, ◌∙◌, ⊎_elim, arith, length-append, mul-le-mul_right}
use Rattle.std.specs.List.{list_any}
use Rattle.std.proofs.lemmas.Bool.{cases_eq, cases_lt, cond-true, cond-false, eq-eqb, ne_eqb, or_left, or_right}
use Rattle.std.proofs.lemmas.List.{length-map, length-set, get_or-set_same, get_or-set_other}
use Rattle.std.proofs.lemmas.List.Elements.{All-nil, All-cons}
use Rattle.std.proofs.lemmas.List.Folds.{list_any-append}
use Rattle.list_laws.proofs.Elements.{list_any-from, list_any-witness}
use Rattle.dd_nodes.specs.NodeList.{Values, with_value}
use Rattle.dd_nodes.specs.Subfunctions.{Function, agree, constants, fixed, nodes, with_first}
use Rattle.dd_nodes.proofs.Agreement.{agree_chain, agree_each, agree_from, agree_same, any_flat_map, list_any-map}
use Rattle.dd_nodes.proofs.Counting.{any_weaker}
use Rattle.dd_nodes.proofs.Reaching.{past_at, within_at}
use Rattle.dd_ops.proofs.GrowthBounds.{grow_constant, grow_variable}
use Rattle.dd_ops.specs.Operations.{variable, not_of, and_of, or_of, minus_of, cofactor_of}
use Rattle.task_core.specs.Vectors.{Vector, value_of}
use Rattle.dd_sets.specs.LiveSets.{nothing, everything}
use Rattle.dd_sets.specs.Rooms.{Small, Rough, AreRough}
use Rattle.dd_sets.proofs.CountLemmas.{beside}
use Rattle.dd_sets.proofs.KindLemmas.{covered_nodes, in_kinds, is_constant, kinds, known_or_kind, length-kinds, not_both, which_constant}
use Rattle.dd_sets.proofs.TightLemmas.{nodes_grow}

pub constants_small : (vars w : ℕ) → 2 ≤ w → Small vars w nothing × Small vars w everything
unfolding Small
constants_small vars w wide = (
  omega (arith, nodes_grow vars (nothing ∷ []), grow_constant vars [] nothing false (λ values. refl)),
  omega (arith, nodes_grow vars (everything ∷ []), grow_constant vars [] everything true (λ values. refl)),
)

pub variable_small : (vars w fluent : ℕ) → 3 ≤ w → Small vars w (variable fluent)
unfolding Small
variable_small vars w fluent wide = omega (arith, nodes_grow vars (variable fluent ∷ []), grow_variable vars [] fluent)

-- all pairs of elements of two lists
pairs : {A B C : Type 0} (h : A → B → C) → List A → List B → List C
pairs h xs ys = flat_map (λ x. map (h x) ys) xs

length-pairs : {A B C : Type 0} (h : A → B → C) (xs : List A) (ys : List B) → length (pairs h xs ys) ≡ length xs * length ys
unfolding pairs
length-pairs h [] ys = omega arith
length-pairs h (x ∷ xs) ys = omega (arith, length-append (map (h x) ys) (flat_map (λ z. map (h z) ys) xs), length-map ys (h x), length-pairs h xs ys)

pair_in : {A B C : Type 0} (p : C → Bool) (h : A → B → C) (xs : List A) (ys : List B) (x : A) (y : B) → Contains xs x → Contains ys y → p (h x y) ≡ true → list_any p (pairs h xs ys) ≡ true
unfolding pairs
pair_in p h xs ys x y has_x has_y here = any_flat_map p (λ z. map (h z) ys) xs has_x.0 x has_x.1 has_x.2
    (list_any-map p (h x) ys ∙ list_any-from (λ z. p (h x z)) ys y has_y here)

module _ (vars : ℕ) where
  -- a function each of whose subfunctions is made of one of another, constants of constants
  pub nodes_made : (h : Function → Function) (f made : Function)
      → ((first : List Bool) → length first ≤ vars → (from : List Bool) × (length from ≤ vars) × (agree vars (fixed first made) (h (fixed from f)) ≡ true))
      → ((a b : Function) → agree vars a b ≡ true → agree vars (h a) (h b) ≡ true)
      → ((b : Bool) → (c : Bool) × ((values : Values) → h (λ _. b) values ≡ c))
      → nodes vars (made ∷ []) ≤ nodes vars (f ∷ [])
  nodes_made h f made from moves constant =
      let most : nodes vars (made ∷ []) ≤ length (map h (kinds vars f)) = covered_nodes vars (made ∷ []) (map h (kinds vars f)) (All-cons Each made [] each (All-nil Each)) in
      omega (arith, most, length-map (kinds vars f) h, length-kinds vars f)
    where
      Each : Function → Type 0
      Each g = (first : List Bool) → length first ≤ vars → beside vars constants (fixed first g) ≡ true → list_any (agree vars (fixed first g)) (map h (kinds vars f)) ≡ true

      each : (first : List Bool) → length first ≤ vars → beside vars constants (fixed first made) ≡ true → list_any (agree vars (fixed first made)) (map h (kinds vars f)) ≡ true
      each first few apart =
          let source = from first few in
          let g : Function = fixed source.0 f in
          let same : agree vars (fixed first made) (h g) ≡ true = source.2 in
          ⊎_elim
          (λ (known : list_any (agree vars g) constants ≡ true).
          let which = which_constant vars g known in
          let value = constant which.0 in
          absurd (not_both vars (fixed first made)
          (is_constant vars (fixed first made) value.0
          (agree_chain vars (fixed first made) (h g) (λ _. value.0) same
          (agree_chain vars (h g) (h (λ _. which.0)) (λ _. value.0) (moves g (λ _. which.0) which.1) (agree_same vars (h (λ _. which.0)) (λ _. value.0) value.1))))
          apart))
          (λ (kind : beside vars constants g ≡ true).
          list_any-map (agree vars (fixed first made)) h (kinds vars f)
          ∙ any_weaker (agree vars g) (λ y. agree vars (fixed first made) (h y)) (λ y e. agree_chain vars (fixed first made) (h g) (h y) same (moves g y e)) (kinds vars f) (in_kinds vars f source.0 source.1 kind))
          (known_or_kind vars g)

  -- the kinds with the constants
  all_kinds : Function → List Function
  all_kinds f = constants ++ kinds vars f

  length-all_kinds : (f : Function) → length (all_kinds f) ≡ nodes vars (f ∷ []) + 2
  unfolding all_kinds
  length-all_kinds f = omega (arith, length-kinds vars f)

  in_all_kinds : (f : Function) (first : List Bool) → length first ≤ vars → list_any (agree vars (fixed first f)) (all_kinds f) ≡ true
  unfolding all_kinds
  in_all_kinds f first few =
      list_any-append (agree vars (fixed first f)) constants (kinds vars f)
      ∙ ⊎_elim
      (λ (known : list_any (agree vars (fixed first f)) constants ≡ true). or_left (list_any (agree vars (fixed first f)) constants) (list_any (agree vars (fixed first f)) (kinds vars f)) known)
      (λ (kind : beside vars constants (fixed first f) ≡ true). or_right (list_any (agree vars (fixed first f)) constants) (list_any (agree vars (fixed first f)) (kinds vars f)) (in_kinds vars f first few kind))
      (known_or_kind vars (fixed first f))

  -- an operation on the values of two functions
  both_of : (Bool → Bool → Bool) → Function → Function → Function
  both_of o f g values = o (f values) (g values)

  pub nodes_of_both : (o : Bool → Bool → Bool) (f g : Function) → nodes vars ((λ values. o (f values) (g values)) ∷ []) ≤ (nodes vars (f ∷ []) + 2) * (nodes vars (g ∷ []) + 2)
  unfolding both_of
  nodes_of_both o f g =
      let most : nodes vars (both_of o f g ∷ []) ≤ length ys = covered_nodes vars (both_of o f g ∷ []) ys (All-cons Each (both_of o f g) [] each (All-nil Each)) in
      let long : length ys ≡ (nodes vars (f ∷ []) + 2) * (nodes vars (g ∷ []) + 2) = length-pairs (both_of o) (all_kinds f) (all_kinds g) ∙ (λ i. length-all_kinds f i * length-all_kinds g i) in
      omega arith
    where
      ys : List Function
      ys = pairs (both_of o) (all_kinds f) (all_kinds g)

      Each : Function → Type 0
      Each k = (first : List Bool) → length first ≤ vars → beside vars constants (fixed first k) ≡ true → list_any (agree vars (fixed first k)) ys ≡ true

      each : (first : List Bool) → length first ≤ vars → beside vars constants (fixed first (both_of o f g)) ≡ true → list_any (agree vars (fixed first (both_of o f g))) ys ≡ true
      each first few apart =
          let a = list_any-witness (agree vars (fixed first f)) (all_kinds f) (in_all_kinds f first few) in
          let b = list_any-witness (agree vars (fixed first g)) (all_kinds g) (in_all_kinds g first few) in
          pair_in (agree vars (fixed first (both_of o f g))) (both_of o) (all_kinds f) (all_kinds g) a.0 b.0 a.1 b.1
          (agree_from vars (fixed first (both_of o f g)) (both_of o a.0 b.0)
          (λ second long i. o (agree_each vars (fixed first f) a.0 a.2 second long i) (agree_each vars (fixed first g) b.0 b.2 second long i)))

-- so many nodes of two small sets
product_within : (w a b : ℕ) → a ≤ w → b ≤ w → a * b ≤ w * w
product_within w a b few_a few_b =
    let first : a * b ≤ w * b = mul-le-mul_right b few_a in
    let second : b * w ≤ w * w = mul-le-mul_right w few_b in
    omega arith

both_rough : (vars w : ℕ) (o : Bool → Bool → Bool) (f g : Function) → Small vars w f → Small vars w g → Rough vars w (λ values. o (f values) (g values))
unfolding Small AreRough
both_rough vars w o f g small_f small_g =
    let most : nodes vars ((λ values. o (f values) (g values)) ∷ []) ≤ (nodes vars (f ∷ []) + 2) * (nodes vars (g ∷ []) + 2) = nodes_of_both vars o f g in
    let within : (nodes vars (f ∷ []) + 2) * (nodes vars (g ∷ []) + 2) ≤ w * w = product_within w (nodes vars (f ∷ []) + 2) (nodes vars (g ∷ []) + 2) small_f small_g in
    omega arith

pub meet_rough : (vars w : ℕ) (f g : Function) → Small vars w f → Small vars w g → Rough vars w (and_of f g)
meet_rough vars w f g small_f small_g = both_rough vars w (λ a b. a && b) f g small_f small_g

pub join_rough : (vars w : ℕ) (f g : Function) → Small vars w f → Small vars w g → Rough vars w (or_of f g)
join_rough vars w f g small_f small_g = both_rough vars w (λ a b. a || b) f g small_f small_g

pub difference_rough : (vars w : ℕ) (f g : Function) → Small vars w f → Small vars w g → Rough vars w (minus_of f g)
difference_rough vars w f g small_f small_g = both_rough vars w (λ a b. a && not b) f g small_f small_g

-- the complement has the nodes of the set
nodes_complement : (vars : ℕ) (f : Function) → nodes vars (not_of f ∷ []) ≤ nodes vars (f ∷ [])
nodes_complement vars f = nodes_made vars not_of f (not_of f) (λ first few. (first, few, agree_same vars (not_of (fixed first f)) (not_of (fixed first f)) (λ values. refl)))
    (λ a b same. agree_from vars (not_of a) (not_of b) (λ first long. ap not (agree_each vars a b same first long)))
    (λ b. (not b, λ values. refl))

-- a vector with a fluent set, part by part
set_first : (first : List Bool) (v : ℕ) (b : Bool) (values : Values) (u : ℕ) → v < length first → with_value (with_first first values) v b u ≡ slice_index_or (set first v b) u (values u)
set_first first v b values u within = ⊎_elim
    (λ (is : u ≡ v).
    cond-true (u == v) b (slice_index_or first u (values u)) (eq-eqb u v is)
    ∙ sym (ap (λ n. slice_index_or (set first v b) n (values u)) is ∙ get_or-set_same first v b (values u) within))
    (λ (other : u ≢ v).
    cond-false (u == v) b (slice_index_or first u (values u)) (ne_eqb u v other)
    ∙ sym (get_or-set_other first v u b (values u) other))
    (cases_eq u v)

pub complement_small : (vars w : ℕ) (f : Function) → Small vars w f → Small vars w (not_of f)
unfolding Small
complement_small vars w f small = let e : nodes vars (f ∷ []) + 2 ≤ w = small in let most : nodes vars (not_of f ∷ []) ≤ nodes vars (f ∷ []) = nodes_complement vars f in omega arith

pub complement_rough : (vars w : ℕ) (f : Function) → Rough vars w f → Rough vars w (not_of f)
unfolding AreRough
complement_rough vars w f rough = let e : nodes vars (f ∷ []) ≤ w * w = rough in let most : nodes vars (not_of f ∷ []) ≤ nodes vars (f ∷ []) = nodes_complement vars f in omega arith

nodes_cofactor : (vars : ℕ) (f : Function) (v : ℕ) (b : Bool) → v < vars → nodes vars (cofactor_of f v b ∷ []) ≤ nodes vars (f ∷ [])
nodes_cofactor vars f v b within = nodes_made vars (λ g. cofactor_of g v b) f (cofactor_of f v b) from moves (λ c. (c, λ values. refl))
  where
    halves : (first second : List Bool) → ((values : Values) (u : ℕ) → with_value (with_first first values) v b u ≡ with_first second (with_value values v b) u)
        → agree vars (fixed first (cofactor_of f v b)) (cofactor_of (fixed second f) v b) ≡ true
    halves first second same = agree_same vars (fixed first (cofactor_of f v b)) (cofactor_of (fixed second f) v b) (λ values. ap f (λ i u. same values u i))

    own : (values : Values) (u : ℕ) → u ≡ v → with_value values v b u ≡ b
    own values u is = cond-true (u == v) b (values u) (eq-eqb u v is)

    other : (values : Values) (u : ℕ) → u ≢ v → with_value values v b u ≡ values u
    other values u is_not = cond-false (u == v) b (values u) (ne_eqb u v is_not)

    from : (first : List Bool) → length first ≤ vars → (second : List Bool) × (length second ≤ vars) × (agree vars (fixed first (cofactor_of f v b)) (cofactor_of (fixed second f) v b) ≡ true)
    from first few = ⊎_elim
        (λ (inside : v < length first).
        let long : length (set first v b) ≡ length first = length-set first v b in (
          set first v b,
          omega arith,
          halves first (set first v b) (λ values u.
              set_first first v b values u inside
              ∙ ⊎_elim
              (λ (is : u ≡ v). within_at (set first v b) u (values u) (with_value values v b u) (omega arith))
              (λ (is_not : u ≢ v). ap (slice_index_or (set first v b) u) (sym (other values u is_not)))
              (cases_eq u v)),
        ))
        (λ (past : length first ≤ v). (
          first,
          few,
          halves first first (λ values u. ⊎_elim
              (λ (is : u ≡ v). own (with_first first values) u is ∙ sym (past_at first u (with_value values v b u) (omega arith) ∙ own values u is))
              (λ (is_not : u ≢ v). other (with_first first values) u is_not ∙ ap (slice_index_or first u) (sym (other values u is_not)))
              (cases_eq u v)),
        ))
        (cases_lt v (length first))

    moves : (a c : Function) → agree vars a c ≡ true → agree vars (cofactor_of a v b) (cofactor_of c v b) ≡ true
    moves a c same = agree_from vars (cofactor_of a v b) (cofactor_of c v b) (λ first long.
        let inside : v < length first = omega arith in
        ap a (λ i u. set_first first v b (λ _. false) u inside i)
        ∙ agree_each vars a c same (set first v b) (length-set first v b ∙ long)
        ∙ sym (ap c (λ i u. set_first first v b (λ _. false) u inside i)))

pub cofactor_small : (vars w : ℕ) (f : Function) (fluent : ℕ) (value : Bool) → fluent < vars → Small vars w f → Small vars w (cofactor_of f fluent value)
unfolding Small
cofactor_small vars w f fluent value within small =
    let e : nodes vars (f ∷ []) + 2 ≤ w = small in
    let most : nodes vars (cofactor_of f fluent value ∷ []) ≤ nodes vars (f ∷ []) = nodes_cofactor vars f fluent value within in
    omega arith

pub cofactor_rough : (vars w : ℕ) (f : Function) (fluent : ℕ) (value : Bool) → fluent < vars → Rough vars w f → Rough vars w (cofactor_of f fluent value)
unfolding AreRough
cofactor_rough vars w f fluent value within rough =
    let e : nodes vars (f ∷ []) ≤ w * w = rough in
    let most : nodes vars (cofactor_of f fluent value ∷ []) ≤ nodes vars (f ∷ []) = nodes_cofactor vars f fluent value within in
    omega arith

-- of a list the first values, and of another the others
over : List Bool → List Bool → List Bool
over [] ys = ys
over (x ∷ xs) [] = []
over (x ∷ xs) (y ∷ ys) = x ∷ over xs ys

length-over : (xs ys : List Bool) → length (over xs ys) ≡ length ys
unfolding over
length-over [] ys = refl
length-over (x ∷ xs) [] = refl
length-over (x ∷ xs) (y ∷ ys) = ap suc (length-over xs ys)

over_at : (xs ys : List Bool) (v : ℕ) (d : Bool) → length xs ≤ length ys → slice_index_or xs v (slice_index_or ys v d) ≡ slice_index_or (over xs ys) v d
unfolding over
over_at [] ys v d few = refl
over_at (x ∷ xs) [] v d few = absurd (omega arith)
over_at (x ∷ xs) (y ∷ ys) zero d few = refl
over_at (x ∷ xs) (y ∷ ys) (suc v) d few = over_at xs ys v d (omega arith)

-- sets that have the same vectors have the same nodes
nodes_agreeing : (vars : ℕ) (f g : Function) → ((vector : Vector) → length vector ≡ vars → f (value_of vector) ≡ g (value_of vector)) → nodes vars (g ∷ []) ≤ nodes vars (f ∷ [])
nodes_agreeing vars f g same = nodes_made vars (λ k. k) f g
    (λ first few. (
      first,
      few,
      agree_from vars (fixed first g) (fixed first f) (λ second long.
          ap g (λ i v. over_at first second v false (omega arith) i)
          ∙ sym (same (over first second) (length-over first second ∙ long))
          ∙ sym (ap f (λ i v. over_at first second v false (omega arith) i))),
    ))
    (λ a b agrees. agrees)
    (λ b. (b, λ values. refl))

pub agreeing_sized : (vars : ℕ) (f g : Function) → ((vector : Vector) → length vector ≡ vars → f (value_of vector) ≡ g (value_of vector))
    → (w : ℕ) → (Small vars w f → Small vars w g) × (Rough vars w f → Rough vars w g)
unfolding Small AreRough
agreeing_sized vars f g same w =
    let most : nodes vars (g ∷ []) ≤ nodes vars (f ∷ []) = nodes_agreeing vars f g same in (
      λ (small : nodes vars (f ∷ []) + 2 ≤ w). omega arith,
      λ (rough : nodes vars (f ∷ []) ≤ w * w). omega arith,
    )
