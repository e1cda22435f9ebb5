-- How many nodes the pieces of a substitution have: each of their subfunctions is a variable, or one
-- of what a subfunction of the set becomes.
use Rattle.std.proofs.Common.{◌≡◌, ℕ, ◌+◌, ◌-◌, ◌*◌, ◌≤◌, Bool, true, not, ◌&&◌, List, [], ◌∷◌, ◌++◌, length, map, filter, flat_map, slice_index_or, refl, sym, ap, subst, ⊎_elim, arith, length-append, mul-le-mul_right}
use Rattle.std.specs.List.{All, list_any, range_with_len}
use Rattle.std.proofs.lemmas.List.Elements.{All-contains, All-head, All-map, All-tail}
use Rattle.std.proofs.lemmas.List.FromFn.{length-range_with_len}
use Rattle.list_laws.proofs.Elements.{list_any-witness}
use Rattle.dd_nodes.specs.NodeList.{Values}
use Rattle.dd_nodes.specs.Subfunctions.{Function, DependsOnly, IsSubfunction, agree, constants, fixed, nodes, subfunctions, with_first}
use Rattle.dd_nodes.proofs.Agreement.{agree_chain, agree_same, agree_values, any_flat_map}
use Rattle.dd_nodes.proofs.Counting.{any_weaker}
use Rattle.dd_ops.proofs.GrowthBounds.{grow_each, grow_variable, length-filter_within}
use Rattle.dd_ops.specs.Growth.{depends_on, grow, subst_pieces}
use Rattle.dd_ops.specs.Operations.{variable}
use Rattle.dd_sets.specs.Rooms.{Small, AreRough}
use Rattle.dd_sets.proofs.CountLemmas.{beside, beside_moves}
use Rattle.dd_sets.proofs.KindLemmas.{covered_nodes, in_kinds, is_constant, kinds, kinds_all, known_or_kind, length-kinds, not_both, subfunctions_all, which_constant}
use Rattle.dd_sets.proofs.SizeLemmas.{nodes-append}
use Rattle.dd_sets.proofs.TightLemmas.{nodes_grow}

-- lists of at most so many elements each
length-within : {X A : Type 0} (h : X → List A) (most : ℕ) (xs : List X) → All (λ x. length (h x) ≤ most) xs → length (flat_map h xs) ≤ length xs * most
length-within h most [] all = omega arith
length-within h most (x ∷ xs) all =
    let here : length (h x) ≤ most = All-head (λ y. length (h y) ≤ most) x xs all in
    let rest : length (flat_map h xs) ≤ length xs * most = length-within h most xs (All-tail (λ y. length (h y) ≤ most) x xs all) in
    omega (arith, length-append (h x) (flat_map h xs))

depends_fixed : (vars : ℕ) (f : Function) (first : List Bool) → DependsOnly 0 vars f → DependsOnly 0 vars (fixed first f)
depends_fixed vars f first depends s t same = depends (with_first first s) (with_first first t) (λ u low within. ap (slice_index_or first u) (same u low within))

square_within : (few most vars w all : ℕ) → few ≤ most → vars ≤ most → most + 2 ≡ w → all ≤ few * most + vars → all ≤ w * w
square_within few most vars w all less narrow wide within =
    let square : few * most ≤ most * most = mul-le-mul_right most less in
    let e : w * w ≡ (most + 2) * (most + 2) = ap (λ n. n * n) (sym wide) in
    omega arith

module _ (vars w : ℕ) (set : Function) (replaced : Values → Values) (wide : vars + 2 ≤ w) (fluents : DependsOnly 0 vars set)
    (images : (g : Function) → IsSubfunction vars set g → Small vars w (λ values. g (replaced values))) where
  image : Function → Function
  image g values = g (replaced values)

  of_images : List Function
  of_images = flat_map (λ k. kinds vars (image k)) (kinds vars set)

  length-of_images : length of_images ≤ nodes vars (set ∷ []) * (w - 2)
  unfolding of_images image Small
  length-of_images = subst (λ n. length of_images ≤ n * (w - 2)) (length-kinds vars set)
      (length-within (λ k. kinds vars (image k)) (w - 2) (kinds vars set)
      (kinds_all vars (λ k. length (kinds vars (image k)) ≤ w - 2) set (λ first few.
      let small : nodes vars (image (fixed first set) ∷ []) + 2 ≤ w = images (fixed first set) (record { first = first; few = few; fixes = λ values. refl }) in
      omega (arith, length-kinds vars (image (fixed first set))))))

  -- a subfunction of what a subfunction becomes is there
  image_covered : (first : List Bool) → length first ≤ vars → (second : List Bool) → length second ≤ vars → beside vars constants (fixed second (image (fixed first set))) ≡ true
      → list_any (agree vars (fixed second (image (fixed first set)))) of_images ≡ true
  unfolding of_images image
  image_covered first few second short apart =
      let g : Function = fixed first set in
      let depends : DependsOnly 0 vars g = depends_fixed vars set first fluents in
      ⊎_elim
      (λ (known : list_any (agree vars g) constants ≡ true).
      let which = which_constant vars g known in
      absurd (not_both vars (fixed second (image g))
      (is_constant vars (fixed second (image g)) which.0 (agree_same vars (fixed second (image g)) (λ _. which.0)
      (λ values. agree_values vars g (λ _. which.0) depends (λ s t same. refl) which.1 (replaced (with_first second values)))))
      apart))
      (λ (kind : beside vars constants g ≡ true).
      let k = list_any-witness (agree vars g) (kinds vars set) (in_kinds vars set first few kind) in
      let depends_k : DependsOnly 0 vars k.0 = All-contains (DependsOnly 0 vars) (kinds vars set) k.0 (kinds_all vars (DependsOnly 0 vars) set (λ other _. depends_fixed vars set other fluents)) k.1 in
      let same : agree vars (fixed second (image g)) (fixed second (image k.0)) ≡ true = agree_same vars (fixed second (image g)) (fixed second (image k.0))
      (λ values. agree_values vars g k.0 depends depends_k k.2 (replaced (with_first second values))) in
      any_flat_map (agree vars (fixed second (image g))) (λ x. kinds vars (image x)) (kinds vars set) k.1.0 k.0 k.1.1 k.1.2
      (any_weaker (agree vars (fixed second (image k.0))) (agree vars (fixed second (image g))) (λ y e. agree_chain vars (fixed second (image g)) (fixed second (image k.0)) y same e) (kinds vars (image k.0))
      (in_kinds vars (image k.0) second short (beside_moves vars constants (fixed second (image g)) (fixed second (image k.0)) same apart))))
      (known_or_kind vars g)

  nodes_of_images : nodes vars (map (λ g values. g (replaced values)) (subfunctions vars set)) ≤ length of_images
  unfolding image
  nodes_of_images = covered_nodes vars (map image (subfunctions vars set)) of_images
      (All-map Each image (subfunctions vars set) (subfunctions_all vars (λ g. Each (image g)) set (λ first few second short apart. image_covered first few second short apart)))
    where
      Each : Function → Type 0
      Each f = (first : List Bool) → length first ≤ vars → beside vars constants (fixed first f) ≡ true → list_any (agree vars (fixed first f)) of_images ≡ true

  pub subst_few : (is_listed : ℕ → Bool) → Small vars w set → AreRough vars w (subst_pieces vars set is_listed replaced)
  unfolding subst_pieces Small AreRough
  subst_few is_listed small =
      let few : nodes vars (set ∷ []) + 2 ≤ w = small in
      let results : nodes vars (map (λ g values. g (replaced values)) (subfunctions vars set)) ≤ length of_images = nodes_of_images in
      let long : length of_images ≤ nodes vars (set ∷ []) * (w - 2) = length-of_images in
      let of_variables : grow vars [] (map variable seen) ≤ length seen * 1 = grow_each vars [] variable 1 (grow_variable vars []) seen in
      let is : nodes vars (map variable seen) ≡ grow vars [] (map variable seen) = nodes_grow vars (map variable seen) in
      let narrow : length seen ≤ vars = omega (arith, length-filter_within (λ v. depends_on vars set v && not (is_listed v)) (range_with_len 0 vars), length-range_with_len 0 vars) in
      let both = nodes-append vars (map (λ g values. g (replaced values)) (subfunctions vars set)) (map variable seen) in
      square_within (nodes vars (set ∷ [])) (w - 2) vars w (nodes vars (map (λ g values. g (replaced values)) (subfunctions vars set) ++ map variable seen)) (omega arith) (omega arith) (omega arith) (omega (arith, both))
    where
      seen : List ℕ
      seen = filter (λ v. depends_on vars set v && not (is_listed v)) (range_with_len 0 vars)

pub subst_rough : (vars w : ℕ) (set : Function) (is_listed : ℕ → Bool) (replaced : Values → Values) → vars + 2 ≤ w → DependsOnly 0 vars set → Small vars w set
    → ((g : Function) → IsSubfunction vars set g → Small vars w (λ values. g (replaced values))) → AreRough vars w (subst_pieces vars set is_listed replaced)
subst_rough vars w set is_listed replaced wide fluents small images = subst_few vars w set replaced wide fluents images is_listed small
