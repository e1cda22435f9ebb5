-- How many nodes lists of functions have together.
use Rattle.std.proofs.Common.{◌≡◌, ℕ, zero, suc, ◌+◌, ◌<◌, ◌≤◌, Bool, true, false, not, List, [], ◌∷◌, ◌++◌, length, filter, flat_map, slice_index_or, Contains, refl, ap, ◌∙◌, ⊎_elim, arith}
use Rattle.std.specs.List.{list_any, list_all}
use Rattle.std.proofs.lemmas.Bool.{cases_Bool, both_ways, or_left, or_right, or_from, and_parts, and_from, cond-true, cond-false, not-true, not_from_true, not_from_false, false_from_ne_true}
use Rattle.std.proofs.lemmas.List.Folds.{list_all-append, list_any-append}
use Rattle.std.proofs.lemmas.List.Elements.{filter-append}
use Rattle.std.proofs.lemmas.List.Concat.{flat_map-append}
use Rattle.list_laws.proofs.Elements.{list_any-from}
use Rattle.dd_nodes.specs.Subfunctions.{Function, agree, constants, nodes, nodes_beside, subfunctions}
use Rattle.dd_nodes.proofs.Agreement.{agree_chain, agree_same, agree_turn, any_flat_map}
use Rattle.dd_nodes.proofs.Counting.{count, count-new, count-nil, count-there, any_weaker, any_filter, covered, pigeonhole, firsts, firsts_all, firsts_apart, length-firsts}
use Rattle.dd_nodes.proofs.NodeCount.{count_is}

-- a list whose elements each are the same as one of another list has no more different elements
module _ {A : Type 0} (same : A → A → Bool) (turn : (a b : A) → same a b ≡ true → same b a ≡ true) (chain : (a b c : A) → same a b ≡ true → same b c ≡ true → same a c ≡ true) where
  pub count_fewer : (xs ys : List A) → covered same ys xs ≡ true → count same xs ≤ count same ys
  count_fewer xs ys cover = omega (
    arith,
    length-firsts same turn chain xs,
    pigeonhole same turn chain ys (firsts same turn chain xs) (firsts_apart same turn chain xs) (firsts_all same turn chain (λ x. list_any (same x) ys) xs cover),
  )

  -- two lists of which no element of the first is the same as one of the second
  pub count_both : (xs ys : List A) → list_all (λ x. not (list_any (same x) ys)) xs ≡ true → count same (xs ++ ys) ≡ count same xs + count same ys
  count_both [] ys apart = omega (arith, count-nil same)
  count_both (x ∷ xs) ys apart =
      let parts = and_parts (not (list_any (same x) ys)) (list_all (λ z. not (list_any (same z) ys)) xs) apart in
      let rest : count same (xs ++ ys) ≡ count same xs + count same ys = count_both xs ys parts.1 in
      let none : list_any (same x) ys ≡ false = false_from_ne_true (list_any (same x) ys) (λ e. both_ways (not (list_any (same x) ys)) (not_from_true (list_any (same x) ys) e) parts.0) in
      ⊎_elim
      (λ (there : list_any (same x) xs ≡ true).
      let both : list_any (same x) (xs ++ ys) ≡ true = list_any-append (same x) xs ys ∙ or_left (list_any (same x) xs) (list_any (same x) ys) there in
      omega (arith, count-there same x (xs ++ ys) both, count-there same x xs there, rest))
      (λ (new : list_any (same x) xs ≡ false).
      let both : list_any (same x) (xs ++ ys) ≡ false = list_any-append (same x) xs ys ∙ or_from (list_any (same x) xs) (list_any (same x) ys) new none in
      omega (arith, count-new same x (xs ++ ys) both, count-new same x xs new, rest))
      (cases_Bool (list_any (same x) xs))

-- what each element of a list passes
all_here : {A : Type 0} (p : A → Bool) (xs : List A) → ((k : ℕ) (x : A) → k < length xs → slice_index_or xs k x ≡ x → p x ≡ true) → list_all p xs ≡ true
all_here p [] each = refl
all_here p (x ∷ xs) each = and_from (p x) (list_all p xs) (each zero x (omega arith) refl) (all_here p xs (λ k y within at. each (suc k) y (omega arith) at))

-- what each element of a filter passes
all_kept : {A : Type 0} (p keep : A → Bool) (xs : List A) → list_all p xs ≡ true → list_all p (filter keep xs) ≡ true
all_kept p keep [] all = refl
all_kept p keep (x ∷ xs) all =
    let parts = and_parts (p x) (list_all p xs) all in
    let rest : list_all p (filter keep xs) ≡ true = all_kept p keep xs parts.1 in
    ⊎_elim
    (λ (kept : keep x ≡ true). ap (list_all p) (cond-true (keep x) (x ∷ filter keep xs) (filter keep xs) kept) ∙ and_from (p x) (list_all p (filter keep xs)) parts.0 rest)
    (λ (left : keep x ≡ false). ap (list_all p) (cond-false (keep x) (x ∷ filter keep xs) (filter keep xs) left) ∙ rest)
    (cases_Bool (keep x))

all_mapped : {X A : Type 0} (p : A → Bool) (h : X → List A) (xs : List X) → ((k : ℕ) (x : X) → k < length xs → slice_index_or xs k x ≡ x → list_all p (h x) ≡ true) → list_all p (flat_map h xs) ≡ true
all_mapped p h [] each = refl
all_mapped p h (x ∷ xs) each =
    list_all-append p (h x) (flat_map h xs)
    ∙ and_from (list_all p (h x)) (list_all p (flat_map h xs)) (each zero x (omega arith) refl) (all_mapped p h xs (λ k y within at. each (suc k) y (omega arith) at))

-- a filter by a weaker test, and of a longer list, covers
filter_covered : {A : Type 0} (same : A → A → Bool) → ((a : A) → same a a ≡ true) → (keep more : A → Bool) → ((x : A) → keep x ≡ true → more x ≡ true) → ((a b : A) → same a b ≡ true → more a ≡ true → more b ≡ true)
    → (xs ys : List A) → list_all (λ x. list_any (same x) ys) xs ≡ true → covered same (filter more ys) (filter keep xs) ≡ true
filter_covered same self keep more weaker moves [] ys all = refl
filter_covered {A} same self keep more weaker moves (x ∷ xs) ys all =
    let parts = and_parts (list_any (same x) ys) (list_all (λ z. list_any (same z) ys) xs) all in
    let rest : covered same (filter more ys) (filter keep xs) ≡ true = filter_covered same self keep more weaker moves xs ys parts.1 in
    ⊎_elim
    (λ (kept : keep x ≡ true).
    let here : list_any (same x) (filter more ys) ≡ true = any_filter (same x) more ys (λ y e. moves x y e (weaker x kept)) parts.0 in
    ap (covered same (filter more ys)) (cond-true (keep x) (x ∷ filter keep xs) (filter keep xs) kept) ∙ and_from (list_any (same x) (filter more ys)) (covered same (filter more ys) (filter keep xs)) here rest)
    (λ (left : keep x ≡ false). ap (covered same (filter more ys)) (cond-false (keep x) (x ∷ filter keep xs) (filter keep xs) left) ∙ rest)
    (cases_Bool (keep x))

module _ (vars : ℕ) where
  pub self : (f : Function) → agree vars f f ≡ true
  self f = agree_same vars f f (λ values. refl)

  -- whether a function agrees with none of a list
  unfoldable pub beside : List Function → Function → Bool
  beside known g = not (list_any (agree vars g) known)

  pub beside_moves : (known : List Function) (f g : Function) → agree vars f g ≡ true → beside known f ≡ true → beside known g ≡ true
  unfolding beside
  beside_moves known f g same apart = not_from_false (list_any (agree vars g) known) (false_from_ne_true (list_any (agree vars g) known) (λ e.
      both_ways (list_any (agree vars f) known) (not-true (list_any (agree vars f) known) apart)
      (any_weaker (agree vars g) (agree vars f) (λ h there. agree_chain vars f g h same there) known e)))

  -- the different functions beside the known ones
  pub counted : (known fs : List Function) → nodes_beside vars known fs ≡ count (agree vars) (filter (beside known) (flat_map (subfunctions vars) fs))
  unfolding nodes_beside beside
  counted known fs = count_is vars (filter (beside known) (flat_map (subfunctions vars) fs))

  -- each subfunction of one list is one of the other
  Within : List Function → List Function → Type 0
  Within few many = list_all (λ g. list_any (agree vars g) (flat_map (subfunctions vars) many)) (flat_map (subfunctions vars) few) ≡ true

  contained : (few many : List Function) → ((f : Function) → Contains few f → Contains many f) → Within few many
  unfolding Within
  contained few many each = all_mapped (λ g. list_any (agree vars g) (flat_map (subfunctions vars) many)) (subfunctions vars) few
      (λ k f within at.
      let there = each f (k, within, at) in
      all_here (λ g. list_any (agree vars g) (flat_map (subfunctions vars) many)) (subfunctions vars f) (λ j g inside same.
      any_flat_map (agree vars g) (subfunctions vars) many there.0 f there.1 there.2 (list_any-from (agree vars g) (subfunctions vars f) g (j, inside, same) (self g))))

  -- functions each of which is in another list have no more nodes than that
  pub nodes_fewer : (few many : List Function) → ((f : Function) → Contains few f → Contains many f) → nodes vars few ≤ nodes vars many
  unfolding Within
  nodes_fewer few many each =
      let cover = filter_covered (agree vars) self (beside constants) (beside constants) (λ x e. e) (beside_moves constants) (flat_map (subfunctions vars) few) (flat_map (subfunctions vars) many) (contained few many each) in
      omega (
        arith,
        counted constants few,
        counted constants many,
        count_fewer (agree vars) (agree_turn vars) (agree_chain vars) (filter (beside constants) (flat_map (subfunctions vars) few)) (filter (beside constants) (flat_map (subfunctions vars) many)) cover,
      )

  -- functions whose subfunctions are all known have, with others, as many nodes as they have and the
  -- others have beside what is known
  pub nodes_with_known : (known fs gs : List Function) → ((b : Function) → list_any (agree vars b) constants ≡ true → list_any (agree vars b) known ≡ true)
      → list_all (λ g. list_any (agree vars g) known) (flat_map (subfunctions vars) fs) ≡ true
      → nodes vars fs + nodes_beside vars known gs ≤ nodes vars (fs ++ gs)
  unfolding beside
  nodes_with_known known fs gs constant all =
      let same = agree vars in
      let xs : List Function = flat_map (subfunctions vars) fs in
      let ys : List Function = flat_map (subfunctions vars) gs in
      let shape : filter (beside constants) (flat_map (subfunctions vars) (fs ++ gs)) ≡ filter (beside constants) xs ++ filter (beside constants) ys =
      ap (filter (beside constants)) (flat_map-append (subfunctions vars) fs gs) ∙ filter-append (beside constants) xs ys in
      let first : covered same (filter (beside constants) xs) (filter (beside constants) xs) ≡ true =
      filter_covered same self (beside constants) (beside constants) (λ x e. e) (beside_moves constants) xs xs (in_itself xs) in
      let second : covered same (filter (beside constants) ys) (filter (beside known) ys) ≡ true =
      filter_covered same self (beside known) (beside constants) not_constant (beside_moves constants) ys ys (in_itself ys) in
      let cover : covered same (filter (beside constants) xs ++ filter (beside constants) ys) (filter (beside constants) xs ++ filter (beside known) ys) ≡ true =
      list_all-append (λ g. list_any (same g) (filter (beside constants) xs ++ filter (beside constants) ys)) (filter (beside constants) xs) (filter (beside known) ys)
      ∙ and_from (covered same (filter (beside constants) xs ++ filter (beside constants) ys) (filter (beside constants) xs)) (covered same (filter (beside constants) xs ++ filter (beside constants) ys) (filter (beside known) ys))
      (cover_left (filter (beside constants) xs) (filter (beside constants) ys) (filter (beside constants) xs) first)
      (cover_right (filter (beside constants) xs) (filter (beside constants) ys) (filter (beside known) ys) second) in
      omega (
        arith,
        counted constants fs,
        counted known gs,
        counted constants (fs ++ gs),
        ap (count same) shape,
        count_fewer same (agree_turn vars) (agree_chain vars) (filter (beside constants) xs ++ filter (beside known) ys) (filter (beside constants) xs ++ filter (beside constants) ys) cover,
        count_both same (agree_turn vars) (agree_chain vars) (filter (beside constants) xs) (filter (beside known) ys) (all_kept (λ g. not (list_any (same g) (filter (beside known) ys))) (beside constants) xs (known_apart xs all ys)),
      )
    where
      in_itself : (zs : List Function) → list_all (λ g. list_any (agree vars g) zs) zs ≡ true
      in_itself zs = all_here (λ g. list_any (agree vars g) zs) zs (λ k g within at. list_any-from (agree vars g) zs g (k, within, at) (self g))

      not_constant : (g : Function) → beside known g ≡ true → beside constants g ≡ true
      not_constant g apart = not_from_false (list_any (agree vars g) constants) (false_from_ne_true (list_any (agree vars g) constants) (λ e.
          both_ways (list_any (agree vars g) known) (not-true (list_any (agree vars g) known) apart) (constant g e)))

      cover_left : (xs ys zs : List Function) → covered (agree vars) xs zs ≡ true → covered (agree vars) (xs ++ ys) zs ≡ true
      cover_left xs ys [] cover = refl
      cover_left xs ys (z ∷ zs) cover =
          let parts = and_parts (list_any (agree vars z) xs) (covered (agree vars) xs zs) cover in
          and_from (list_any (agree vars z) (xs ++ ys)) (covered (agree vars) (xs ++ ys) zs)
          (list_any-append (agree vars z) xs ys ∙ or_left (list_any (agree vars z) xs) (list_any (agree vars z) ys) parts.0) (cover_left xs ys zs parts.1)

      cover_right : (xs ys zs : List Function) → covered (agree vars) ys zs ≡ true → covered (agree vars) (xs ++ ys) zs ≡ true
      cover_right xs ys [] cover = refl
      cover_right xs ys (z ∷ zs) cover =
          let parts = and_parts (list_any (agree vars z) ys) (covered (agree vars) ys zs) cover in
          and_from (list_any (agree vars z) (xs ++ ys)) (covered (agree vars) (xs ++ ys) zs)
          (list_any-append (agree vars z) xs ys ∙ or_right (list_any (agree vars z) xs) (list_any (agree vars z) ys) parts.0) (cover_right xs ys zs parts.1)

      -- a known function agrees with none that is beside the known ones
      none_beside : (g : Function) → list_any (agree vars g) known ≡ true → (ys : List Function) → list_any (agree vars g) (filter (beside known) ys) ≡ false
      none_beside g is_known [] = refl
      none_beside g is_known (y ∷ ys) = ⊎_elim
          (λ (kept : beside known y ≡ true).
          let apart : agree vars g y ≡ false = false_from_ne_true (agree vars g y) (λ e. both_ways (list_any (agree vars y) known) (not-true (list_any (agree vars y) known) kept)
          (any_weaker (agree vars g) (agree vars y) (λ h there. agree_chain vars y g h (agree_turn vars g y e) there) known is_known)) in
          ap (list_any (agree vars g)) (cond-true (beside known y) (y ∷ filter (beside known) ys) (filter (beside known) ys) kept) ∙ or_from (agree vars g y) (list_any (agree vars g) (filter (beside known) ys)) apart (none_beside g is_known ys))
          (λ (left : beside known y ≡ false). ap (list_any (agree vars g)) (cond-false (beside known y) (y ∷ filter (beside known) ys) (filter (beside known) ys) left) ∙ none_beside g is_known ys)
          (cases_Bool (beside known y))

      known_apart : (xs : List Function) → list_all (λ g. list_any (agree vars g) known) xs ≡ true → (ys : List Function) → list_all (λ g. not (list_any (agree vars g) (filter (beside known) ys))) xs ≡ true
      known_apart [] all ys = refl
      known_apart (x ∷ xs) all ys =
          let parts = and_parts (list_any (agree vars x) known) (list_all (λ g. list_any (agree vars g) known) xs) all in
          and_from (not (list_any (agree vars x) (filter (beside known) ys))) (list_all (λ g. not (list_any (agree vars g) (filter (beside known) ys))) xs)
          (not_from_false (list_any (agree vars x) (filter (beside known) ys)) (none_beside x parts.0 ys)) (known_apart xs parts.1 ys)
