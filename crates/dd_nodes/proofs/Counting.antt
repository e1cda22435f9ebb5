-- Counting up to a test of sameness: as many elements as are pairwise not the same, and each the
-- same as one of a list, the list has different elements.
use Rattle.std.proofs.Common.{◌≡◌, ℕ, suc, subst, ◌+◌, ◌≤◌, Bool, true, false, not, List, [], ◌∷◌, ◌++◌, length, filter, if◌then◌else◌, refl, sym, ap, ◌∙◌, ⊎_elim, arith}
use Rattle.std.specs.List.{list_any, list_all}
use Rattle.std.proofs.lemmas.List.Folds.{list_any-append}
use Rattle.std.proofs.lemmas.Bool.{cases_Bool, both_ways, or_cases, or_parts, or_left, or_right, or_from, and_parts, and_from, cond-true, cond-false, false≢true, not_from_true, not_from_false, false_from_ne_true}

-- how many different elements a list has
unfoldable pub count : {A : Type 0} → (A → A → Bool) → List A → ℕ
count same [] = 0
count same (x ∷ xs) = if list_any (same x) xs then count same xs else count same xs + 1

module _ {A : Type 0} where
  pub any_weaker : (p q : A → Bool) → ((x : A) → p x ≡ true → q x ≡ true) → (xs : List A) → list_any p xs ≡ true → list_any q xs ≡ true
  any_weaker p q weaker [] some = some
  any_weaker p q weaker (x ∷ xs) some = ⊎_elim
      (λ (here : p x ≡ true). or_left (q x) (list_any q xs) (weaker x here))
      (λ (later : list_any p xs ≡ true). or_right (q x) (list_any q xs) (any_weaker p q weaker xs later))
      (or_cases (p x) (list_any p xs) some)

  pub all_weaker : (p q : A → Bool) → ((x : A) → p x ≡ true → q x ≡ true) → (xs : List A) → list_all p xs ≡ true → list_all q xs ≡ true
  all_weaker p q weaker [] all = all
  all_weaker p q weaker (x ∷ xs) all =
      let parts = and_parts (p x) (list_all p xs) all in
      and_from (q x) (list_all q xs) (weaker x parts.0) (all_weaker p q weaker xs parts.1)

  -- no element of a filter passes a test that no element of the list passes
  pub any_filter_none : (p keep : A → Bool) (xs : List A) → list_any p xs ≡ false → list_any p (filter keep xs) ≡ false
  any_filter_none p keep [] none = none
  any_filter_none p keep (x ∷ xs) none =
      let parts = or_parts (p x) (list_any p xs) none in
      let rest : list_any p (filter keep xs) ≡ false = any_filter_none p keep xs parts.1 in
      ⊎_elim
      (λ (kept : keep x ≡ true). ap (list_any p) (cond-true (keep x) (x ∷ filter keep xs) (filter keep xs) kept) ∙ or_from (p x) (list_any p (filter keep xs)) parts.0 rest)
      (λ (left : keep x ≡ false). ap (list_any p) (cond-false (keep x) (x ∷ filter keep xs) (filter keep xs) left) ∙ rest)
      (cases_Bool (keep x))

  -- an element that passes both tests stands in the filter
  pub any_filter : (p keep : A → Bool) (xs : List A) → ((x : A) → p x ≡ true → keep x ≡ true) → list_any p xs ≡ true → list_any p (filter keep xs) ≡ true
  any_filter p keep [] passes some = some
  any_filter p keep (x ∷ xs) passes some = ⊎_elim
      (λ (here : p x ≡ true).
      ap (list_any p) (cond-true (keep x) (x ∷ filter keep xs) (filter keep xs) (passes x here)) ∙ or_left (p x) (list_any p (filter keep xs)) here)
      (λ (later : list_any p xs ≡ true).
      let rest : list_any p (filter keep xs) ≡ true = any_filter p keep xs passes later in
      ⊎_elim
      (λ (kept : keep x ≡ true). ap (list_any p) (cond-true (keep x) (x ∷ filter keep xs) (filter keep xs) kept) ∙ or_right (p x) (list_any p (filter keep xs)) rest)
      (λ (left : keep x ≡ false). ap (list_any p) (cond-false (keep x) (x ∷ filter keep xs) (filter keep xs) left) ∙ rest)
      (cases_Bool (keep x)))
      (or_cases (p x) (list_any p xs) some)

module _ {A : Type 0} (same : A → A → Bool) where
  -- no two elements are the same
  abbrev pub Apart : List A → Type 0
  Apart [] = Unit {0}
  Apart (x ∷ xs) = (list_any (same x) xs ≡ false) × Apart xs

  -- each element is the same as one of the other list
  abbrev pub covered : List A → List A → Bool
  covered ys xs = list_all (λ x. list_any (same x) ys) xs

  pub count-there : (x : A) (xs : List A) → list_any (same x) xs ≡ true → count same (x ∷ xs) ≡ count same xs
  unfolding count
  count-there x xs there = cond-true (list_any (same x) xs) (count same xs) (count same xs + 1) there

  pub count-new : (x : A) (xs : List A) → list_any (same x) xs ≡ false → count same (x ∷ xs) ≡ count same xs + 1
  unfolding count
  count-new x xs new = cond-false (list_any (same x) xs) (count same xs) (count same xs + 1) new

  pub count-nil : count same [] ≡ 0
  unfolding count
  count-nil = refl

  -- a list has no more different elements than elements
  pub count_within : (xs : List A) → count same xs ≤ length xs
  count_within [] = omega (arith, count-nil)
  count_within (x ∷ xs) =
      let rest : count same xs ≤ length xs = count_within xs in
      ⊎_elim
      (λ (there : list_any (same x) xs ≡ true). omega (arith, count-there x xs there))
      (λ (new : list_any (same x) xs ≡ false). omega (arith, count-new x xs new))
      (cases_Bool (list_any (same x) xs))

  -- the different elements of two lists together
  pub count-append : (xs ys : List A) → count same (xs ++ ys) ≤ count same xs + count same ys
  count-append [] ys = omega arith
  count-append (x ∷ xs) ys =
      let rest : count same (xs ++ ys) ≤ count same xs + count same ys = count-append xs ys in
      ⊎_elim
      (λ (there : list_any (same x) (xs ++ ys) ≡ true).
      let more : count same xs ≤ count same (x ∷ xs) = count_more x xs in
      omega (arith, count-there x (xs ++ ys) there))
      (λ (new : list_any (same x) (xs ++ ys) ≡ false).
      let parts = or_parts (list_any (same x) xs) (list_any (same x) ys) (sym (list_any-append (same x) xs ys) ∙ new) in
      omega (arith, count-new x (xs ++ ys) new, count-new x xs parts.0))
      (cases_Bool (list_any (same x) (xs ++ ys)))
    where
      count_more : (x : A) (xs : List A) → count same xs ≤ count same (x ∷ xs)
      count_more x xs = ⊎_elim
          (λ (there : list_any (same x) xs ≡ true). omega (arith, count-there x xs there))
          (λ (new : list_any (same x) xs ≡ false). omega (arith, count-new x xs new))
          (cases_Bool (list_any (same x) xs))

  -- sameness is symmetric and transitive
  module _ (turn : (a b : A) → same a b ≡ true → same b a ≡ true) (chain : (a b c : A) → same a b ≡ true → same b c ≡ true → same a c ≡ true) where
    apart_filter : (keep : A → Bool) (xs : List A) → Apart xs → Apart (filter keep xs)
    apart_filter keep [] apart = apart
    apart_filter keep (x ∷ xs) apart = ⊎_elim
        (λ (kept : keep x ≡ true). subst Apart (sym (cond-true (keep x) (x ∷ filter keep xs) (filter keep xs) kept))
        (any_filter_none (same x) keep xs apart.0, apart_filter keep xs apart.1))
        (λ (left : keep x ≡ false). subst Apart (sym (cond-false (keep x) (x ∷ filter keep xs) (filter keep xs) left)) (apart_filter keep xs apart.1))
        (cases_Bool (keep x))

    -- all but the elements that are the same as y
    others : A → List A → List A
    others y xs = filter (λ x. not (same x y)) xs

    -- elements that are not the same as x, which is the same as y, all stay
    others_all : (x y : A) → same x y ≡ true → (xs : List A) → list_any (same x) xs ≡ false → length (others y xs) ≡ length xs
    unfolding others
    others_all x y here [] none = refl
    others_all x y here (z ∷ zs) none =
        let parts = or_parts (same x z) (list_any (same x) zs) none in
        let apart : same z y ≡ false = false_from_ne_true (same z y) (λ e. both_ways (same x z) parts.0 (chain x y z here (turn z y e))) in
        let kept : not (same z y) ≡ true = not_from_false (same z y) apart in
        ap length (cond-true (not (same z y)) (z ∷ others y zs) (others y zs) kept) ∙ ap suc (others_all x y here zs parts.1)

    -- at most one element is left out
    others_most : (y : A) (xs : List A) → Apart xs → length xs ≤ length (others y xs) + 1
    unfolding others
    others_most y [] apart = omega arith
    others_most y (x ∷ xs) apart = ⊎_elim
        (λ (here : same x y ≡ true).
        let left : length (others y (x ∷ xs)) ≡ length (others y xs) = ap length (cond-false (not (same x y)) (x ∷ others y xs) (others y xs) (not_from_true (same x y) here)) in
        omega (arith, others_all x y here xs apart.0))
        (λ (apart_y : same x y ≡ false).
        let kept : length (others y (x ∷ xs)) ≡ suc (length (others y xs)) = ap length (cond-true (not (same x y)) (x ∷ others y xs) (others y xs) (not_from_false (same x y) apart_y)) in
        let rest : length xs ≤ length (others y xs) + 1 = others_most y xs apart.1 in
        omega arith)
        (cases_Bool (same x y))

    -- the others are covered by the rest of the list
    others_covered : (y : A) (ys xs : List A) → covered (y ∷ ys) xs ≡ true → covered ys (others y xs) ≡ true
    unfolding others
    others_covered y ys [] cover = cover
    others_covered y ys (x ∷ xs) cover =
        let parts = and_parts (list_any (same x) (y ∷ ys)) (covered (y ∷ ys) xs) cover in
        let rest : covered ys (others y xs) ≡ true = others_covered y ys xs parts.1 in
        ⊎_elim
        (λ (here : same x y ≡ true).
        ap (covered ys) (cond-false (not (same x y)) (x ∷ others y xs) (others y xs) (not_from_true (same x y) here)) ∙ rest)
        (λ (apart : same x y ≡ false).
        let later : list_any (same x) ys ≡ true = ⊎_elim
        (λ (here : same x y ≡ true). absurd (both_ways (same x y) apart here))
        (λ (later : list_any (same x) ys ≡ true). later)
        (or_cases (same x y) (list_any (same x) ys) parts.0) in
        ap (covered ys) (cond-true (not (same x y)) (x ∷ others y xs) (others y xs) (not_from_false (same x y) apart))
        ∙ and_from (list_any (same x) ys) (covered ys (others y xs)) later rest)
        (cases_Bool (same x y))

    others_apart : (y : A) (xs : List A) → Apart xs → Apart (others y xs)
    unfolding others
    others_apart y xs apart = apart_filter (λ x. not (same x y)) xs apart

    -- pairwise different elements, each the same as one of the list, are no more than the different
    -- elements of the list
    pub pigeonhole : (ys xs : List A) → Apart xs → covered ys xs ≡ true → length xs ≤ count same ys
    pigeonhole [] [] apart cover = omega arith
    pigeonhole [] (x ∷ xs) apart cover = absurd (false≢true cover)
    pigeonhole (y ∷ ys) xs apart cover = ⊎_elim
        (λ (there : list_any (same y) ys ≡ true).
        let step = λ (x : A) (some : list_any (same x) (y ∷ ys) ≡ true). ⊎_elim
        (λ (here : same x y ≡ true). any_weaker (same y) (same x) (λ z e. chain x y z here e) ys there)
        (λ (later : list_any (same x) ys ≡ true). later)
        (or_cases (same x y) (list_any (same x) ys) some) in
        let rest : length xs ≤ count same ys = pigeonhole ys xs apart (all_weaker (λ x. list_any (same x) (y ∷ ys)) (λ x. list_any (same x) ys) step xs cover) in
        omega (arith, count-there y ys there))
        (λ (new : list_any (same y) ys ≡ false).
        let rest : length (others y xs) ≤ count same ys = pigeonhole ys (others y xs) (others_apart y xs apart) (others_covered y ys xs cover) in
        omega (arith, count-new y ys new, others_most y xs apart))
        (cases_Bool (list_any (same y) ys))

    -- the first of each group of elements that are the same
    pub firsts : List A → List A
    firsts [] = []
    firsts (x ∷ xs) = if list_any (same x) xs then firsts xs else x ∷ firsts xs

    pub firsts-nil : firsts [] ≡ []
    unfolding firsts
    firsts-nil = refl

    pub firsts-there : (x : A) (xs : List A) → list_any (same x) xs ≡ true → firsts (x ∷ xs) ≡ firsts xs
    unfolding firsts
    firsts-there x xs there = cond-true (list_any (same x) xs) (firsts xs) (x ∷ firsts xs) there

    pub firsts-new : (x : A) (xs : List A) → list_any (same x) xs ≡ false → firsts (x ∷ xs) ≡ x ∷ firsts xs
    unfolding firsts
    firsts-new x xs new = cond-false (list_any (same x) xs) (firsts xs) (x ∷ firsts xs) new

    firsts_none : (p : A → Bool) (xs : List A) → list_any p xs ≡ false → list_any p (firsts xs) ≡ false
    unfolding firsts
    firsts_none p [] none = none
    firsts_none p (x ∷ xs) none =
        let parts = or_parts (p x) (list_any p xs) none in
        let rest : list_any p (firsts xs) ≡ false = firsts_none p xs parts.1 in
        ⊎_elim
        (λ (there : list_any (same x) xs ≡ true). ap (list_any p) (firsts-there x xs there) ∙ rest)
        (λ (new : list_any (same x) xs ≡ false). ap (list_any p) (firsts-new x xs new) ∙ or_from (p x) (list_any p (firsts xs)) parts.0 rest)
        (cases_Bool (list_any (same x) xs))

    pub firsts_all : (p : A → Bool) (xs : List A) → list_all p xs ≡ true → list_all p (firsts xs) ≡ true
    unfolding firsts
    firsts_all p [] all = all
    firsts_all p (x ∷ xs) all =
        let parts = and_parts (p x) (list_all p xs) all in
        let rest : list_all p (firsts xs) ≡ true = firsts_all p xs parts.1 in
        ⊎_elim
        (λ (there : list_any (same x) xs ≡ true). ap (list_all p) (firsts-there x xs there) ∙ rest)
        (λ (new : list_any (same x) xs ≡ false). ap (list_all p) (firsts-new x xs new) ∙ and_from (p x) (list_all p (firsts xs)) parts.0 rest)
        (cases_Bool (list_any (same x) xs))

    pub firsts_apart : (xs : List A) → Apart (firsts xs)
    unfolding firsts
    firsts_apart [] = tt
    firsts_apart (x ∷ xs) = ⊎_elim
        (λ (there : list_any (same x) xs ≡ true). subst Apart (sym (firsts-there x xs there)) (firsts_apart xs))
        (λ (new : list_any (same x) xs ≡ false). subst Apart (sym (firsts-new x xs new)) (firsts_none (same x) xs new, firsts_apart xs))
        (cases_Bool (list_any (same x) xs))

    pub length-firsts : (xs : List A) → length (firsts xs) ≡ count same xs
    unfolding firsts count
    length-firsts [] = refl
    length-firsts (x ∷ xs) = ⊎_elim
        (λ (there : list_any (same x) xs ≡ true). ap length (firsts-there x xs there) ∙ length-firsts xs ∙ sym (count-there x xs there))
        (λ (new : list_any (same x) xs ≡ false).
        let more : suc (length (firsts xs)) ≡ count same xs + 1 = omega (arith, length-firsts xs) in
        ap length (firsts-new x xs new) ∙ more ∙ sym (count-new x xs new))
        (cases_Bool (list_any (same x) xs))

    -- a list that is covered has no more different elements than its cover has elements
    pub count_covered : (ys xs : List A) → covered ys xs ≡ true → count same xs ≤ length ys
    count_covered ys xs cover = omega (
      arith,
      length-firsts xs,
      pigeonhole ys (firsts xs) (firsts_apart xs) (firsts_all (λ x. list_any (same x) ys) xs cover),
      count_within ys,
    )
