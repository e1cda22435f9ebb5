-- The different subfunctions of a function, constants aside: one of each kind.
use Rattle.std.proofs.Common.{◌≡◌, ◌⊎◌, inl, inr, ℕ, zero, suc, ◌≤◌, Bool, true, false, not, ◌||◌, List, [], ◌∷◌, length, map, filter, flat_map, refl, sym, ap, subst, ◌∙◌, ⊎_elim, arith, append-nil}
use Rattle.std.specs.List.{All, list_all, list_any}
use Rattle.std.proofs.lemmas.Bool.{cases_Bool, and_from, both_ways, false≢true, or_cases, or_left, or_right, not_from_true, not_from_false}
use Rattle.std.proofs.lemmas.List.Elements.{All-nil, All-cons, All-head, All-tail, All-append, All-map, All-filter, All-weaker, filter_passes}
use Rattle.dd_nodes.specs.Subfunctions.{Function, agree, constants, fixed, lists, lists_up_to, nodes, subfunctions}
use Rattle.dd_nodes.proofs.Agreement.{agree_chain, agree_turn, subfunction_listed}
use Rattle.dd_nodes.proofs.Counting.{count, any_filter, any_weaker, covered, count_covered, firsts, firsts-nil, firsts-new, firsts-there, length-firsts}
use Rattle.dd_sets.proofs.CountLemmas.{beside, beside_moves, counted}

-- what holds of each list of n truth values holds of all of `lists n`, and of those up to n
lists_all : (P : List Bool → Type 0) (n : ℕ) → ((first : List Bool) → length first ≡ n → P first) → All P (lists n)
unfolding lists
lists_all P zero each = All-cons P [] [] (each [] refl) (All-nil P)
lists_all P (suc n) each = All-append P (map (λ rest. false ∷ rest) (lists n)) (map (λ rest. true ∷ rest) (lists n))
    (All-map P (λ rest. false ∷ rest) (lists n) (lists_all (λ rest. P (false ∷ rest)) n (λ rest e. each (false ∷ rest) (ap suc e))))
    (All-map P (λ rest. true ∷ rest) (lists n) (lists_all (λ rest. P (true ∷ rest)) n (λ rest e. each (true ∷ rest) (ap suc e))))

up_to_all : (P : List Bool → Type 0) (n : ℕ) → ((first : List Bool) → length first ≤ n → P first) → All P (lists_up_to n)
unfolding lists_up_to
up_to_all P zero each = All-cons P [] [] (each [] (omega arith)) (All-nil P)
up_to_all P (suc n) each = All-append P (lists_up_to n) (lists (suc n)) (up_to_all P n (λ first few. each first (omega arith))) (lists_all P (suc n) (λ first long. each first (omega arith)))

-- what holds of each element of the lists of a map
pub mapped_all : {X Y : Type 0} (P : Y → Type 0) (h : X → List Y) (xs : List X) → All (λ x. All P (h x)) xs → All P (flat_map h xs)
mapped_all P h [] all = All-nil P
mapped_all P h (x ∷ xs) all = All-append P (h x) (flat_map h xs) (All-head (λ y. All P (h y)) x xs all) (mapped_all P h xs (All-tail (λ y. All P (h y)) x xs all))

-- what each element of a list passes, as a test of the list
all_passed : {A : Type 0} (p : A → Bool) (xs : List A) → All (λ x. p x ≡ true) xs → list_all p xs ≡ true
all_passed p [] all = refl
all_passed p (x ∷ xs) all = and_from (p x) (list_all p xs) (All-head (λ y. p y ≡ true) x xs all) (all_passed p xs (All-tail (λ y. p y ≡ true) x xs all))

module _ {A : Type 0} (same : A → A → Bool) (turn : (a b : A) → same a b ≡ true → same b a ≡ true) (chain : (a b c : A) → same a b ≡ true → same b c ≡ true → same a c ≡ true) where
  -- the first of each group are elements, and one of them is the same as each element
  firsts_of : (P : A → Type 0) (xs : List A) → All P xs → All P (firsts same turn chain xs)
  firsts_of P [] all = subst (All P) (sym (firsts-nil same turn chain)) (All-nil P)
  firsts_of P (x ∷ xs) all =
      let rest : All P (firsts same turn chain xs) = firsts_of P xs (All-tail P x xs all) in
      ⊎_elim
      (λ (there : list_any (same x) xs ≡ true). subst (All P) (sym (firsts-there same turn chain x xs there)) rest)
      (λ (new : list_any (same x) xs ≡ false). subst (All P) (sym (firsts-new same turn chain x xs new)) (All-cons P x (firsts same turn chain xs) (All-head P x xs all) rest))
      (cases_Bool (list_any (same x) xs))

  firsts_some : (a : A) (xs : List A) → list_any (same a) xs ≡ true → list_any (same a) (firsts same turn chain xs) ≡ true
  firsts_some a [] some = absurd (false≢true some)
  firsts_some a (x ∷ xs) some = ⊎_elim
      (λ (there : list_any (same x) xs ≡ true).
      let later : list_any (same a) xs ≡ true = ⊎_elim
      (λ (here : same a x ≡ true). any_weaker (same x) (same a) (λ y e. chain a x y here e) xs there)
      (λ (later : list_any (same a) xs ≡ true). later)
      (or_cases (same a x) (list_any (same a) xs) some) in
      ap (list_any (same a)) (firsts-there same turn chain x xs there) ∙ firsts_some a xs later)
      (λ (new : list_any (same x) xs ≡ false).
      ap (list_any (same a)) (firsts-new same turn chain x xs new)
      ∙ ⊎_elim
      (λ (here : same a x ≡ true). or_left (same a x) (list_any (same a) (firsts same turn chain xs)) here)
      (λ (later : list_any (same a) xs ≡ true). or_right (same a x) (list_any (same a) (firsts same turn chain xs)) (firsts_some a xs later))
      (or_cases (same a x) (list_any (same a) xs) some))
      (cases_Bool (list_any (same x) xs))

module _ (vars : ℕ) where
  pub subfunctions_all : (P : Function → Type 0) (f : Function) → ((first : List Bool) → length first ≤ vars → P (fixed first f)) → All P (subfunctions vars f)
  subfunctions_all P f each = All-map P (λ first. fixed first f) (lists_up_to vars) (up_to_all (λ first. P (fixed first f)) vars each)

  -- functions whose subfunctions that are no constants each agree with one of a list have no more
  -- nodes than the list is long
  pub covered_nodes : (fs ys : List Function)
      → All (λ f. (first : List Bool) → length first ≤ vars → beside vars constants (fixed first f) ≡ true → list_any (agree vars (fixed first f)) ys ≡ true) fs
      → nodes vars fs ≤ length ys
  covered_nodes fs ys each =
      let xs : List Function = filter (beside vars constants) (flat_map (subfunctions vars) fs) in
      let subs : All (λ g. beside vars constants g ≡ true → list_any (agree vars g) ys ≡ true) (flat_map (subfunctions vars) fs) =
      mapped_all (λ g. beside vars constants g ≡ true → list_any (agree vars g) ys ≡ true) (subfunctions vars) fs
      (All-weaker (λ f. (first : List Bool) → length first ≤ vars → beside vars constants (fixed first f) ≡ true → list_any (agree vars (fixed first f)) ys ≡ true)
      (λ f. All (λ g. beside vars constants g ≡ true → list_any (agree vars g) ys ≡ true) (subfunctions vars f))
      (λ f here. subfunctions_all (λ g. beside vars constants g ≡ true → list_any (agree vars g) ys ≡ true) f here) fs each) in
      let kept = All-filter (beside vars constants) (λ g. beside vars constants g ≡ true → list_any (agree vars g) ys ≡ true) (flat_map (subfunctions vars) fs) subs in
      let passes = filter_passes (beside vars constants) (flat_map (subfunctions vars) fs) in
      let cover : covered (agree vars) ys xs ≡ true = all_passed (λ g. list_any (agree vars g) ys) xs (λ k d within. kept k d within (passes k d within)) in
      omega (arith, counted vars constants fs, count_covered (agree vars) (agree_turn vars) (agree_chain vars) ys xs cover)

  -- one of each kind of subfunctions of a function, constants aside
  pub kinds : Function → List Function
  kinds f = firsts (agree vars) (agree_turn vars) (agree_chain vars) (filter (beside vars constants) (subfunctions vars f))

  pub length-kinds : (f : Function) → length (kinds f) ≡ nodes vars (f ∷ [])
  unfolding kinds
  length-kinds f =
      length-firsts (agree vars) (agree_turn vars) (agree_chain vars) (filter (beside vars constants) (subfunctions vars f))
      ∙ ap (λ l. count (agree vars) (filter (beside vars constants) l)) (sym (append-nil (subfunctions vars f)))
      ∙ sym (counted vars constants (f ∷ []))

  pub kinds_all : (P : Function → Type 0) (f : Function) → ((first : List Bool) → length first ≤ vars → P (fixed first f)) → All P (kinds f)
  unfolding kinds
  kinds_all P f each = firsts_of (agree vars) (agree_turn vars) (agree_chain vars) P (filter (beside vars constants) (subfunctions vars f))
      (All-filter (beside vars constants) P (subfunctions vars f) (subfunctions_all P f each))

  pub in_kinds : (f : Function) (first : List Bool) → length first ≤ vars → beside vars constants (fixed first f) ≡ true → list_any (agree vars (fixed first f)) (kinds f) ≡ true
  unfolding kinds
  in_kinds f first few apart = firsts_some (agree vars) (agree_turn vars) (agree_chain vars) (fixed first f) (filter (beside vars constants) (subfunctions vars f))
      (any_filter (agree vars (fixed first f)) (beside vars constants) (subfunctions vars f) (λ g same. beside_moves vars constants (fixed first f) g same apart)
      (subfunction_listed vars f (fixed first f) (record { first = first; few = few; fixes = λ values. refl })))

  -- each subfunction is a constant or of a kind
  pub known_or_kind : (g : Function) → (list_any (agree vars g) constants ≡ true) ⊎ (beside vars constants g ≡ true)
  unfolding beside
  known_or_kind g = ⊎_elim
      (λ (known : list_any (agree vars g) constants ≡ true). inl known)
      (λ (new : list_any (agree vars g) constants ≡ false). inr (not_from_false (list_any (agree vars g) constants) new))
      (cases_Bool (list_any (agree vars g) constants))

  pub not_both : (g : Function) → list_any (agree vars g) constants ≡ true → beside vars constants g ≡ true → ⊥
  unfolding beside
  not_both g known apart = both_ways (not (list_any (agree vars g) constants)) (not_from_true (list_any (agree vars g) constants) known) apart

  -- a constant agrees with one of the two
  pub which_constant : (g : Function) → list_any (agree vars g) constants ≡ true → (b : Bool) × (agree vars g (λ _. b) ≡ true)
  which_constant g known = ⊎_elim
      (λ (is : agree vars g (λ _. false) ≡ true). (false, is))
      (λ (other : agree vars g (λ _. true) || false ≡ true). ⊎_elim
      (λ (is : agree vars g (λ _. true) ≡ true). (true, is))
      (λ (none : false ≡ true). absurd (false≢true none))
      (or_cases (agree vars g (λ _. true)) false other))
      (or_cases (agree vars g (λ _. false)) (agree vars g (λ _. true) || false) known)

  pub is_constant : (g : Function) (b : Bool) → agree vars g (λ _. b) ≡ true → list_any (agree vars g) constants ≡ true
  is_constant g false is = or_left (agree vars g (λ _. false)) (agree vars g (λ _. true) || false) is
  is_constant g true is = or_right (agree vars g (λ _. false)) (agree vars g (λ _. true) || false) (or_left (agree vars g (λ _. true)) false is)
