-- Paths that meet or keep something, place by place.
use Rattle.std.proofs.Common.{◌≡◌, ◌⊎◌, ℕ, zero, suc, ◌<◌, List, [], ◌∷◌, Some, None, refl, subst, arith, inl, inr, ⊎_elim}
use Rattle.std.specs.Prelude.{slice_get}
use Rattle.ctl_syntax.specs.Paths.{Meets, Keeps, MeetsOrKeeps}

module _ {X : Type 0} (G H : X → Type 0) where
  pub meets_here : (x : X) (rest : List X) → H x → Meets G H (x ∷ rest)
  meets_here x rest h = record { place = 0; node = x; is = refl; has = h; before = λ k y l e. absurd (omega arith) }

  meets_later_at : (x : X) (rest : List X) (place : ℕ) → G x → ((k : ℕ) (y : X) → k < place → slice_get rest k ≡ Some y → G y) → (k : ℕ) (y : X) → k < suc place → slice_get (x ∷ rest) k ≡ Some y → G y
  meets_later_at x rest place g before zero y l e = let same : x ≡ y = cc in subst G same g
  meets_later_at x rest place g before (suc k) y l e = before k y (omega arith) e

  pub meets_later : (x : X) (rest : List X) → G x → Meets G H rest → Meets G H (x ∷ rest)
  meets_later x rest g m =
      record { place = suc m.place; node = m.node; is = m.is; has = m.has; before = meets_later_at x rest m.place g m.before }

  meets_cases_at : (x : X) (rest : List X) (place : ℕ) (node : X) → slice_get (x ∷ rest) place ≡ Some node → H node → ((k : ℕ) (y : X) → k < place → slice_get (x ∷ rest) k ≡ Some y → G y) → H x ⊎ (G x × Meets G H rest)
  meets_cases_at x rest zero node is has before = let same : node ≡ x = cc in inl (subst H same has)
  meets_cases_at x rest (suc place) node is has before =
      inr (before 0 x (omega arith) refl, record { place = place; node = node; is = is; has = has; before = λ k y l e. before (suc k) y (omega arith) e })

  -- a path meets something at its first node or after it
  pub meets_cases : (x : X) (rest : List X) → Meets G H (x ∷ rest) → H x ⊎ (G x × Meets G H rest)
  meets_cases x rest m = meets_cases_at x rest m.place m.node m.is m.has m.before

  pub meets_nothing : Meets G H [] → ⊥
  meets_nothing m = let is : None ≡ Some m.node = m.is in cc

module _ {X : Type 0} (G : X → Type 0) where
  pub keeps_nothing : Keeps G []
  keeps_nothing = record { each = λ k y e. cc }

  keeps_more_at : (x : X) (rest : List X) → G x → Keeps G rest → (k : ℕ) (y : X) → slice_get (x ∷ rest) k ≡ Some y → G y
  keeps_more_at x rest g keeps zero y e = let same : x ≡ y = cc in subst G same g
  keeps_more_at x rest g keeps (suc k) y e = keeps.each k y e

  pub keeps_more : (x : X) (rest : List X) → G x → Keeps G rest → Keeps G (x ∷ rest)
  keeps_more x rest g keeps = record { each = keeps_more_at x rest g keeps }

  pub keeps_first : (x : X) (rest : List X) → Keeps G (x ∷ rest) → G x
  keeps_first x rest keeps = keeps.each 0 x refl

  pub keeps_rest : (x : X) (rest : List X) → Keeps G (x ∷ rest) → Keeps G rest
  keeps_rest x rest keeps = record { each = λ k y e. keeps.each (suc k) y e }

module _ {X : Type 0} (G H : X → Type 0) where
  pub holds_here : (x : X) (rest : List X) → H x → MeetsOrKeeps G H (x ∷ rest)
  holds_here x rest h = inl (meets_here G H x rest h)

  pub holds_later : (x : X) (rest : List X) → G x → MeetsOrKeeps G H rest → MeetsOrKeeps G H (x ∷ rest)
  holds_later x rest g m = ⊎_elim (λ m. inl (meets_later G H x rest g m)) (λ k. inr (keeps_more G x rest g k)) m

  -- where something meets or keeps, it doesn't meet the end of both before the second
  pub opposite : (path : List X) → Meets (λ x. H x → ⊥) (λ x. (G x → ⊥) × (H x → ⊥)) path → MeetsOrKeeps G H path → ⊥
  opposite [] m keeps = meets_nothing (λ x. H x → ⊥) (λ x. (G x → ⊥) × (H x → ⊥)) m
  opposite (x ∷ rest) m keeps =
      ⊎_elim
      (λ none. ⊎_elim
      (λ meets. ⊎_elim (λ h. none.1 h) (λ more. none.0 more.0) (meets_cases G H x rest meets))
      (λ kept. none.0 (keeps_first G x rest kept))
      keeps)
      (λ later. ⊎_elim
      (λ meets. ⊎_elim (λ h. later.0 h) (λ more. opposite rest later.1 (inl more.1)) (meets_cases G H x rest meets))
      (λ kept. opposite rest later.1 (inr (keeps_rest G x rest kept)))
      keeps)
      (meets_cases (λ x. H x → ⊥) (λ x. (G x → ⊥) × (H x → ⊥)) x rest m)
