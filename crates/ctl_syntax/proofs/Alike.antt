-- What comes about, or is kept, where one goal is true, and where another is that is true at the same
-- nodes.
use Rattle.std.proofs.Common.{◌↔◌, List, [], ◌∷◌, Option, Some, None, inr, ⊎_elim}
use Rattle.std.specs.Prelude.{IfSome, ⊤}
use Rattle.std.specs.Option.{option_map}
use Rattle.ctl_syntax.specs.Paths.{EveryPathKeeps, EveryPathMeets, Meets, MeetsOrKeeps}
use Rattle.ctl_syntax.specs.Truth.{Anything, Nothing}

-- what holds of a mapped option
pub mapped_some : {A B : Type 0} (f : A → B) (Q : A → Type 0) (R : B → Type 0) → ((x : A) → Q x → R (f x)) → (o : Option A) → IfSome o Q → IfSome (option_map f o) R
mapped_some f Q R each None q = tt
mapped_some f Q R each (Some x) q = each x q

-- each element of a list has it
abbrev pub EachOf : {P : Type 0} → (P → Type 0) → List P → Type 0
EachOf Q [] = ⊤
EachOf Q (p ∷ ps) = Q p × EachOf Q ps

-- the propositions that are kept: one or none
abbrev pub kept_list : {P : Type 0} → Option P → List P
kept_list None = []
kept_list (Some q) = q ∷ []

module _ {X : Type 0} (Step : X → X → Type 0) where
  meets_weaker : (G H K : X → Type 0) → ((x : X) → H x → K x) → (path : List X) → Meets G H path → Meets G K path
  meets_weaker G H K weaker path m = record { place = m.place; node = m.node; is = m.is; has = weaker m.node m.has; before = m.before }

  -- what comes about where one of two goals is true where the other is
  reached_weaker : (H K : X → Type 0) → ((x : X) → H x → K x) → (x : X) → EveryPathMeets Step Anything H x → EveryPathMeets Step Anything K x
  reached_weaker H K weaker x e = record {
    steps = e.steps;
    meets = λ rest long path. meets_weaker Anything H K weaker (x ∷ rest) (e.meets rest long path);
  }

  pub reached_alike : (H K : X → Type 0) → ((x : X) → H x ↔ K x) → (x : X) → EveryPathMeets Step Anything H x ↔ EveryPathMeets Step Anything K x
  reached_alike H K same x = (reached_weaker H K (λ y. (same y).0) x, reached_weaker K H (λ y. (same y).1) x)

  pub both_weaker : (G H : X → Type 0) → ((x : X) → G x → H x) → (path : List X) → MeetsOrKeeps G Nothing path → MeetsOrKeeps H Nothing path
  both_weaker G H weaker path m =
      ⊎_elim
      (λ m. absurd m.has)
      (λ k. inr (record { each = λ i y is. weaker y (k.each i y is) }))
      m

  kept_weaker : (G H : X → Type 0) → ((x : X) → G x → H x) → (x : X) → EveryPathKeeps Step G Nothing x → EveryPathKeeps Step H Nothing x
  kept_weaker G H weaker x e n rest long path = both_weaker G H weaker (x ∷ rest) (e n rest long path)

  pub kept_alike : (G H : X → Type 0) → ((x : X) → G x ↔ H x) → (x : X) → EveryPathKeeps Step G Nothing x ↔ EveryPathKeeps Step H Nothing x
  kept_alike G H same x = (kept_weaker G H (λ y. (same y).0) x, kept_weaker H G (λ y. (same y).1) x)

  pub kept_always : (G : X → Type 0) → ((x : X) → G x) → (x : X) → EveryPathKeeps Step G Nothing x
  kept_always G each x n rest long path = inr (record { each = λ i y is. each y })

  module _ {P : Type 0} (Has : P → X → Type 0) where
    -- each proposition of a list holds
    abbrev pub HasAll : List P → X → Type 0
    HasAll ps x = EachOf (λ (p : P). Has p x) ps
