-- The first of a list of flaws is one that no other comes before.
use Rattle.std.proofs.Common.{◌≡◌, ℕ, zero, suc, ◌<◌, ◌⊎◌, inl, inr, Bool, true, false, ◌==◌, ◌&&◌, ◌||◌, List, [], ◌∷◌, refl, sym, subst, arith}
use Rattle.std.specs.Prelude.{nat_lt, nat_le, Option, Some, None, if◌then◌else◌, Contains}
use Rattle.std.proofs.lemmas.Bool.Decides.{nat_tests}
use Rattle.sexpr_text.specs.Kinds.{code_of}
use Rattle.sexpr_text.specs.Flaws.{Flaw, comes_first, earlier_of, first_of, IsFirstOf}

-- a place of flaws in their order: two numbers, the first of which counts first
abbrev no_later : ℕ → ℕ → ℕ → ℕ → Bool
no_later m i n j = nat_lt m n || (m == n && nat_le i j)

no_later-same : (m i : ℕ) → no_later m i m i ≡ true
no_later-same m i = grind (arith, nat_tests)

no_later-total : (m i n j : ℕ) → no_later m i n j ≡ false → no_later n j m i ≡ true
no_later-total m i n j h = grind (arith, nat_tests)

no_later-trans : (m i n j k l : ℕ) → no_later m i n j ≡ true → no_later n j k l ≡ true → no_later m i k l ≡ true
no_later-trans m i n j k l h g = grind (arith, nat_tests)

comes_first-same : (f : Flaw) → comes_first f f ≡ true
comes_first-same f = no_later-same f.offset (code_of f.fault.kind)

comes_first-total : (f g : Flaw) → comes_first f g ≡ false → comes_first g f ≡ true
comes_first-total f g = no_later-total f.offset (code_of f.fault.kind) g.offset (code_of g.fault.kind)

comes_first-trans : (f g h : Flaw) → comes_first f g ≡ true → comes_first g h ≡ true → comes_first f h ≡ true
comes_first-trans f g h = no_later-trans f.offset (code_of f.fault.kind) g.offset (code_of g.fault.kind) h.offset (code_of h.fault.kind)

-- an element of a longer list is its first or one of the rest
one_more : (f g : Flaw) (fs : List Flaw) → Contains (f ∷ fs) g → (f ≡ g) ⊎ Contains fs g
one_more f g fs (zero, below, is) = inl is
one_more f g fs (suc k, below, is) = inr (k, omega arith, is)

here : (f : Flaw) (fs : List Flaw) → Contains (f ∷ fs) f
here f fs = (0, omega arith, refl)

there : (f g : Flaw) (fs : List Flaw) → Contains fs g → Contains (f ∷ fs) g
there f g fs (k, below, is) = (suc k, omega arith, is)

-- a flaw before a list of which another is the first
before : (f g : Flaw) (fs : List Flaw) → IsFirstOf fs g → (b : Bool) → comes_first f g ≡ b → IsFirstOf (f ∷ fs) (if b then f else g)
before f g fs first true e = record {
  listed = here f fs;
  least = λ h among. elim (one_more f h fs among) [
    | inl same ↦ subst (λ (x : Flaw). comes_first f x ≡ true) same (comes_first-same f)
    | inr later ↦ comes_first-trans f g h e (first.least h later)
  ];
}
before f g fs first false e = record {
  listed = there f g fs first.listed;
  least = λ h among. elim (one_more f h fs among) [
    | inl same ↦ subst (λ (x : Flaw). comes_first g x ≡ true) same (comes_first-total f g e)
    | inr later ↦ first.least h later
  ];
}

pub first_of-none : (fs : List Flaw) → first_of fs ≡ None → fs ≡ []
unfolding first_of
first_of-none [] e = refl
first_of-none (f ∷ fs) e = cc

first_with : (f : Flaw) (fs : List Flaw) (o : Option Flaw) → first_of fs ≡ o → ((g : Flaw) → first_of fs ≡ Some g → IsFirstOf fs g) → IsFirstOf (f ∷ fs) (earlier_of f o)
first_with f fs None e h = subst (λ (gs : List Flaw). IsFirstOf (f ∷ gs) f) (sym (first_of-none fs e)) (record {
  listed = here f [];
  least = λ g among. elim (one_more f g [] among) [
    | inl same ↦ subst (λ (x : Flaw). comes_first f x ≡ true) same (comes_first-same f)
    | inr later ↦ absurd (let k : later.0 < 0 = later.1 in omega arith)
  ];
})
first_with f fs (Some g) e h = before f g fs (h g e) (comes_first f g) refl

pub first_of-first : (fs : List Flaw) (f : Flaw) → first_of fs ≡ Some f → IsFirstOf fs f
unfolding first_of
first_of-first [] f e = cc
first_of-first (g ∷ fs) f e =
    let same : earlier_of g (first_of fs) ≡ f = cc in
    subst (λ (x : Flaw). IsFirstOf (g ∷ fs) x) same (first_with g fs (first_of fs) refl (λ h k. first_of-first fs h k))
