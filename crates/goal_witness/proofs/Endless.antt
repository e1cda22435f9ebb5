-- Where each number of a set has a follower in the set, some walk comes back to where it was.
use Rattle.std.proofs.Common.{◌≡◌, ◌≢◌, ◌⊎◌, ℕ, zero, suc, ◌+◌, ◌<◌, List, [], ◌∷◌, ◌++◌, length, sym, subst, arith, ⊎_elim, inl, inr}
use Rattle.std.specs.List.{Contains, range_with_len}
use Rattle.std.proofs.lemmas.Bool.{cases_eq}
use Rattle.std.proofs.lemmas.List.{length-append}
use Rattle.std.proofs.lemmas.List.FromFn.{length-range_with_len}
use Rattle.list_laws.proofs.Distinct.{Apart, Apart-few}
use Rattle.list_laws.proofs.Elements.{Contains-cases, Contains-cons, Contains-head, Contains-nil, Contains-range_with_len}
use Rattle.plan_check.specs.Walks.{IsWalk, last_number}
use Rattle.plan_check.proofs.WalkFacts.{last_append, walk_append}
use Rattle.goal_witness.specs.Failures.{EachOn}
use Rattle.goal_witness.proofs.Kept.{each_push}

-- whether a number stands in a list
stands : (xs : List ℕ) (y : ℕ) → Contains xs y ⊎ (Contains xs y → ⊥)
stands [] y = inr (Contains-nil y)
stands (x ∷ xs) y =
    ⊎_elim
    (λ (e : x ≡ y). inl (subst (Contains (x ∷ xs)) e (Contains-head x xs)))
    (λ (other : x ≢ y). ⊎_elim (λ c. inl (Contains-cons x xs y c)) (λ none. inr (λ c. ⊎_elim (λ e. other e) (λ later. none later) (Contains-cases x xs y c))) (stands xs y))
    (cases_eq x y)

module _ (n : ℕ) (next : ℕ → List ℕ) (S : ℕ → Type 0) (below : (x : ℕ) → S x → x < n) (onward : (x : ℕ) → S x → (y : ℕ) × Contains (next x) y × S y) where
  -- each number follows the one after it in the list
  abbrev Chain : ℕ → List ℕ → Type 0
  Chain top [] = Unit {0}
  Chain top (x ∷ rest) = Contains (next x) top × Chain x rest

  abbrev EachIn : List ℕ → Type 0
  EachIn [] = Unit {0}
  EachIn (x ∷ xs) = S x × EachIn xs

  each_in : (xs : List ℕ) → EachIn xs → (y : ℕ) → Contains xs y → S y
  each_in [] e y c = absurd (Contains-nil y c)
  each_in (x ∷ xs) e y c = ⊎_elim (λ (same : x ≡ y). subst S same e.0) (λ later. each_in xs e.1 y later) (Contains-cases x xs y c)

  record Climb (y top : ℕ) : Type 0 where
    rest : List ℕ
    walk : IsWalk next y rest
    each : EachOn S y rest
    ends : last_number y rest ≡ top

  climb : (top : ℕ) (rest : List ℕ) → Chain top rest → EachIn (top ∷ rest) → (y : ℕ) → S y → Contains (top ∷ rest) y → Climb y top
  climb top [] chain all y s c = ⊎_elim (λ (e : top ≡ y). record { rest = []; walk = tt; each = s; ends = sym e }) (λ later. absurd (Contains-nil y later)) (Contains-cases top [] y c)
  climb top (x ∷ rest) chain all y s c =
      ⊎_elim
      (λ (e : top ≡ y). record { rest = []; walk = tt; each = s; ends = sym e })
      (λ later.
      let up = climb x rest chain.1 all.1 y s later in
      record {
        rest = up.rest ++ top ∷ [];
        walk = walk_append next y up.rest (top ∷ []) up.walk (subst (λ k. Contains (next k) top) (sym up.ends) chain.0, tt);
        each = each_push S y up.rest top up.each all.0;
        ends = last_append y up.rest (top ∷ []);
      })
      (Contains-cases top (x ∷ rest) y c)

  -- a walk of one step or more through the set that comes back
  pub record FoundRound : Type 0 where
    pub number : ℕ
    pub is : S number
    pub follower : ℕ
    pub rest : List ℕ
    pub walk : IsWalk next number (follower ∷ rest)
    pub each : EachOn S number (follower ∷ rest)
    pub round : last_number follower rest ≡ number

  round_from : (y : ℕ) (walk : List ℕ) → S y → IsWalk next y walk → EachOn S y walk → 0 < length walk → last_number y walk ≡ y → FoundRound
  round_from y [] s w each some e = absurd (omega arith)
  round_from y (f ∷ rest) s w each some e = record { number = y; is = s; follower = f; rest = rest; walk = w; each = each; round = e }

  go : (fuel top : ℕ) (rest : List ℕ) → Chain top rest → EachIn (top ∷ rest) → Apart (top ∷ rest) → n < fuel + length (top ∷ rest) → FoundRound
  go zero top rest chain all apart long =
      let few = Apart-few (top ∷ rest) (range_with_len 0 n) apart (λ y c. Contains-range_with_len n y (below y (each_in (top ∷ rest) all y c))) in
      let len = length-range_with_len 0 n in
      absurd (omega (arith, few, len, long))
  go (suc fuel) top rest chain all apart long =
      let on = onward top all.0 in
      let y = on.0 in
      ⊎_elim
      (λ at.
      let up = climb top rest chain all y on.2 at in
      let len : length (up.rest ++ y ∷ []) ≡ length up.rest + 1 = length-append up.rest (y ∷ []) in
      round_from y (up.rest ++ y ∷ []) on.2
      (walk_append next y up.rest (y ∷ []) up.walk (subst (λ k. Contains (next k) y) (sym up.ends) on.1, tt))
      (each_push S y up.rest y up.each on.2)
      (omega (arith, len)) (last_append y up.rest (y ∷ [])))
      (λ new. go fuel y (top ∷ rest) (on.1, chain) (on.2, all) (new, apart) (omega (arith, long)))
      (stands (top ∷ rest) y)

  pub found_round : (i : ℕ) → S i → FoundRound
  found_round i s = go n i [] tt (s, tt) (Contains-nil i, tt) (omega arith)
