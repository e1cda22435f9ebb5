-- The way that is read back from shortest ways is a shortest one.
use Rattle.std.proofs.Common.{◌≡◌, ℕ, ◌+◌, ◌<◌, ◌≤◌, Bool, List, [], ◌∷◌, length, sym, ap, ◌∙◌, subst, arith}
use Rattle.std.specs.List.{Contains}
use Rattle.plan_check.specs.Walks.{IsMarked, IsWalk, StaysBelow, last_number}
use Rattle.plan_check.proofs.MarkFacts.{marked_below}
use Rattle.plan_check.proofs.WalkFacts.{last_below}
use Rattle.plan_witness.specs.Ways.{AreWays, IsNearest, IsShortestWay, IsWayBack, NoneLeads, at, far}

pub back_facts : (n : ℕ) (next : ℕ → List ℕ) (starts : List Bool) (lengths before : List ℕ) → AreWays n next starts lengths before
    → (number b : ℕ) → number < n → 0 < at lengths number → at lengths number < far → b ≡ at before number
    → (b < n) × Contains (next b) number × (at lengths b + 1 ≡ at lengths number)
back_facts n next starts lengths before w number b l some h is =
    let s = w.back number l some h in
    (subst (λ k. k < n) (sym is) s.below, subst (λ k. Contains (next k) number) (sym is) s.follows, ap (λ k. at lengths k + 1) is ∙ s.longer)

-- no walk is shorter than the way
pub record IsBounded (lengths : List ℕ) (i bound : ℕ) : Type 0 where
  pub most : at lengths i ≤ bound
  pub reached : at lengths i < far

pub walk_bound : (n : ℕ) (next : ℕ → List ℕ) (starts : List Bool) (lengths before : List ℕ) → AreWays n next starts lengths before
    → ((i j : ℕ) → i < n → Contains (next i) j → j < n)
    → (i : ℕ) (rest : List ℕ) (d : ℕ) → i < n → IsBounded lengths i d → IsWalk next i rest → IsBounded lengths (last_number i rest) (d + length rest)
walk_bound n next starts lengths before w stays i [] d l b walk = record { most = let m = b.most in omega (arith, m); reached = b.reached }
walk_bound n next starts lengths before w stays i (j ∷ rest) d l b walk =
    let s : at lengths j ≤ at lengths i + 1 = w.settled i j l b.reached walk.0 in
    let m = b.most in
    let more = walk_bound n next starts lengths before w stays j rest (d + 1) (stays i j l walk.0) (record { most = omega (arith, s, m); reached = w.reaches i j l b.reached walk.0 }) walk.1 in
    record { most = let k = more.most in omega (arith, k); reached = more.reached }

module _ (n : ℕ) (next : ℕ → List ℕ) (starts : List Bool) (lengths before : List ℕ) (count : length starts ≡ n) (stays : StaysBelow n next) (w : AreWays n next starts lengths before) where
  from_start : (i : ℕ) (rest : List ℕ) → IsMarked starts i → IsWalk next i rest → IsBounded lengths (last_number i rest) (length rest)
  from_start i rest m walk =
      let l : i < n = subst (λ k. i < k) count (marked_below starts i m) in
      let zeroth : at lengths i ≡ 0 = (w.begun i l).0 m in
      let b = walk_bound n next starts lengths before w stays i rest 0 l (record { most = omega (arith, zeroth); reached = omega (arith, zeroth) }) walk in
      record { most = let k = b.most in omega (arith, k); reached = b.reached }

  pub shortest : (ends : List Bool) (end start : ℕ) (numbers : List ℕ) → IsNearest lengths ends end → IsWayBack n next lengths end start numbers
      → IsShortestWay next starts (IsMarked ends) start numbers
  shortest ends end start numbers near x = record {
    begins = (w.begun start x.below).1 x.first;
    walk = x.walk;
    shows = subst (IsMarked ends) (sym x.ends) near.marked;
    least = λ i rest m walk e.
        let b = from_start i rest m walk in
        let most = b.most in
        let least = near.least (last_number i rest) e in
        let long = x.long in
        omega (arith, most, least, long);
  }

  pub none : (ends : List Bool) → ((i : ℕ) → IsMarked ends i → at lengths i < far → ⊥) → NoneLeads next starts (IsMarked ends)
  none ends never i rest m walk e = never (last_number i rest) e (from_start i rest m walk).reached

  -- the same for any property of numbers
  pub shortest_to : (P : ℕ → Type 0) (end start : ℕ) (numbers : List ℕ) → P end → ((j : ℕ) → j < n → P j → at lengths end ≤ at lengths j) → IsWayBack n next lengths end start numbers
      → IsShortestWay next starts P start numbers
  shortest_to P end start numbers p least x = record {
    begins = (w.begun start x.below).1 x.first;
    walk = x.walk;
    shows = subst P (sym x.ends) p;
    least = λ i rest m walk e.
        let b = from_start i rest m walk in
        let most = b.most in
        let low = least (last_number i rest) (last_below n next stays i rest (subst (λ k. i < k) count (marked_below starts i m)) walk) e in
        let long = x.long in
        omega (arith, most, low, long);
  }

  pub none_to : (P : ℕ → Type 0) → ((i : ℕ) → i < n → P i → at lengths i < far → ⊥) → NoneLeads next starts P
  none_to P never i rest m walk e =
      never (last_number i rest) (last_below n next stays i rest (subst (λ k. i < k) count (marked_below starts i m)) walk) e (from_start i rest m walk).reached
