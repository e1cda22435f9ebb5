-- Heights that are raised, and the walks that they count.
use Rattle.std.proofs.Common.{◌≡◌, ◌+◌, ◌<◌, ◌≤◌, ℕ, zero, suc, Bool, true, false, List, [], ◌∷◌, length, set, sym, ◌∙◌, subst, arith, ⊎_elim}
use Rattle.std.specs.List.{Contains}
use Rattle.std.proofs.lemmas.Bool.{cases_eq, false≢true}
use Rattle.std.proofs.lemmas.List.{get_or-set_other, get_or-set_same, length-set}
use Rattle.plan_check.specs.Walks.{IsWalk, StaysBelow}
use Rattle.plan_witness.specs.Heights.{AreAttained, AreHeights, GoesFor, HasWalksWithin, IsAbove, IsOneBelow, room_left}
use Rattle.plan_witness.specs.Ways.{at}

-- less room is left once a number is raised
pub less_room : (bound : ℕ) (heights : List ℕ) (i height : ℕ) → i < length heights → at heights i < height → height ≤ bound → room_left bound (set heights i height) < room_left bound heights
less_room bound [] i height l up most = absurd (omega (arith, l))
less_room bound (x ∷ xs) zero height l up most = omega (arith, up, most)
less_room bound (x ∷ xs) (suc i) height l up most = let r = less_room bound xs i height (omega (arith, l)) up most in omega (arith, r)

-- a walk that goes on by a follower
pub goes_one_more : (next : ℕ → List ℕ) (heights : List ℕ) (i height j : ℕ) → IsOneBelow next heights i height j → GoesFor next j (at heights j) → GoesFor next i height
goes_one_more next heights i height j b w = record { rest = j ∷ w.rest; walk = (b.follows, w.walk); long = let e = w.long in let h = b.lower in omega (arith, e, h) }

module _ (n : ℕ) (next : ℕ → List ℕ) (stays : StaysBelow n next) where
  pub attained_more : (heights : List ℕ) (i height j : ℕ) → AreAttained n next heights → i < n → IsOneBelow next heights i height j → AreAttained n next (set heights i height)
  attained_more heights i height j a l b =
      let lt : i < length heights = (let c = a.count in omega (arith, c, l)) in
      record {
        count = length-set heights i height ∙ a.count;
        each = λ k below.
            ⊎_elim
            (λ (e : k ≡ i).
            subst (λ m. GoesFor next m (at (set heights i height) m)) (sym e)
            (subst (GoesFor next i) (sym (get_or-set_same heights i height 0 lt)) (goes_one_more next heights i height j b (a.each j (stays i j l b.follows)))))
            (λ (ne : k ≡ i → ⊥). subst (GoesFor next k) (sym (get_or-set_other heights i k height 0 ne)) (a.each k below))
            (cases_eq k i);
      }

  -- a height above a follower is within the bound
  pub within_bound : (bound : ℕ) (heights : List ℕ) (i j : ℕ) → HasWalksWithin n next bound → AreAttained n next heights → i < n → Contains (next i) j → at heights j + 1 ≤ bound
  within_bound bound heights i j within a l c =
      let w = a.each j (stays i j l c) in
      let m = within i (j ∷ w.rest) l (c, w.walk) in
      let e = w.long in
      omega (arith, m, e)

  -- no walk is longer than the height
  pub walk_low : (heights : List ℕ) → AreHeights n next heights → (i : ℕ) (rest : List ℕ) → i < n → IsWalk next i rest → length rest ≤ at heights i
  walk_low heights h i [] l w = omega arith
  walk_low heights h i (j ∷ rest) l w =
      let r = walk_low heights h j rest (stays i j l w.0) w.1 in
      let a = h.above i l j w.0 in
      omega (arith, r, a)

  -- a number that isn't the lowest has a follower that is one lower
  pub below_it : (heights : List ℕ) → AreHeights n next heights → (i : ℕ) → i < n → 0 < at heights i → (j : ℕ) × IsOneBelow next heights i (at heights i) j
  below_it heights h i l high = let w = h.attained.each i l in from w.rest w.walk w.long
    where
      from : (rest : List ℕ) → IsWalk next i rest → length rest ≡ at heights i → (j : ℕ) × IsOneBelow next heights i (at heights i) j
      from [] w e = absurd (omega (arith, e, high))
      from (j ∷ rest) w e =
          let low = walk_low heights h j rest (stays i j l w.0) w.1 in
          let up = h.above i l j w.0 in
          (j, record { follows = w.0; lower = omega (arith, e, low, up) })

-- what holds between two numbers of a pass
pub record IsRaising (n : ℕ) (next : ℕ → List ℕ) (bound : ℕ) (before heights : List ℕ) (found : Bool) (k : ℕ) : Type 0 where
  pub attained : AreAttained n next heights
  pub less : found ≡ true → room_left bound heights < room_left bound before
  pub at_most : room_left bound heights ≤ room_left bound before
  pub above : found ≡ false → (i : ℕ) → i < n → n ≤ i + k → IsAbove next heights i

pub raising_first : (n : ℕ) (next : ℕ → List ℕ) (bound : ℕ) (heights : List ℕ) → AreAttained n next heights → IsRaising n next bound heights heights false 0
raising_first n next bound heights a = record {
  attained = a;
  less = λ e. absurd (false≢true e);
  at_most = omega arith;
  above = λ e i b far. absurd (omega (arith, b, far));
}

module _ (n : ℕ) (next : ℕ → List ℕ) (bound : ℕ) (before heights : List ℕ) (found : Bool) (k number : ℕ) (p : IsRaising n next bound before heights found k) (is : number + k + 1 ≡ n) where
  pub raising_found : (higher : List ℕ) → AreAttained n next higher → room_left bound higher < room_left bound heights → IsRaising n next bound before higher true (k + 1)
  raising_found higher a less = record {
    attained = a;
    less = λ e. let m = p.at_most in omega (arith, less, m);
    at_most = let m = p.at_most in omega (arith, less, m);
    above = λ e. absurd (false≢true (sym e));
  }

  pub raising_same : IsAbove next heights number → IsRaising n next bound before heights found (k + 1)
  raising_same here = record {
    attained = p.attained;
    less = p.less;
    at_most = p.at_most;
    above = λ e i b far.
        ⊎_elim
        (λ (same : i ≡ number). subst (IsAbove next heights) (sym same) here)
        (λ (other : i ≡ number → ⊥). p.above e i b (omega (arith, other, far, is)))
        (cases_eq i number);
  }
