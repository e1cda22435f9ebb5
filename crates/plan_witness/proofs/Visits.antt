-- A round of visits, step by step.
use Rattle.std.proofs.Common.{◌≡◌, ◌≢◌, ◌⊎◌, ◌↔◌, ◌==◌, ℕ, ◌+◌, ◌<◌, ◌≤◌, Bool, true, false, cond, List, length, set, get_or, refl, sym, ap, ◌∙◌, subst, arith, ⊎_elim, inl, inr}
use Rattle.std.specs.List.{Contains}
use borrow.Author.Count.{below_more}
use Rattle.std.proofs.lemmas.Bool.{cases_eq, eq-eqb, ne_eqb}
use Rattle.std.proofs.lemmas.List.{get_or-set_other, length-set}
use Rattle.std.proofs.lemmas.List.Sums.{count_by-le-length, sum_by-set}
use Rattle.std.proofs.lemmas.Grind.{get_or_default_zero, get_or-set_at}
use Rattle.plan_check.specs.Walks.{IsMarked, StaysBelow}
use Rattle.plan_witness.specs.Ways.{AreWays, HasGrown, IsRound, IsStepBack, IsVisiting, at, far, far_count}

abbrev far_one : ℕ → ℕ
far_one x = cond (x == far) 1 0

-- a way is found to f
module _ (n : ℕ) (next : ℕ → List ℕ) (lengths before : List ℕ) (now number f : ℕ) (stays : StaysBelow n next) (l : number < n) (few : now < 262145)
    (is : at lengths number ≡ now) (r : IsRound n next lengths before now number) (c : Contains (next number) f) (unset : at lengths f ≡ far) where
  pub to_below : f < n
  to_below = stays number f l c

  longer : List ℕ
  longer = set lengths f (now + 1)

  here : (i : ℕ) → i ≡ f → at (set lengths f (now + 1)) i ≡ now + 1
  here i e = get_or-set_at lengths f i (now + 1) 0 e (let k = r.lengths_count in let m = to_below in omega arith)

  other : (i : ℕ) → i ≢ f → at (set lengths f (now + 1)) i ≡ at lengths i
  other i ne = get_or-set_other lengths f i (now + 1) 0 ne

  before_here : (i : ℕ) → i ≡ f → at (set before f number) i ≡ number
  before_here i e = get_or-set_at before f i number 0 e (let k = r.before_count in let m = to_below in omega arith)

  before_other : (i : ℕ) → i ≢ f → at (set before f number) i ≡ at before i
  before_other i ne = get_or-set_other before f i number 0 ne

  -- no number to which a way is known is f
  not_far : (i : ℕ) → at lengths i < far → i ≢ f
  not_far i h e = let s : at lengths i ≡ at lengths f = ap (at lengths) e in omega (arith, s, unset)

  most_more : (i : ℕ) → i < n → at (set lengths f (now + 1)) i < far → at (set lengths f (now + 1)) i ≤ now + 1
  most_more i b h =
      ⊎_elim
      (λ (e : i ≡ f). omega (arith, here i e))
      (λ (ne : i ≢ f). let o = other i ne in let m : at lengths i ≤ now + 1 = r.most i b (omega (arith, o)) in omega (arith, o, m))
      (cases_eq i f)

  earlier_more : (i j : ℕ) → i < n → at (set lengths f (now + 1)) i < now → Contains (next i) j → at (set lengths f (now + 1)) j ≤ at (set lengths f (now + 1)) i + 1
  earlier_more i j b h cj =
      ⊎_elim
      (λ (e : i ≡ f). absurd (let k = here i e in omega (arith, k)))
      (λ (ne : i ≢ f).
      let o = other i ne in
      let old : at lengths j ≤ at lengths i + 1 = r.earlier i j b (omega (arith, o)) cj in
      ⊎_elim
      (λ (e : j ≡ f). let s : at lengths j ≡ at lengths f = ap (at lengths) e in absurd (omega (arith, s, unset, old, o)))
      (λ (nj : j ≢ f). let oj = other j nj in omega (arith, o, oj, old))
      (cases_eq j f))
      (cases_eq i f)

  visited_more : (i j : ℕ) → i < n → i < number → at (set lengths f (now + 1)) i ≡ now → Contains (next i) j → at (set lengths f (now + 1)) j ≤ now + 1
  visited_more i j b d h cj =
      ⊎_elim
      (λ (e : i ≡ f). absurd (let k = here i e in omega (arith, k)))
      (λ (ne : i ≢ f).
      let o = other i ne in
      let old : at lengths j ≤ now + 1 = r.visited i j b d (sym o ∙ h) cj in
      ⊎_elim
      (λ (e : j ≡ f). let k = here j e in omega (arith, k))
      (λ (nj : j ≢ f). let oj = other j nj in omega (arith, oj, old))
      (cases_eq j f))
      (cases_eq i f)

  back_here : (i : ℕ) → i ≡ f → IsStepBack n next (set lengths f (now + 1)) (set before f number) i
  back_here i e =
      let b = before_here i e in
      record {
        below = subst (λ k. k < n) (sym b) l;
        follows = subst (λ k. Contains (next k) i) (sym b) (subst (Contains (next number)) (sym e) c);
        longer = ap (λ k. at (set lengths f (now + 1)) k + 1) b
            ∙ ap (λ k. k + 1) (other number (not_far number (omega (arith, is))) ∙ is)
            ∙ sym (here i e);
      }

  back_other : (i : ℕ) → i ≢ f → at lengths i < far → IsStepBack n next lengths before i → IsStepBack n next (set lengths f (now + 1)) (set before f number) i
  back_other i ne h old =
      let b = before_other i ne in
      let from = at before i in
      let lo = old.longer in
      record {
        below = subst (λ k. k < n) (sym b) old.below;
        follows = subst (λ k. Contains (next k) i) (sym b) old.follows;
        longer = ap (λ k. at (set lengths f (now + 1)) k + 1) b
            ∙ ap (λ k. k + 1) (other from (not_far from (omega (arith, lo, h))))
            ∙ lo ∙ sym (other i ne);
      }

  back_more : (i : ℕ) → i < n → 0 < at (set lengths f (now + 1)) i → at (set lengths f (now + 1)) i < far → IsStepBack n next (set lengths f (now + 1)) (set before f number) i
  back_more i b some h =
      ⊎_elim
      (λ (e : i ≡ f). back_here i e)
      (λ (ne : i ≢ f). let o = other i ne in let lt : at lengths i < far = omega (arith, o, h) in back_other i ne lt (r.back i b (omega (arith, o, some)) lt))
      (cases_eq i f)

  pub found_round : IsRound n next (set lengths f (now + 1)) (set before f number) now number
  found_round = record {
    lengths_count = length-set lengths f (now + 1) ∙ r.lengths_count;
    before_count = length-set before f number ∙ r.before_count;
    most = most_more;
    earlier = earlier_more;
    visited = visited_more;
    back = back_more;
  }

  pub found_fewer : far_count (set lengths f (now + 1)) < far_count lengths
  found_fewer =
      let lt : f < length lengths = (let k = r.lengths_count in let m = to_below in omega arith) in
      let s : far_count (set lengths f (now + 1)) + far_one (at lengths f) ≡ far_count lengths + far_one (now + 1) = sum_by-set far_one lengths f (now + 1) 0 lt in
      let a : far_one (at lengths f) ≡ 1 = ap (λ b. cond b 1 0) (eq-eqb (at lengths f) far unset) in
      let z : far_one (now + 1) ≡ 0 = ap (λ b. cond b 1 0) (ne_eqb (now + 1) far (λ e. omega (arith, e, few))) in
      omega (arith, s, a, z)

  pub found_zeros : (i : ℕ) → (at (set lengths f (now + 1)) i ≡ 0) ↔ (at lengths i ≡ 0)
  found_zeros i =
      ⊎_elim
      (λ (e : i ≡ f). ((λ z. absurd (let k = here i e in omega (arith, k, z))), (λ z. absurd (let s : at lengths i ≡ at lengths f = ap (at lengths) e in omega (arith, s, unset, z)))))
      (λ (ne : i ≢ f). let o = other i ne in ((λ z. sym o ∙ z), (λ z. o ∙ z)))
      (cases_eq i f)

  pub found_here : at (set lengths f (now + 1)) number ≡ now
  found_here = other number (not_far number (omega (arith, is))) ∙ is

  pub found_passed : (j : ℕ) → (at lengths j ≤ now + 1) ⊎ (j ≡ f) → at (set lengths f (now + 1)) j ≤ now + 1
  found_passed j h =
      ⊎_elim
      (λ (e : j ≡ f). let k = here j e in omega (arith, k))
      (λ (ne : j ≢ f). let o = other j ne in ⊎_elim (λ (old : at lengths j ≤ now + 1). omega (arith, o, old)) (λ (e : j ≡ f). absurd (ne e)) h)
      (cases_eq j f)

-- where each follower has a way, its number was visited
pub visited_round : (n : ℕ) (next : ℕ → List ℕ) (lengths before : List ℕ) (now number : ℕ) → IsRound n next lengths before now number
    → ((m : ℕ) → m < length (next number) → at lengths (get_or (next number) m 0) ≤ now + 1)
    → IsRound n next lengths before now (number + 1)
visited_round n next lengths before now number r passed = record {
  lengths_count = r.lengths_count;
  before_count = r.before_count;
  most = r.most;
  earlier = r.earlier;
  visited = each;
  back = r.back;
}
  where
    reached : (j : ℕ) → Contains (next number) j → at lengths j ≤ now + 1
    reached j (k, lt, same) = subst (λ x. at lengths x ≤ now + 1) (same_at (next number) k j lt same) (passed k lt)
      where
        same_at : (xs : List ℕ) (k j : ℕ) → k < length xs → get_or xs k j ≡ j → get_or xs k 0 ≡ j
        same_at xs k j lt same = sym (get_or_default_zero xs k j lt) ∙ same

    each : (i j : ℕ) → i < n → i < number + 1 → at lengths i ≡ now → Contains (next i) j → at lengths j ≤ now + 1
    each i j b d is cj =
        ⊎_elim
        (λ (e : i ≡ number). reached j (subst (λ k. Contains (next k) j) e cj))
        (λ (ne : i ≢ number). r.visited i j b (omega (arith, ne)) is cj)
        (cases_eq i number)

-- a number to which the way has another length isn't visited in this round
pub skipped_round : (n : ℕ) (next : ℕ → List ℕ) (lengths before : List ℕ) (now number : ℕ) → IsRound n next lengths before now number
    → at lengths number ≢ now → IsRound n next lengths before now (number + 1)
skipped_round n next lengths before now number r other = record {
  lengths_count = r.lengths_count;
  before_count = r.before_count;
  most = r.most;
  earlier = r.earlier;
  visited = λ i j b d is cj.
      ⊎_elim
      (λ (e : i ≡ number). absurd (other (sym (ap (at lengths) e) ∙ is)))
      (λ (ne : i ≢ number). r.visited i j b (omega (arith, ne)) is cj)
      (cases_eq i number);
  back = r.back;
}

-- the next round may begin
pub next_round : (n : ℕ) (next : ℕ → List ℕ) (lengths before : List ℕ) (now : ℕ) → IsRound n next lengths before now n → IsRound n next lengths before (now + 1) 0
next_round n next lengths before now r = record {
  lengths_count = r.lengths_count;
  before_count = r.before_count;
  most = λ i b h. let m = r.most i b h in omega (arith, m);
  earlier = λ i j b h cj.
      ⊎_elim
      (λ (e : at lengths i ≡ now). let v = r.visited i j b b e cj in omega (arith, e, v))
      (λ (ne : at lengths i ≢ now). r.earlier i j b (omega (arith, ne, h)) cj)
      (cases_eq (at lengths i) now);
  visited = λ i j b d. absurd (omega (arith, d));
  back = r.back;
}

-- nothing has grown, and then nothing again, or something
pub grown_none : (lengths : List ℕ) → HasGrown lengths lengths false
grown_none lengths = record {
  zeros = λ i. ((λ z. z), (λ z. z));
  more = λ e. absurd (cc);
  same = λ e. refl;
  fewer = omega arith;
}

pub grown_more : (first before after : List ℕ) (found : Bool) → HasGrown first before found → HasGrown before after true → HasGrown first after true
grown_more first before after found a b = record {
  zeros = λ i. ((λ z. (a.zeros i).0 ((b.zeros i).0 z)), (λ z. (b.zeros i).1 ((a.zeros i).1 z)));
  more = λ e. let m = b.more e in let f = a.fewer in omega (arith, m, f);
  same = λ e. absurd (cc);
  fewer = let x = b.fewer in let f = a.fewer in omega (arith, x, f);
}

pub grown_same : (first before after : List ℕ) (found : Bool) → HasGrown first before found → HasGrown before after false → HasGrown first after found
grown_same first before after found a b = subst (λ xs. HasGrown first xs found) (sym (b.same refl)) a

-- before the first round
pub first_round : (n : ℕ) (next : ℕ → List ℕ) (lengths before : List ℕ) (starts : List Bool) → length lengths ≡ n → length before ≡ n
    → ((i : ℕ) → i < n → at lengths i ≡ cond (get_or starts i false) 0 far) → IsRound n next lengths before 0 0
first_round n next lengths before starts a b each = record {
  lengths_count = a;
  before_count = b;
  most = λ i l h. ⊎_elim (λ (z : at lengths i ≡ 0). omega (arith, z)) (λ (f : at lengths i ≡ far). absurd (omega (arith, f, h))) (either i l);
  earlier = λ i j l h. absurd (omega (arith, h));
  visited = λ i j l h. absurd (omega (arith, h));
  back = λ i l some h. ⊎_elim (λ (z : at lengths i ≡ 0). absurd (omega (arith, z, some))) (λ (f : at lengths i ≡ far). absurd (omega (arith, f, h))) (either i l);
}
  where
    by : (b : Bool) (x : ℕ) → x ≡ cond b 0 far → (x ≡ 0) ⊎ (x ≡ far)
    by true x e = inl e
    by false x e = inr e

    either : (i : ℕ) → i < n → (at lengths i ≡ 0) ⊎ (at lengths i ≡ far)
    either i l = by (get_or starts i false) (at lengths i) (each i l)

pub marked_zero : (b : Bool) (x : ℕ) → x ≡ cond b 0 far → (b ≡ true) ↔ (x ≡ 0)
marked_zero true x e = ((λ _. e), (λ _. refl))
marked_zero false x e = ((λ h. absurd (cc)), (λ z. absurd (omega (arith, e, z))))

-- after a round in which no way was found
pub made_ways : (n : ℕ) (next : ℕ → List ℕ) (starts : List Bool) (lengths before : List ℕ) (now : ℕ) → now ≤ n → n ≤ 262144 → IsRound n next lengths before now n
    → ((i : ℕ) → i < n → at lengths i < far → at lengths i ≤ now)
    → ((i : ℕ) → i < n → IsMarked starts i ↔ (at lengths i ≡ 0))
    → AreWays n next starts lengths before
made_ways n next starts lengths before now few most r reached begun = record {
  lengths_count = r.lengths_count;
  before_count = r.before_count;
  begun = begun;
  settled = settled;
  reaches = λ i j l h c. let s : at lengths j ≤ at lengths i + 1 = settled i j l h c in let m : at lengths i ≤ now = reached i l h in omega (arith, s, m);
  back = r.back;
}
  where
    settled : (i j : ℕ) → i < n → at lengths i < far → Contains (next i) j → at lengths j ≤ at lengths i + 1
    settled i j l h c =
        let m : at lengths i ≤ now = reached i l h in
        ⊎_elim
        (λ (e : at lengths i ≡ now). let v : at lengths j ≤ now + 1 = r.visited i j l l e c in omega (arith, e, v))
        (λ (ne : at lengths i ≢ now). r.earlier i j l (omega (arith, ne, m)) c)
        (cases_eq (at lengths i) now)

-- a follower is looked at
module _ (n : ℕ) (next : ℕ → List ℕ) (lengths before : List ℕ) (now number k f : ℕ) (stays : StaysBelow n next) (l : number < n) (few : now < 262145)
    (v : IsVisiting n next lengths before now number k) (lt : k < length (next number)) (at_k : f ≡ get_or (next number) k 0) where
  pub follows : Contains (next number) f
  follows = (k, lt, get_or_default_zero (next number) k f lt ∙ sym at_k)

  pub visiting_known : at lengths f < far → IsVisiting n next lengths before now number (k + 1)
  visiting_known h = record {
    round = v.round;
    here = v.here;
    passed = below_more (λ m. at lengths (get_or (next number) m 0) ≤ now + 1) k v.passed
        (subst (λ j. at lengths j ≤ now + 1) at_k (v.round.most f (stays number f l follows) h));
  }

  pub visiting_found : at lengths f ≡ far → IsVisiting n next (set lengths f (now + 1)) (set before f number) now number (k + 1)
  visiting_found h = record {
    round = found_round n next lengths before now number f stays l few v.here v.round follows h;
    here = found_here n next lengths before now number f stays l few v.here v.round follows h;
    passed = below_more (λ m. at (set lengths f (now + 1)) (get_or (next number) m 0) ≤ now + 1) k
        (λ m b. found_passed n next lengths before now number f stays l few v.here v.round follows h (get_or (next number) m 0) (inl (v.passed m b)))
        (found_passed n next lengths before now number f stays l few v.here v.round follows h (get_or (next number) k 0) (inr (sym at_k)));
  }

  pub grown_found : at lengths f ≡ far → HasGrown lengths (set lengths f (now + 1)) true
  grown_found h = record {
    zeros = found_zeros n next lengths before now number f stays l few v.here v.round follows h;
    more = λ e. found_fewer n next lengths before now number f stays l few v.here v.round follows h;
    same = λ e. absurd (cc);
    fewer = let m = found_fewer n next lengths before now number f stays l few v.here v.round follows h in omega (arith, m);
  }

pub reached_first : (b : Bool) (x : ℕ) → x ≡ cond b 0 far → x < far → x ≤ 0
reached_first true x e h = omega (arith, e)
reached_first false x e h = absurd (omega (arith, e, h))

pub far_few : (lengths : List ℕ) → far_count lengths ≤ length lengths
far_few lengths = count_by-le-length (λ x. x == far) lengths
