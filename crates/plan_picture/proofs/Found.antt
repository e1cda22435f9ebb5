-- Where a configuration stands among others.
use Rattle.std.proofs.Common.{◌≡◌, ℕ, zero, suc, ◌+◌, ◌<◌, ◌⊎◌, inl, inr, ⊎_elim, Bool, true, false, cond, List, [], ◌∷◌, ◌++◌, drop, get_or, length, slice_get, Some, refl, sym, ap, ◌∙◌, subst, arith}
use Rattle.std.proofs.Math.Seq.{drop-cons}
use Rattle.std.proofs.lemmas.Bool.{cond-true, cond-false}
use Rattle.std.proofs.lemmas.Option.{none-some, same_Some, slice_get_within, get_or_from_slice_get}
use Rattle.exec_graph.proofs.Listed.{get-front, get-last}
use Rattle.exec_graph.proofs.Places.{place_eq, same_places, same_configuration_equal, same_configuration_refl}
use Rattle.exec_graph.specs.Counting.{same_configuration}
use Rattle.exec_graph.specs.Moves.{configuration_of}
use Rattle.exec_graph.specs.declared.graphs.Place.{Place}
use Rattle.task_core.specs.States.{IsWithin}
use Rattle.task_core.specs.ContextPlans.{Configuration}
use Rattle.plan_picture.specs.Places.{AreWithin, configurations_of, place_from}

-- a place is looked at
pub looked : (n : ℕ) (xs : List Place) (i : ℕ) (p w : Place) → AreWithin n xs → IsWithin n w.state → slice_get xs i ≡ Some p
    → place_from i (configurations_of n (drop i xs)) (configuration_of n w)
    ≡ cond (place_eq p w) (Some i) (place_from (suc i) (configurations_of n (drop (suc i) xs)) (configuration_of n w))
looked n xs i p w wx ww e =
    let below = slice_get_within xs i p e in
    let at : get_or xs i p ≡ p = get_or_from_slice_get xs i p p e in
    let within : IsWithin n p.state = subst (λ (q : Place). IsWithin n q.state) at (wx i p below) in
    let rest = place_from (suc i) (configurations_of n (drop (suc i) xs)) (configuration_of n w) in
    ap (λ ys. place_from i (configurations_of n ys) (configuration_of n w)) (drop-cons xs i p below)
    ∙ ap (λ q. place_from i (configurations_of n (q ∷ drop (suc i) xs)) (configuration_of n w)) at
    ∙ ap (λ b. cond b (Some i) rest) (sym (same_places n p w within ww))

-- no configuration stands at two places
abbrev pub AreDistinct : List Configuration → Type 0
AreDistinct places = (i j : ℕ) (x : Configuration) → slice_get places i ≡ Some x → slice_get places j ≡ Some x → i ≡ j

-- what is found stands there
pub record IsFound (k : ℕ) (ys : List Configuration) (x : Configuration) (i : ℕ) : Type 0 where
  pub number : ℕ
  pub is : i ≡ k + number
  pub there : slice_get ys number ≡ Some x

pub found : (k : ℕ) (ys : List Configuration) (x : Configuration) (i : ℕ) → place_from k ys x ≡ Some i → IsFound k ys x i
found k [] x i e = absurd (none-some i e)
found k (y ∷ ys) x i e = go (same_configuration y x) refl (found (suc k) ys x i)
  where
    go : (b : Bool) → same_configuration y x ≡ b → (place_from (suc k) ys x ≡ Some i → IsFound (suc k) ys x i) → IsFound k (y ∷ ys) x i
    go true h rest =
        let s : k ≡ i = same_Some k i (sym (cond-true (same_configuration y x) (Some k) (place_from (suc k) ys x) h) ∙ e) in
        record { number = 0; is = omega (arith, s); there = ap Some (same_configuration_equal y x h) }
    go false h rest =
        let r = rest (sym (cond-false (same_configuration y x) (Some k) (place_from (suc k) ys x) h) ∙ e) in
        record { number = suc r.number; is = omega (arith, r.is); there = r.there }

-- and what stands somewhere is found there, where it stands nowhere else
pub finds : (k : ℕ) (ys : List Configuration) (x : Configuration) (j : ℕ) → AreDistinct ys → slice_get ys j ≡ Some x → place_from k ys x ≡ Some (k + j)
finds k [] x j differ e = absurd (none-some x e)
finds k (y ∷ ys) x zero differ e =
    let same : y ≡ x = same_Some y x e in
    let h : same_configuration y x ≡ true = ap (λ z. same_configuration z x) same ∙ same_configuration_refl x in
    cond-true (same_configuration y x) (Some k) (place_from (suc k) ys x) h ∙ ap Some (omega arith)
finds k (y ∷ ys) x (suc j) differ e =
    go (same_configuration y x) refl (finds (suc k) ys x j (λ a b z f g. let d = differ (suc a) (suc b) z f g in omega (arith, d)) e)
  where
    go : (b : Bool) → same_configuration y x ≡ b → place_from (suc k) ys x ≡ Some (suc k + j) → place_from k (y ∷ ys) x ≡ Some (k + suc j)
    go true h rest =
        let d : 0 ≡ suc j = differ 0 (suc j) x (ap Some (same_configuration_equal y x h)) e in absurd (omega (arith, d))
    go false h rest = cond-false (same_configuration y x) (Some k) (place_from (suc k) ys x) h ∙ rest ∙ ap Some (omega arith)

-- one more in a list that lists the values of a function
pub below_last : (a b : ℕ) → a < suc b → (a < b) ⊎ (b ≡ a)
below_last zero zero l = inr refl
below_last zero (suc b) l = inl (omega arith)
below_last (suc a) zero l = absurd (omega arith)
below_last (suc a) (suc b) l = ⊎_elim (λ (h : a < b). inl (omega arith)) (λ (h : b ≡ a). inr (ap suc h)) (below_last a b (omega arith))

pub get_pushed : {X : Type 0} (xs : List X) (x : X) (k i : ℕ) (y : X) → length xs ≡ k → i < suc k → (i < k → slice_get xs i ≡ Some y) → (k ≡ i → x ≡ y)
    → slice_get (xs ++ x ∷ []) i ≡ Some y
get_pushed xs x k i y l b old new =
    ⊎_elim
    (λ (h : i < k). get-front xs (x ∷ []) i y (old h))
    (λ (h : k ≡ i). ap (slice_get (xs ++ x ∷ [])) (sym h ∙ sym l) ∙ get-last xs x ∙ ap Some (new h))
    (below_last i k b)

pub pushed_cases : {X : Type 0} (xs : List X) (x : X) (i : ℕ) (y : X) → slice_get (xs ++ x ∷ []) i ≡ Some y → (slice_get xs i ≡ Some y) ⊎ ((i ≡ length xs) × (x ≡ y))
pushed_cases [] x zero y e = inr (refl, same_Some x y e)
pushed_cases [] x (suc i) y e = absurd (none-some y e)
pushed_cases (z ∷ zs) x zero y e = inl e
pushed_cases (z ∷ zs) x (suc i) y e = ⊎_elim (λ d. inl d) (λ p. inr (ap suc p.0, p.1)) (pushed_cases zs x i y e)
