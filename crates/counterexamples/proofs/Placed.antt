-- Where a state stands among others.
use Rattle.std.proofs.Common.{◌≡◌, ℕ, zero, suc, ◌+◌, ◌<◌, Bool, true, false, List, [], ◌∷◌, Contains, drop, get_or, length, map, slice_get, Some, refl, sym, ap, ◌∙◌, subst, arith}
use Rattle.std.specs.Prelude.{if◌then◌else◌}
use Rattle.std.specs.List.{All}
use Rattle.std.proofs.Math.Seq.{drop-cons}
use Rattle.std.proofs.lemmas.Bool.{false≢true}
use Rattle.task_core.specs.States.{IsWithin, vector}
use Rattle.task_core.specs.Vectors.{Vector, same_vector}
use Rattle.task_core.specs.declared.states.State.{State}
use Rattle.task_core.proofs.StateLists.{same_as_vectors, state_eq}
use Rattle.task_core.proofs.Vectors.{same_vector_equal, same_vector_refl}
use Rattle.counterexamples.specs.Places.{place_in}

-- a state is looked at
pub looked : (n : ℕ) (xs : List State) (i : ℕ) (s w : State) → All (IsWithin n) xs → IsWithin n w → i < length xs → s ≡ get_or xs i s
    → place_in (map (vector n) (drop i xs)) (vector n w) ≡ (if state_eq s w then 0 else suc (place_in (map (vector n) (drop (suc i) xs)) (vector n w)))
looked n xs i s w wx ww l is =
    let within : IsWithin n s = subst (IsWithin n) (sym is) (wx i s l) in
    let rest = place_in (map (vector n) (drop (suc i) xs)) (vector n w) in
    ap (λ ys. place_in (map (vector n) ys) (vector n w)) (drop-cons xs i s l)
    ∙ ap (λ q. place_in (map (vector n) (q ∷ drop (suc i) xs)) (vector n w)) (sym is)
    ∙ ap (λ b. if b then 0 else suc rest) (sym (same_as_vectors n s w within ww))

pub looked_at : (n : ℕ) (xs : List State) (i : ℕ) (s w : State) (whole : ℕ) → All (IsWithin n) xs → IsWithin n w → i < length xs → s ≡ get_or xs i s
    → state_eq s w ≡ true → i + place_in (map (vector n) (drop i xs)) (vector n w) ≡ whole → i ≡ whole
looked_at n xs i s w whole wx ww l is same total =
    let here : place_in (map (vector n) (drop i xs)) (vector n w) ≡ 0 = looked n xs i s w wx ww l is ∙ ap (λ b. if b then 0 else suc (place_in (map (vector n) (drop (suc i) xs)) (vector n w))) same in
    omega (arith, here, total)

pub looked_past : (n : ℕ) (xs : List State) (i : ℕ) (s w : State) (whole : ℕ) → All (IsWithin n) xs → IsWithin n w → i < length xs → s ≡ get_or xs i s
    → state_eq s w ≡ false → i + place_in (map (vector n) (drop i xs)) (vector n w) ≡ whole → (i + 1) + place_in (map (vector n) (drop (i + 1) xs)) (vector n w) ≡ whole
looked_past n xs i s w whole wx ww l is other total =
    let next : suc i ≡ i + 1 = omega arith in
    let here : place_in (map (vector n) (drop i xs)) (vector n w) ≡ suc (place_in (map (vector n) (drop (suc i) xs)) (vector n w)) = looked n xs i s w wx ww l is ∙ ap (λ b. if b then 0 else suc (place_in (map (vector n) (drop (suc i) xs)) (vector n w))) other in
    let moved : i + suc (place_in (map (vector n) (drop (suc i) xs)) (vector n w)) ≡ (i + 1) + place_in (map (vector n) (drop (suc i) xs)) (vector n w) = omega arith in
    sym (moved ∙ ap (λ k. (i + 1) + place_in (map (vector n) (drop k xs)) (vector n w)) next) ∙ ap (λ k. i + k) (sym here) ∙ total

-- a state of the list stands at its place
stands_by : (w : Vector) (ws : List Vector) (v : Vector) (b : Bool) → same_vector w v ≡ b → ((h : Contains ws v) → slice_get ws (place_in ws v) ≡ Some v) → Contains (w ∷ ws) v
    → slice_get (w ∷ ws) (if same_vector w v then 0 else suc (place_in ws v)) ≡ Some v
stands_by w ws v true e rest h = ap (λ b. slice_get (w ∷ ws) (if b then 0 else suc (place_in ws v))) e ∙ ap Some (same_vector_equal w v e)
stands_by w ws v false e rest (zero, l, is) = absurd (false≢true (sym e ∙ ap (λ x. same_vector x v) is ∙ same_vector_refl v))
stands_by w ws v false e rest (suc k, l, is) = ap (λ b. slice_get (w ∷ ws) (if b then 0 else suc (place_in ws v))) e ∙ rest (k, omega (arith, l), is)

pub stands : (vs : List Vector) (v : Vector) → Contains vs v → slice_get vs (place_in vs v) ≡ Some v
stands [] v (k, l, is) = absurd (omega (arith, l))
stands (w ∷ ws) v at = stands_by w ws v (same_vector w v) refl (stands ws v) at
