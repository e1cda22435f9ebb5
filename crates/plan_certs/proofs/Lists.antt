-- Lists of sets, and lists of different elements.
use Rattle.std.proofs.Common.{◌≡◌, ℕ, zero, suc, ◌<◌, true, false, ◌⊎◌, inl, inr, List, [], ◌∷◌, take, length, arith, ⊎_elim}
use Rattle.std.proofs.lemmas.Bool.{false≢true, or_cases, or_left, or_right}
use Rattle.task_core.specs.Vectors.{Vector}
use Rattle.plan_certs.specs.Certificates.{CubeSet, holds_state, some_holds, set_at}

-- a state that one of the first sets holds is held by an earlier one or by the last of them
pub some_holds-last : (sets : List CubeSet) (i : ℕ) (v : Vector) → some_holds (take (suc i) sets) v ≡ true → (some_holds (take i sets) v ≡ true) ⊎ (holds_state (set_at sets i) v ≡ true)
some_holds-last [] i v h = absurd (false≢true h)
some_holds-last (set ∷ sets) zero v h = ⊎_elim (λ e. inr e) (λ k. absurd (false≢true k)) (or_cases (holds_state set v) false h)
some_holds-last (set ∷ sets) (suc i) v h =
    ⊎_elim (λ e. inl (or_left (holds_state set v) (some_holds (take i sets) v) e))
    (λ k. ⊎_elim (λ e. inl (or_right (holds_state set v) (some_holds (take i sets) v) e)) (λ e. inr e) (some_holds-last sets i v k))
    (or_cases (holds_state set v) (some_holds (take (suc i) sets) v) h)

-- the number of a set that holds a state, and that some set does where one of a number does
pub number_of_set : (sets : List CubeSet) (v : Vector) → some_holds sets v ≡ true → (i : ℕ) × (i < length sets) × (holds_state (set_at sets i) v ≡ true)
number_of_set [] v h = absurd (false≢true h)
number_of_set (set ∷ sets) v h =
    ⊎_elim (λ e. (0, omega arith, e)) (λ k. let w = number_of_set sets v k in (suc w.0, (let l : w.0 < length sets = w.1 in omega arith), w.2))
    (or_cases (holds_state set v) (some_holds sets v) h)

pub some_holds-at : (sets : List CubeSet) (i : ℕ) (v : Vector) → i < length sets → holds_state (set_at sets i) v ≡ true → some_holds sets v ≡ true
some_holds-at [] i v l h = absurd (omega arith)
some_holds-at (set ∷ sets) zero v l h = or_left (holds_state set v) (some_holds sets v) h
some_holds-at (set ∷ sets) (suc i) v l h = or_right (holds_state set v) (some_holds sets v) (some_holds-at sets i v (omega arith) h)

-- different elements of a list are no more than it has
