-- Truth values set one after another.
use Rattle.std.proofs.Common.{◌≡◌, ℕ, ◌+◌, ◌<◌, ◌≤◌, Bool, false, inl, inr, length, ap, sym, ◌∙◌, arith, if◌then◌else◌}
use Rattle.std.specs.Prelude.{nat_lt}
use Rattle.std.specs.List.{range_with_len}
use Rattle.std.proofs.lemmas.Bool.{cases_eq, cases_lt, lt-ltb, le-ltb}
use Rattle.std.proofs.lemmas.List.{get_or_default, get_or_past, same_lists, length-map}
use Rattle.std.proofs.lemmas.List.FromFn.{get_or-map-range_with_len, length-range_with_len}
use Rattle.task_core.specs.States.{IsWithin, truth, vector}
use Rattle.task_core.specs.Vectors.{Vector, value_of}
use Rattle.task_core.specs.declared.states.State.{State}

-- below k as wanted, and false from there on
abbrev pub below : (ℕ → Bool) → ℕ → ℕ → Bool
below wanted k f = if nat_lt f k then wanted f else false

below_in : (wanted : ℕ → Bool) (k f : ℕ) → f < k → below wanted k f ≡ wanted f
below_in wanted k f lt = ap (λ b. if b then wanted f else false) (lt-ltb f k lt)

below_out : (wanted : ℕ → Bool) (k f : ℕ) → k ≤ f → below wanted k f ≡ false
below_out wanted k f le = ap (λ b. if b then wanted f else false) (le-ltb f k le)

pub below_more : (before after wanted : ℕ → Bool) (k : ℕ) → ((f : ℕ) → before f ≡ below wanted k f) → after k ≡ wanted k
    → ((g : ℕ) → (g ≡ k → ⊥) → after g ≡ before g) → (f : ℕ) → after f ≡ below wanted (k + 1) f
below_more before after wanted k so_far here others f = elim (cases_eq f k) [
  | inl is ↦ ap after is ∙ here ∙ ap wanted (sym is) ∙ sym (below_in wanted (k + 1) f (omega arith))
  | inr apart ↦ others f apart ∙ so_far f ∙ elim (cases_lt f k) [
    | inl lt ↦ below_in wanted k f lt ∙ sym (below_in wanted (k + 1) f (omega arith))
    | inr le ↦ below_out wanted k f le ∙ sym (below_out wanted (k + 1) f (further f k apart le))
  ]
]
  where
    further : (f k : ℕ) → (f ≡ k → ⊥) → k ≤ f → k + 1 ≤ f
    further f k apart le = omega arith

pub all_below : (v : Vector) (n f : ℕ) → length v ≤ n → below (value_of v) n f ≡ value_of v f
all_below v n f past = elim (cases_lt f n) [
  | inl lt ↦ below_in (value_of v) n f lt
  | inr le ↦ below_out (value_of v) n f le ∙ sym (get_or_past v f false (omega arith))
]

-- a state whose truth values are those of a list
pub vector_is : (v : Vector) (s : State) → ((f : ℕ) → truth s f ≡ value_of v f) → vector (length v) s ≡ v
vector_is v s same =
    same_lists (vector (length v) s) v count (λ k d lt. get_or-map-range_with_len (truth s) 0 (length v) k k d (omega (arith, count)) (omega arith) ∙ same k ∙ get_or_default v k false d (omega (arith, count)))
  where
    count : length (vector (length v) s) ≡ length v
    count = length-map (range_with_len 0 (length v)) (truth s) ∙ length-range_with_len 0 (length v)

pub within_is : (v : Vector) (s : State) → ((f : ℕ) → truth s f ≡ value_of v f) → IsWithin (length v) s
within_is v s same = λ f le. same f ∙ get_or_past v f false le
