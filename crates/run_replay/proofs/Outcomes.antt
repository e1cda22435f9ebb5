-- A step leads to one of the states to which its action leads.
use Rattle.std.proofs.Common.{◌≡◌, ◌⊎◌, ℕ, zero, suc, ◌+◌, ◌<◌, ◌≤◌, List, [], ◌∷◌, length, Option, Some, None, slice_index_or, arith, refl, sym, ap, subst, ⊎_elim}
use Rattle.std.specs.List.{Contains, cons_option, filter_map, range_with_len}
use Rattle.std.proofs.lemmas.Bool.{cases_lt}
use Rattle.task_core.specs.Vectors.{Vector}
use Rattle.run_replay.specs.TraceLaws.{EachStepHasItsOutcome}

at_front : (x : Option Vector) (xs : List Vector) (t : Vector) → x ≡ Some t → Contains (cons_option x xs) t
at_front x xs t e = rw e (0, omega arith, refl)

behind : (x : Option Vector) (xs : List Vector) (t : Vector) → Contains xs t → Contains (cons_option x xs) t
behind None xs t h = h
behind (Some y) xs t h = let le : h.0 < length xs = h.1 in (suc h.0, omega (arith, le), h.2)

-- what a number gives is among what all of them give
among : (f : ℕ → Option Vector) (from n number : ℕ) (t : Vector) → from ≤ number → number < from + n → f number ≡ Some t
    → Contains (filter_map f (range_with_len from n)) t
among f from zero number t ge lt e = absurd (omega (arith, ge, lt))
among f from (suc n) number t ge lt e =
    ⊎_elim (λ (less : from < number). behind (f from) (filter_map f (range_with_len (from + 1) n)) t
    (among f (from + 1) n number t (omega (arith, less)) (omega (arith, lt)) e))
    (λ (le : number ≤ from). let same : from ≡ number = omega (arith, ge, le) in
    at_front (f from) (filter_map f (range_with_len (from + 1) n)) t (subst (λ k. f k ≡ Some t) (sym same) e))
    (cases_lt from number)

pub have_outcomes : EachStepHasItsOutcome
have_outcomes = λ sys plan s c step numbered is.
    subst (λ (ts : List Vector). Contains ts step.after) (sym (numbered s step.action))
    (among (sys.after s step.action) 0 (sys.outcomes step.action) step.outcome step.after (omega arith) (omega (arith, is.listed)) is.after)
