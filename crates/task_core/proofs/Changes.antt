-- What the changes of an outcome do to one fluent.
use Rattle.std.proofs.Common.{◌≡◌, ℕ, ◌+◌, ◌<◌, ◌≤◌, Bool, true, false, ◌&&◌, ◌||◌, ◌==◌, cond, nat_lt, List, [], ◌∷◌, length, get_or, take, refl, sym, ◌∙◌, ap, ⊎_elim, arith}
use Rattle.std.specs.Prelude.{Vec, vec_len}
use Rattle.std.specs.declared.alloc.Global.{Global}
use mathlib.Core.Bool.{beq}
use Rattle.std.specs.List.{list_all, list_any}
use Rattle.std.proofs.lemmas.List.Folds.{list_any_more}
use Rattle.std.proofs.lemmas.Bool.{and_parts, and_from, and_left, and_right, or_from, or_parts, cases_eq, eqb-false, ne_eqb, ltb-true, lt-ltb, false≢true}
use Rattle.task_core.specs.Vectors.{same_value}
use Rattle.task_core.specs.Conditions.{holds, ids_below}
use Rattle.task_core.specs.Initial.{lit_within, names_it}
use Rattle.task_core.specs.Actions.{change_makes, deletes, after_value, change_within, outcome_within}
use Rattle.task_core.specs.declared.literals.Lit.{Lit}
use Rattle.task_core.specs.declared.actions.Change.{Change}
use Rattle.task_core.specs.declared.actions.Outcome.{Outcome}
use Rattle.task_core.proofs.Agreement.{ids_below_widen}

-- one more change: where it makes fluent f so the value is `positive`, else as before
pub one_more : (xs : List Change) (i : ℕ) (x : Change) (positive : Bool) (old : ℕ → Bool) (f : ℕ) (before next now : Bool) → i < length xs → x ≡ get_or xs i x → before ≡ cond (list_any (change_makes positive old f) (take i xs)) positive next → now ≡ cond (change_makes positive old f x) positive before → now ≡ cond (list_any (change_makes positive old f) (take (i + 1) xs)) positive next
one_more xs i x positive old f before next now within is earlier later =
    let p = change_makes positive old f in
    let this : p (get_or xs i x) ≡ p x = ap p (sym is) in
    let more : list_any p (take (i + 1) xs) ≡ (list_any p (take i xs) || p x) = list_any_more p xs i x within ∙ ap (λ b. list_any p (take i xs) || b) this in
    later ∙ ap (λ b. cond (p x) positive b) earlier ∙ joined (list_any p (take i xs)) (p x) ∙ sym (ap (λ b. cond b positive next) more)
  where
    joined : (a b : Bool) → cond b positive (cond a positive next) ≡ cond (a || b) positive next
    joined true true = refl
    joined true false = refl
    joined false true = refl
    joined false false = refl

-- without a literal of this sign no fluent is named with it
pub unsigned : (lits : List Lit) (positive : Bool) (f : ℕ) → list_any (λ (lit : Lit). same_value lit.positive positive) lits ≡ false → names_it positive f lits ≡ false
unsigned [] positive f e = refl
unsigned (x ∷ lits) positive f e =
    let parts = or_parts (same_value x.positive positive) (list_any (λ (lit : Lit). same_value lit.positive positive) lits) e in
    or_from (x.fluent.0 == f && same_value x.positive positive) (names_it positive f lits) (and_right (x.fluent.0 == f) (same_value x.positive positive) parts.0) (unsigned lits positive f parts.1)

-- a change that has no literal of this sign, or whose condition doesn't hold
pub comes_not : (x : Change) (positive : Bool) (old : ℕ → Bool) (f : ℕ) → names_it positive f x.lits.items ≡ false → change_makes positive old f x ≡ (names_it positive f x.lits.items && false)
comes_not x positive old f e = ap (λ b. b && holds x.cond old) e ∙ sym (ap (λ b. b && false) e)

-- `==` of two truth values
pub beq_same : (a b : Bool) → beq a b ≡ same_value a b
beq_same true true = refl
beq_same true false = refl
beq_same false true = refl
beq_same false false = refl

-- an outcome whose fluents are below n writes no fluent from n on
unnamed : (n : ℕ) (lits : List Lit) (positive : Bool) (f : ℕ) → list_all (lit_within n) lits ≡ true → n ≤ f → names_it positive f lits ≡ false
unnamed n [] positive f e h = refl
unnamed n (x ∷ lits) positive f e h =
    let parts = and_parts (lit_within n x) (list_all (lit_within n) lits) e in
    let below : x.fluent.0 < n = ltb-true x.fluent.0 n parts.0 in
    let ne : x.fluent.0 ≡ f → ⊥ = λ is. omega arith in
    or_from (x.fluent.0 == f && same_value x.positive positive) (names_it positive f lits)
    (and_left (x.fluent.0 == f) (same_value x.positive positive) (ne_eqb x.fluent.0 f ne))
    (unnamed n lits positive f parts.1 h)

none_made : (n : ℕ) (xs : List Change) (positive : Bool) (old : ℕ → Bool) (f : ℕ) → list_all (change_within n) xs ≡ true → n ≤ f → list_any (change_makes positive old f) xs ≡ false
none_made n [] positive old f e h = refl
none_made n (x ∷ xs) positive old f e h =
    let parts = and_parts (change_within n x) (list_all (change_within n) xs) e in
    let head : change_makes positive old f x ≡ false = and_left (names_it positive f x.lits.items) (holds x.cond old) (unnamed n x.lits.items positive f (and_parts (ids_below n x.cond) (list_all (lit_within n) x.lits.items) parts.0).1 h) in
    or_from (change_makes positive old f x) (list_any (change_makes positive old f) xs) head (none_made n xs positive old f parts.1 h)

pub after_value_above : (n : ℕ) (o : Outcome) (old : ℕ → Bool) (f : ℕ) → outcome_within n o ≡ true → n ≤ f → after_value o old f ≡ old f
after_value_above n o old f e h =
    ap (λ b. cond b true (cond (deletes o old f) false (old f))) (none_made n o.changes.items true old f e h)
    ∙ ap (λ b. cond b false (old f)) (none_made n o.changes.items false old f e h)

-- fluents below n are below any greater number
lits_widen : (n m : ℕ) → n ≤ m → (lits : List Lit) → list_all (lit_within n) lits ≡ true → list_all (lit_within m) lits ≡ true
lits_widen n m le [] e = refl
lits_widen n m le (l ∷ lits) e =
    let parts = and_parts (lit_within n l) (list_all (lit_within n) lits) e in
    let below : l.fluent.0 < n = ltb-true l.fluent.0 n parts.0 in
    and_from (lit_within m l) (list_all (lit_within m) lits) (lt-ltb l.fluent.0 m (omega arith)) (lits_widen n m le lits parts.1)

change_widens : (n m : ℕ) → n ≤ m → (x : Change) → change_within n x ≡ true → change_within m x ≡ true
change_widens n m le x e =
    let parts = and_parts (ids_below n x.cond) (list_all (lit_within n) x.lits.items) e in
    and_from (ids_below m x.cond) (list_all (lit_within m) x.lits.items) (ids_below_widen x.cond n m le parts.0) (lits_widen n m le x.lits.items parts.1)

changes_widen : (n m : ℕ) → n ≤ m → (xs : List Change) → list_all (change_within n) xs ≡ true → list_all (change_within m) xs ≡ true
changes_widen n m le [] e = refl
changes_widen n m le (x ∷ xs) e =
    let parts = and_parts (change_within n x) (list_all (change_within n) xs) e in
    and_from (change_within m x) (list_all (change_within m) xs) (change_widens n m le x parts.0) (changes_widen n m le xs parts.1)

pub outcome_widen : (n m : ℕ) (o : Outcome) → n ≤ m → outcome_within n o ≡ true → outcome_within m o ≡ true
outcome_widen n m o le e = changes_widen n m le o.changes.items e
