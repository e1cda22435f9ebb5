-- An entry that changes no state gives the list of states itself.
use Rattle.std.proofs.Common.{◌≡◌, ℕ, ◌<◌, Bool, true, false, ◌&&◌, ◌||◌, ◌==◌, cond, nat_lt, List, [], ◌∷◌, ◌++◌, get_or, suc, map, length, refl, sym, ◌∙◌, ap, subst, ⊎_elim, arith, append_assoc, append-nil}
use Rattle.std.specs.List.{flat_map, fold, list_all, list_any}
use Rattle.std.proofs.lemmas.Bool.{and_from, and_parts, cases_Bool, cond-false, cond-true, eqb-true, false≢true, ltb-true, or_cases, or_right}
use Rattle.std.proofs.lemmas.List.Folds.{list_any-append}
use Rattle.std.proofs.lemmas.List.Sums.{fold-append}
use Rattle.task_core.specs.Cubes.{Cube}
use Rattle.task_core.specs.Initial.{Entry, add_state, after_entries, after_entry, applied, applied_value, entry_within, lit_within, names_it}
use Rattle.task_core.specs.Unchanged.{AreOnce, changes_none, holds_in_each, lit_holds}
use Rattle.task_core.specs.States.{IsWithin, ShowsVectors, truth, vector}
use Rattle.task_core.specs.Vectors.{Vector, same_value, same_vector}
use Rattle.task_core.specs.declared.states.State.{State}
use Rattle.task_core.proofs.StateLists.{alternatives_within, applied_vector}
use Rattle.task_core.proofs.Vectors.{same_value_equal, same_vector_refl}

-- a fluent that a literal names has the literal's value, where all literals hold
named_holds : (s : State) (positive : Bool) (f : ℕ) (lits : Cube) → list_all (lit_holds s) lits ≡ true → names_it positive f lits ≡ true → truth s f ≡ positive
named_holds s positive f [] all names = absurd (false≢true names)
named_holds s positive f (x ∷ lits) all names =
    let parts = and_parts (lit_holds s x) (list_all (lit_holds s) lits) all in
    ⊎_elim
    (λ (here : (x.fluent.0 == f && same_value x.positive positive) ≡ true).
    let both = and_parts (x.fluent.0 == f) (same_value x.positive positive) here in
    ap (truth s) (sym (eqb-true x.fluent.0 f both.0)) ∙ sym (same_value_equal x.positive (truth s x.fluent.0) parts.0) ∙ same_value_equal x.positive positive both.1)
    (λ (later : names_it positive f lits ≡ true). named_holds s positive f lits parts.1 later)
    (or_cases (x.fluent.0 == f && same_value x.positive positive) (names_it positive f lits) names)

-- literals that hold change no value
value_stays : (s : State) (lits : Cube) → list_all (lit_holds s) lits ≡ true → (f : ℕ) → truth s f ≡ applied_value lits (truth s) f
value_stays s lits all f =
    ⊎_elim
    (λ (adds : names_it true f lits ≡ true). named_holds s true f lits all adds ∙ sym (cond-true (names_it true f lits) true (cond (names_it false f lits) false (truth s f)) adds))
    (λ (no : names_it true f lits ≡ false).
    ⊎_elim
    (λ (deletes : names_it false f lits ≡ true).
    named_holds s false f lits all deletes
    ∙ sym (cond-false (names_it true f lits) true (cond (names_it false f lits) false (truth s f)) no ∙ cond-true (names_it false f lits) false (truth s f) deletes))
    (λ (none : names_it false f lits ≡ false).
    sym (cond-false (names_it true f lits) true (cond (names_it false f lits) false (truth s f)) no ∙ cond-false (names_it false f lits) false (truth s f) none))
    (cases_Bool (names_it false f lits)))
    (cases_Bool (names_it true f lits))

-- what holds of the first state and of the others
both_hold : (s : State) (states : List State) (lits : Cube) → list_all (holds_in_each (s ∷ states)) lits ≡ true → (list_all (lit_holds s) lits ≡ true) × (list_all (holds_in_each states) lits ≡ true)
both_hold s states [] all = (refl, refl)
both_hold s states (x ∷ lits) all =
    let parts = and_parts (lit_holds s x && holds_in_each states x) (list_all (holds_in_each (s ∷ states)) lits) all in
    let both = and_parts (lit_holds s x) (holds_in_each states x) parts.0 in
    let rest = both_hold s states lits parts.1 in
    (and_from (lit_holds s x) (list_all (lit_holds s) lits) both.0 rest.0, and_from (holds_in_each states x) (list_all (holds_in_each states) lits) both.1 rest.1)

both_change_none : (s : State) (states : List State) (entry : Entry) → changes_none (s ∷ states) entry ≡ true → (list_all (list_all (lit_holds s)) entry ≡ true) × (changes_none states entry ≡ true)
both_change_none s states [] all = (refl, refl)
both_change_none s states (lits ∷ entry) all =
    let parts = and_parts (list_all (holds_in_each (s ∷ states)) lits) (changes_none (s ∷ states) entry) all in
    let both = both_hold s states lits parts.0 in
    let rest = both_change_none s states entry parts.1 in (
      and_from (list_all (lit_holds s) lits) (list_all (list_all (lit_holds s)) entry) both.0 rest.0,
      and_from (list_all (holds_in_each states) lits) (changes_none states entry) both.1 rest.1,
    )

-- one state

module _ (n : ℕ) (s : State) (within : IsWithin n s) where
  -- an alternative gives the state itself
  stays : (lits : Cube) → list_all (lit_within n) lits ≡ true → list_all (lit_holds s) lits ≡ true → applied n (vector n s) lits ≡ vector n s
  stays lits below all = sym (applied_vector n s s lits below within (value_stays s lits all))

  -- a state that is listed isn't listed again
  again : (entry : Entry) (before : List Vector) → list_all (list_all (lit_within n)) entry ≡ true → list_all (list_all (lit_holds s)) entry ≡ true → list_any (same_vector (vector n s)) before ≡ true → fold add_state before (map (applied n (vector n s)) entry) ≡ before
  again [] before below all listed = refl
  again (lits ∷ entry) before below all listed =
      let low = and_parts (list_all (lit_within n) lits) (list_all (list_all (lit_within n)) entry) below in
      let parts = and_parts (list_all (lit_holds s) lits) (list_all (list_all (lit_holds s)) entry) all in
      let one : add_state before (applied n (vector n s) lits) ≡ before =
      ap (add_state before) (stays lits low.0 parts.0) ∙ cond-true (list_any (same_vector (vector n s)) before) before (before ++ vector n s ∷ []) listed in
      ap (λ vs. fold add_state vs (map (applied n (vector n s)) entry)) one ∙ again entry before low.1 parts.1 listed

  -- one that isn't is listed once
  once : (entry : Entry) (before : List Vector) → 0 < length entry → list_all (list_all (lit_within n)) entry ≡ true → list_all (list_all (lit_holds s)) entry ≡ true → list_any (same_vector (vector n s)) before ≡ false → fold add_state before (map (applied n (vector n s)) entry) ≡ before ++ vector n s ∷ []
  once [] before some below all new = absurd (omega arith)
  once (lits ∷ entry) before some below all new =
      let low = and_parts (list_all (lit_within n) lits) (list_all (list_all (lit_within n)) entry) below in
      let parts = and_parts (list_all (lit_holds s) lits) (list_all (list_all (lit_holds s)) entry) all in
      let one : add_state before (applied n (vector n s) lits) ≡ before ++ vector n s ∷ [] =
      ap (add_state before) (stays lits low.0 parts.0) ∙ cond-false (list_any (same_vector (vector n s)) before) before (before ++ vector n s ∷ []) new in
      let listed : list_any (same_vector (vector n s)) (before ++ vector n s ∷ []) ≡ true =
      list_any-append (same_vector (vector n s)) before (vector n s ∷ [])
      ∙ or_right (list_any (same_vector (vector n s)) before) (same_vector (vector n s) (vector n s) || false) (or_first (same_vector (vector n s) (vector n s)) (same_vector_refl (vector n s))) in
      ap (λ vs. fold add_state vs (map (applied n (vector n s)) entry)) one ∙ again entry (before ++ vector n s ∷ []) low.1 parts.1 listed
    where
      or_first : (b : Bool) → b ≡ true → (b || false) ≡ true
      or_first true e = refl
      or_first false e = absurd (false≢true e)

-- all states
all_once : (n : ℕ) (entry : Entry) (states : List State) (before : List Vector) → 0 < length entry → list_all (list_all (lit_within n)) entry ≡ true → changes_none states entry ≡ true → ((i : ℕ) (d : State) → i < length states → IsWithin n (get_or states i d))
    → AreOnce before (map (vector n) states) → fold add_state before (flat_map (λ v. map (applied n v) entry) (map (vector n) states)) ≡ before ++ map (vector n) states
all_once n entry [] before some below all within differ = sym (append-nil before)
all_once n entry (s ∷ states) before some below all within differ =
    let both = both_change_none s states entry all in
    let v = vector n s in
    fold-append add_state before (map (applied n v) entry) (flat_map (λ w. map (applied n w) entry) (map (vector n) states))
    ∙ ap (λ vs. fold add_state vs (flat_map (λ w. map (applied n w) entry) (map (vector n) states))) (once n s (within 0 s (omega arith)) entry before some below both.0 differ.0)
    ∙ all_once n entry states (before ++ v ∷ []) some below both.1 (λ i d h. within (suc i) d (omega arith)) differ.1
    ∙ append_assoc before (v ∷ []) (map (vector n) states)

-- the list after an entry that changes none
pub unchanged : (n : ℕ) (states : List State) (vs : List Vector) (entry : Entry) → changes_none states entry ≡ true → entry_within n entry ≡ true → AreOnce [] vs → ShowsVectors n states vs → ShowsVectors n states (after_entry n vs entry)
unchanged n states vs entry none fits differ shows =
    let some : 0 < length entry = ltb-true 0 (length entry) (and_parts (nat_lt 0 (length entry)) (list_all (list_all (lit_within n)) entry) fits).0 in
    let same : after_entry n vs entry ≡ vs =
    subst (λ ws. AreOnce [] ws → after_entry n ws entry ≡ ws) shows.shown
    (λ differ_here. all_once n entry states [] some (alternatives_within n entry fits) none (λ i d h. shows.within i d h) differ_here) differ in
    subst (λ ws. ShowsVectors n states ws) (sym same) shows

-- the states after entries are listed once
push_once : (before vs : List Vector) (v : Vector) → AreOnce before vs → list_any (same_vector v) (before ++ vs) ≡ false → AreOnce before (vs ++ v ∷ [])
push_once before [] v differ new = (ap (list_any (same_vector v)) (sym (append-nil before)) ∙ new, tt)
push_once before (w ∷ vs) v differ new =
    (differ.0, push_once (before ++ w ∷ []) vs v differ.1 (ap (list_any (same_vector v)) (append_assoc before (w ∷ []) vs) ∙ new))

added_once : (vs : List Vector) (v : Vector) → AreOnce [] vs → AreOnce [] (add_state vs v)
added_once vs v differ =
    ⊎_elim
    (λ (listed : list_any (same_vector v) vs ≡ true). subst (AreOnce []) (sym (cond-true (list_any (same_vector v) vs) vs (vs ++ v ∷ []) listed)) differ)
    (λ (new : list_any (same_vector v) vs ≡ false). subst (AreOnce []) (sym (cond-false (list_any (same_vector v) vs) vs (vs ++ v ∷ []) new)) (push_once [] vs v differ new))
    (cases_Bool (list_any (same_vector v) vs))

all_added_once : (xs vs : List Vector) → AreOnce [] vs → AreOnce [] (fold add_state vs xs)
all_added_once [] vs differ = differ
all_added_once (x ∷ xs) vs differ = all_added_once xs (add_state vs x) (added_once vs x differ)

entries_once : (n : ℕ) (entries : List Entry) (vs : List Vector) → AreOnce [] vs → AreOnce [] (fold (after_entry n) vs entries)
entries_once n [] vs differ = differ
entries_once n (entry ∷ entries) vs differ = entries_once n entries (after_entry n vs entry) (all_added_once (flat_map (λ v. map (applied n v) entry) vs) [] tt)

pub after_entries_once : (n : ℕ) (facts : Vector) (entries : List Entry) → AreOnce [] (after_entries n facts entries)
after_entries_once n facts entries = entries_once n entries (facts ∷ []) (refl, tt)
