-- The initial states: each list of states after entries is a list of states over the task's
-- fluents.
use Rattle.std.proofs.Common.{◌≡◌, ◌≢◌, ℕ, zero, suc, true, false, cond, List, [], ◌∷◌, ◌++◌, map, length, get_or, refl, sym, ◌∙◌, ap, ⊎_elim, arith}
use Rattle.std.specs.List.{AllPairs, Contains, flat_map, fold, list_any}
use Rattle.std.proofs.lemmas.List.Elements.{Contains-append_cases, Contains-get_or}
use Rattle.std.proofs.lemmas.List.Quantifiers.{all_pairs_push}
use Rattle.std.proofs.lemmas.Bool.{false≢true}
use Rattle.std.proofs.lemmas.List.FromFn.{length-map-range_with_len}
use Rattle.task_core.specs.Vectors.{Vector, value_of, same_vector}
use Rattle.task_core.specs.Initial.{Entry, add_state, after_entry, after_entries, applied, applied_value}
use Rattle.task_core.proofs.Vectors.{Contains-map_image, list_any_contains, same_vector_refl}

-- each state of a list has n values
abbrev pub AreStates : ℕ → List Vector → Type 0
AreStates n vs = (s : Vector) → Contains vs s → length s ≡ n

none_are : (n : ℕ) → AreStates n []
none_are n s (k, h, is) = absurd (omega arith)

one_is : (v s : Vector) → Contains (v ∷ []) s → v ≡ s
one_is v s (zero, h, is) = is
one_is v s (suc k, h, is) = absurd (omega arith)

added_are : (n : ℕ) (vs : List Vector) (v : Vector) → length v ≡ n → AreStates n vs → AreStates n (add_state vs v)
added_are n vs v l are =
    elim (list_any (same_vector v) vs) as (λ b. AreStates n (cond b vs (vs ++ v ∷ []))) [
      | true ↦ are
      | false ↦ λ s c. ⊎_elim (are s) (λ d. sym (ap length (one_is v s d)) ∙ l) (Contains-append_cases vs (v ∷ []) s c)
    ]

all_added_are : (n : ℕ) (xs vs : List Vector) → AreStates n xs → AreStates n vs → AreStates n (fold add_state vs xs)
all_added_are n [] vs xs_are are = are
all_added_are n (x ∷ xs) vs xs_are are =
    all_added_are n xs (add_state vs x) (λ s c. xs_are s (suc c.0, omega (arith, c.1), c.2))
    (added_are n vs x (xs_are x (0, omega arith, refl)) are)

applied_are : (n : ℕ) (v : Vector) (entry : Entry) → AreStates n (map (applied n v) entry)
applied_are n v entry s c =
    let image = Contains-map_image (applied n v) entry s c in
    sym (ap length image.is) ∙ length-map-range_with_len (applied_value image.from (value_of v)) 0 n

made_are : (n : ℕ) (entry : Entry) (vs : List Vector) → AreStates n (flat_map (λ v. map (applied n v) entry) vs)
made_are n entry [] s c = none_are n s c
made_are n entry (v ∷ vs) s c =
    ⊎_elim (applied_are n v entry s) (made_are n entry vs s)
    (Contains-append_cases (map (applied n v) entry) (flat_map (λ w. map (applied n w) entry) vs) s c)

entry_are : (n : ℕ) (vs : List Vector) (entry : Entry) → AreStates n (after_entry n vs entry)
entry_are n vs entry = all_added_are n (flat_map (λ v. map (applied n v) entry) vs) [] (made_are n entry vs) (none_are n)

entries_are : (n : ℕ) (vs : List Vector) (entries : List Entry) → AreStates n vs → AreStates n (fold (after_entry n) vs entries)
entries_are n vs [] are = are
entries_are n vs (entry ∷ entries) are = entries_are n (after_entry n vs entry) entries (entry_are n vs entry)

pub after_entries_are : (n : ℕ) (facts : Vector) (entries : List Entry) → length facts ≡ n → AreStates n (after_entries n facts entries)
after_entries_are n facts entries l = entries_are n (facts ∷ []) entries (λ s c. sym (ap length (one_is facts s c)) ∙ l)

-- no state is listed twice
abbrev AreDifferent : List Vector → Type 0
AreDifferent = AllPairs (λ v w. v ≢ w)

added_differ : (vs : List Vector) (v : Vector) → AreDifferent vs → AreDifferent (add_state vs v)
added_differ vs v differ =
    elim (list_any (same_vector v) vs) as (λ b. (list_any (same_vector v) vs ≡ b) → AreDifferent (cond b vs (vs ++ v ∷ []))) [
      | true ↦ λ _. differ
      | false ↦ λ e. all_pairs_push (λ w u. w ≢ u) vs v differ (λ k d h is.
          let other : same_vector v (get_or vs k d) ≡ false = list_any_contains (same_vector v) vs (get_or vs k d) e (Contains-get_or vs k d h) in
          false≢true (sym other ∙ ap (same_vector v) is ∙ same_vector_refl v))
    ] refl

all_added_differ : (xs vs : List Vector) → AreDifferent vs → AreDifferent (fold add_state vs xs)
all_added_differ [] vs differ = differ
all_added_differ (x ∷ xs) vs differ = all_added_differ xs (add_state vs x) (added_differ vs x differ)

none_differ : AreDifferent []
none_differ i j d l h = absurd (omega arith)

one_differs : (v : Vector) → AreDifferent (v ∷ [])
one_differs v i j d l h = absurd (omega arith)

entries_differ : (n : ℕ) (entries : List Entry) (vs : List Vector) → AreDifferent vs → AreDifferent (fold (after_entry n) vs entries)
entries_differ n [] vs differ = differ
entries_differ n (entry ∷ entries) vs differ =
    entries_differ n entries (after_entry n vs entry) (all_added_differ (flat_map (λ v. map (applied n v) entry) vs) [] none_differ)

pub after_entries_differ : (n : ℕ) (facts : Vector) (entries : List Entry) → AllPairs (λ v w. v ≢ w) (after_entries n facts entries)
after_entries_differ n facts entries = entries_differ n entries (facts ∷ []) (one_differs facts)
