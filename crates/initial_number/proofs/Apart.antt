-- An entry that names no fluent of those in which some vectors differ from the facts, and of which
-- no two alternatives make the same of the facts, gives as many vectors as there are choices.
use Rattle.std.proofs.Common.{◌≡◌, ◌≢◌, ℕ, zero, suc, ◌+◌, ◌*◌, ◌/◌, ◌%◌, ◌<◌, ◌≤◌, Bool, true, false, cond, List, [], ◌∷◌, ◌++◌, map, length, get_or, sym, ◌∙◌, ap, subst, ⊎_elim, arith, append-nil}
use Rattle.std.specs.Prelude.{All}
use Rattle.std.specs.List.{AllPairs, fold}
use Rattle.std.proofs.Math.Nat.{mod-lt, div-lt_iff_lt-mul}
use Rattle.std.proofs.lemmas.Nat.{div-add-mod'}
use Rattle.std.proofs.lemmas.Bool.{cases_Bool, cases_lt, cond-false}
use Rattle.std.proofs.lemmas.List.{ext_get_or, get_or-map, length-map}
use Rattle.std.proofs.lemmas.List.Elements.{Contains-get_or}
use Rattle.std.proofs.lemmas.List.FromFn.{get_or-map-range_with_len, length-map-range_with_len}
use Rattle.task_core.specs.Cubes.{Cube}
use Rattle.task_core.specs.Initial.{Entry, add_state, after_entry, applied, applied_value, names_it}
use Rattle.task_core.specs.Vectors.{Vector, value_of}
use Rattle.task_core.proofs.Vectors.{list_any_contains}
use Rattle.task_core.proofs.EntryStates.{after_entries_differ}
use Rattle.initial_number.specs.Choices.{each_applied}
use Rattle.initial_number.specs.Fluents.{entry_names, lits_name}
use Rattle.initial_number.proofs.MarkLemmas.{not_named}
use Rattle.initial_number.proofs.KeptAll.{kept_all, kept_as_many}
use Rattle.initial_number.proofs.EachApplied.{get_or-each_applied, length-each_applied}

-- the value of a fluent after literals
pub value_of-applied : (n : ℕ) (v : Vector) (lits : Cube) (f : ℕ) → f < n → value_of (applied n v lits) f ≡ applied_value lits (value_of v) f
value_of-applied n v lits f h = get_or-map-range_with_len (applied_value lits (value_of v)) 0 n f f false h (omega arith)

-- it is the one of before, where they don't name it
pub not_named_stays : (lits : Cube) (value : ℕ → Bool) (f : ℕ) → lits_name f lits ≡ false → applied_value lits value f ≡ value f
not_named_stays lits value f e =
    cond-false (names_it true f lits) true (cond (names_it false f lits) false (value f)) (not_named true f lits e)
    ∙ cond-false (names_it false f lits) false (value f) (not_named false f lits e)

-- values that are the same at a fluent are so after literals
same_after : (lits : Cube) (value other : ℕ → Bool) (f : ℕ) → value f ≡ other f → applied_value lits value f ≡ applied_value lits other f
same_after lits value other f e = ap (λ b. cond (names_it true f lits) true (cond (names_it false f lits) false b)) e

-- an alternative of an entry that doesn't name a fluent doesn't name it
pub none_names : (f : ℕ) (entry : Entry) (j : ℕ) (d : Cube) → entry_names f entry ≡ false → j < length entry → lits_name f (get_or entry j d) ≡ false
none_names f entry j d e h = list_any_contains (lits_name f) entry (get_or entry j d) e (Contains-get_or entry j d h)

-- no two alternatives make the same of the facts, where they make as many vectors as they are
pub apart_from_length : (n : ℕ) (facts : Vector) (entry : Entry) → length (after_entry n (facts ∷ []) entry) ≡ length entry → AllPairs (λ v w. v ≢ w) (map (applied n facts) entry)
apart_from_length n facts entry many =
    let made = map (applied n facts) entry in
    let behind : made ++ [] ≡ made = append-nil made in
    let long : length (fold add_state [] (made ++ [])) ≡ 0 + length (made ++ []) =
    many ∙ sym (length-map entry (applied n facts)) ∙ sym (ap length behind) ∙ (let z : length (made ++ []) ≡ 0 + length (made ++ []) = omega arith in z) in
    let all : after_entry n (facts ∷ []) entry ≡ made = kept_as_many (made ++ []) [] long ∙ behind in
    subst (AllPairs (λ v w. v ≢ w)) all (after_entries_differ n facts (entry ∷ []))

-- a product above some number has no factor 0
pub some_factor : (a b q : ℕ) → q < a * b → 0 < b
some_factor a zero q h = absurd (omega arith)
some_factor a (suc b) q h = omega arith

-- a vector stands at one place of a list without equal ones
same_place : (xs : List Vector) → AllPairs (λ v w. v ≢ w) xs → (i k : ℕ) (d : Vector) → i < length xs → k < length xs → get_or xs i d ≡ get_or xs k d → i ≡ k
same_place xs differ i k d hi hk e =
    ⊎_elim
    (λ (before : i < k). absurd (differ i k d before hk e))
    (λ (late : k ≤ i).
    ⊎_elim
    (λ (after : k < i). absurd (differ k i d after hi (sym e)))
    (λ (early : i ≤ k). let same : i ≡ k = omega arith in same)
    (cases_lt k i))
    (cases_lt i k)

module _ (n : ℕ) (facts : Vector) (entry : Entry) (vs : List Vector) (facts_long : length facts ≡ n) (long : All (λ v. length v ≡ n) vs) (differ : AllPairs (λ v w. v ≢ w) vs) (apart : AllPairs (λ v w. v ≢ w) (map (applied n facts) entry)) (same : (f : ℕ) → entry_names f entry ≡ true → All (λ v. value_of v f ≡ value_of facts f) vs) where
  -- two vectors and two alternatives that give the same
  module _ (i k : ℕ) (d : Vector) (j l : ℕ) (lits : Cube) (hi : i < length vs) (hk : k < length vs) (hj : j < length entry) (hl : l < length entry) (gives : applied n (get_or vs i d) (get_or entry j lits) ≡ applied n (get_or vs k d) (get_or entry l lits)) where
    values_give : (f : ℕ) → f < n → applied_value (get_or entry j lits) (value_of (get_or vs i d)) f ≡ applied_value (get_or entry l lits) (value_of (get_or vs k d)) f
    values_give f h =
        sym (value_of-applied n (get_or vs i d) (get_or entry j lits) f h)
        ∙ ap (λ u. value_of u f) gives
        ∙ value_of-applied n (get_or vs k d) (get_or entry l lits) f h

    -- the vectors are the same
    same_vectors : get_or vs i d ≡ get_or vs k d
    same_vectors =
        ext_get_or false (get_or vs i d) (get_or vs k d) (long i d hi ∙ sym (long k d hk))
        (λ f h.
        ⊎_elim
        (λ (named : entry_names f entry ≡ true). same f named i d hi ∙ sym (same f named k d hk))
        (λ (other : entry_names f entry ≡ false).
        sym (not_named_stays (get_or entry j lits) (value_of (get_or vs i d)) f (none_names f entry j lits other hj))
        ∙ values_give f (subst (λ m. f < m) (long i d hi) h)
        ∙ not_named_stays (get_or entry l lits) (value_of (get_or vs k d)) f (none_names f entry l lits other hl))
        (cases_Bool (entry_names f entry)))

    -- the alternatives make the same of the facts
    same_of_facts : applied n facts (get_or entry j lits) ≡ applied n facts (get_or entry l lits)
    same_of_facts =
        let a = get_or entry j lits in
        let b = get_or entry l lits in
        ext_get_or false (applied n facts a) (applied n facts b) (length-map-range_with_len (applied_value a (value_of facts)) 0 n ∙ sym (length-map-range_with_len (applied_value b (value_of facts)) 0 n))
        (λ f h.
        let below : f < n = subst (λ m. f < m) (length-map-range_with_len (applied_value a (value_of facts)) 0 n) h in
        value_of-applied n facts a f below
        ∙ ⊎_elim
        (λ (named : entry_names f entry ≡ true).
        same_after a (value_of facts) (value_of (get_or vs i d)) f (sym (same f named i d hi))
        ∙ values_give f below
        ∙ same_after b (value_of (get_or vs k d)) (value_of facts) f (same f named k d hk))
        (λ (other : entry_names f entry ≡ false).
        not_named_stays a (value_of facts) f (none_names f entry j lits other hj)
        ∙ sym (not_named_stays b (value_of facts) f (none_names f entry l lits other hl)))
        (cases_Bool (entry_names f entry))
        ∙ sym (value_of-applied n facts b f below))

  -- so the vectors that the entry gives of two places differ
  each_differ : AllPairs (λ v w. v ≢ w) (each_applied n vs entry)
  each_differ p q d before below equal =
      let m = length entry in
      let many : q < length vs * m = subst (λ k. q < k) (length-each_applied n entry vs) below in
      let some : 0 < m = some_factor (length vs) m q many in
      let at_q : q / m < length vs = (div-lt_iff_lt-mul some).1 many in
      let at_p : p / m < length vs = (div-lt_iff_lt-mul some).1 (omega (arith, before, many)) in
      let low_p : p % m < m = mod-lt p some in
      let low_q : q % m < m = mod-lt q some in
      let gives : applied n (get_or vs (p / m) d) (get_or entry (p % m) []) ≡ applied n (get_or vs (q / m) d) (get_or entry (q % m) []) =
      sym (get_or-each_applied n entry vs p d [] d some at_p) ∙ equal ∙ get_or-each_applied n entry vs q d [] d some at_q in
      let high : p / m ≡ q / m = same_place vs differ (p / m) (q / m) d at_p at_q (same_vectors (p / m) (q / m) d (p % m) (q % m) [] at_p at_q low_p low_q gives) in
      let made = map (applied n facts) entry in
      let made_long : length made ≡ m = length-map entry (applied n facts) in
      let facts_give : get_or made (p % m) d ≡ get_or made (q % m) d =
      get_or-map (applied n facts) entry (p % m) [] d low_p
      ∙ same_of_facts (p / m) (q / m) d (p % m) (q % m) [] at_p at_q low_p low_q gives
      ∙ sym (get_or-map (applied n facts) entry (q % m) [] d low_q) in
      let low : p % m ≡ q % m = same_place made apart (p % m) (q % m) d (omega (arith, low_p, made_long)) (omega (arith, low_q, made_long)) facts_give in
      let place : p ≡ q = sym (div-add-mod' p m) ∙ ap (λ k. k * m + p % m) high ∙ ap (λ k. q / m * m + k) low ∙ div-add-mod' q m in
      omega (arith, place, before)

  -- and none is left out
  pub each_kept : after_entry n vs entry ≡ each_applied n vs entry
  each_kept = kept_all (each_applied n vs entry) [] each_differ
