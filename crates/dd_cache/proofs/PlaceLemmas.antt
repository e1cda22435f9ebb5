-- Pairs and their places.
use Rattle.std.proofs.Common.{◌≡◌, ◌≢◌, ℕ, zero, suc, ◌-◌, ◌<◌, Bool, true, false, if◌then◌else◌, List, [], ◌∷◌, ◌++◌, length, take, Some, None, slice_get, slice_index_or, slice_set, Contains, ◌⊎◌, ⊎_elim, inl, inr, refl, sym, ap, subst, ◌∙◌, arith}
use Rattle.std.proofs.lemmas.Bool.{cases_Bool, cases_eq}
use Rattle.std.proofs.lemmas.List.{length-set}
use Rattle.std.proofs.lemmas.Option.{none-some, same_Some, slice_get-get_or}
use Rattle.std.specs.List.{cons_option}
use Rattle.std.specs.Prelude.{replicate}
use Rattle.dd_cache.specs.declared.cache.Entry.{Entry}
use Rattle.dd_cache.specs.declared.key.Key.{Key}
use Rattle.dd_cache.specs.Places.{place_of, pairs_of, ArePlaced}

module _ {X : Type 0} where
  contains_later : (y : X) (xs : List X) (x : X) → Contains xs x → Contains (y ∷ xs) x
  contains_later y xs x has = (suc has.0, omega (arith, has.1), has.2)

  contains_cases : (y : X) (xs : List X) (x : X) → Contains (y ∷ xs) x → (y ≡ x) ⊎ Contains xs x
  contains_cases y xs x has = go has.0 has.1 has.2
    where
      go : (k : ℕ) → k < length (y ∷ xs) → slice_index_or (y ∷ xs) k x ≡ x → (y ≡ x) ⊎ Contains xs x
      go zero below at = inl at
      go (suc k) below at = inr (k, omega (arith, below), at)

  get_set_same : (xs : List X) (i : ℕ) (x : X) → i < length xs → slice_get (slice_set xs i x) i ≡ Some x
  get_set_same [] i x within = absurd (omega (arith, within))
  get_set_same (y ∷ xs) zero x within = refl
  get_set_same (y ∷ xs) (suc i) x within = get_set_same xs i x (omega (arith, within))

  get_set_other : (xs : List X) (i j : ℕ) (x : X) → j ≢ i → slice_get (slice_set xs i x) j ≡ slice_get xs j
  get_set_other [] i j x apart = refl
  get_set_other (y ∷ xs) zero zero x apart = absurd (apart refl)
  get_set_other (y ∷ xs) zero (suc j) x apart = refl
  get_set_other (y ∷ xs) (suc i) zero x apart = refl
  get_set_other (y ∷ xs) (suc i) (suc j) x apart = get_set_other xs i j x (λ same. apart (ap suc same))

  -- an element that was read
  pub read_at : (xs : List X) (i : ℕ) (x : X) → i < length xs → x ≡ slice_index_or xs i x → slice_get xs i ≡ Some x
  read_at xs i x within read = slice_get-get_or xs i x within ∙ ap Some (sym read)

-- what was read at the place of a key
pub read_place : (es : List Entry) (key : Key) (e : Entry) (n at : ℕ) → n ≡ length es → at ≡ place_of key n → at < n → e ≡ slice_index_or es at e
    → slice_get es (place_of key (length es)) ≡ Some e
read_place es key e n at long is within read =
    let within : at < length es = omega (arith, within, long) in
    subst (λ i. slice_get es i ≡ Some e) (is ∙ ap (place_of key) long) (read_at es at e within read)

-- the place of a pair that is used
abbrev pub taken : Key → ℕ → Entry
taken k v = record { key = k; value = v; used = true }

used_first : (e : Entry) (es : List Entry) → e.used ≡ true → pairs_of (e ∷ es) ≡ (e.key, e.value) ∷ pairs_of es
used_first e es is = ap (λ b. cons_option (if b then Some (e.key, e.value) else None) (pairs_of es)) is

unused_first : (e : Entry) (es : List Entry) → e.used ≡ false → pairs_of (e ∷ es) ≡ pairs_of es
unused_first e es is = ap (λ b. cons_option (if b then Some (e.key, e.value) else None) (pairs_of es)) is

has_first : (e : Entry) (es : List Entry) → e.used ≡ true → Contains (pairs_of (e ∷ es)) (e.key, e.value)
has_first e es is = subst (λ (ps : List (Key × ℕ)). Contains ps (e.key, e.value)) (sym (used_first e es is)) (0, omega arith, refl)

has_later : (d : Entry) (es : List Entry) (p : Key × ℕ) → Contains (pairs_of es) p → Contains (pairs_of (d ∷ es)) p
has_later d es p has = ⊎_elim
    (λ (is : d.used ≡ true). subst (λ (ps : List (Key × ℕ)). Contains ps p) (sym (used_first d es is)) (contains_later (d.key, d.value) (pairs_of es) p has))
    (λ (is : d.used ≡ false). subst (λ (ps : List (Key × ℕ)). Contains ps p) (sym (unused_first d es is)) has)
    (cases_Bool d.used)

-- a used place gives its pair
pub has_pair : (es : List Entry) (i : ℕ) (e : Entry) → slice_get es i ≡ Some e → e.used ≡ true → Contains (pairs_of es) (e.key, e.value)
has_pair [] i e at used = absurd (none-some e at)
has_pair (d ∷ es) zero e at used = subst (λ (f : Entry). Contains (pairs_of (f ∷ es)) (e.key, e.value)) (sym (same_Some d e at)) (has_first e es used)
has_pair (d ∷ es) (suc i) e at used = has_later d es (e.key, e.value) (has_pair es i e at used)

-- a pair stands in a used place
StandsIn : List Entry → Key → ℕ → Type 0
StandsIn es k v = (i : ℕ) × (slice_get es i ≡ Some (taken k v))

same_pair : (d : Entry) (k : Key) (v : ℕ) → d.used ≡ true → ◌≡◌ {A = Key × ℕ} (d.key, d.value) (k, v) → d ≡ taken k v
same_pair d k v is e = λ j. record { key = (e j).0; value = (e j).1; used = is j }

pub from_pair : (es : List Entry) (k : Key) (v : ℕ) → Contains (pairs_of es) (k, v) → (i : ℕ) × (slice_get es i ≡ Some (taken k v))
from_pair [] k v has = absurd (omega (arith, has.1))
from_pair (d ∷ es) k v has = ⊎_elim
    (λ (is : d.used ≡ true). ⊎_elim
    (λ (here : ◌≡◌ {A = Key × ℕ} (d.key, d.value) (k, v)). (0, ap Some (same_pair d k v is here)))
    (λ (there : Contains (pairs_of es) (k, v)). later (from_pair es k v there))
    (contains_cases (d.key, d.value) (pairs_of es) (k, v) (subst (λ (ps : List (Key × ℕ)). Contains ps (k, v)) (used_first d es is) has)))
    (λ (is : d.used ≡ false). later (from_pair es k v (subst (λ (ps : List (Key × ℕ)). Contains ps (k, v)) (unused_first d es is) has)))
    (cases_Bool d.used)
  where
    later : (i : ℕ) × (slice_get es i ≡ Some (taken k v)) → (i : ℕ) × (slice_get (d ∷ es) i ≡ Some (taken k v))
    later found = (suc found.0, found.1)

-- a pair stands at the place of its key
pub stands_there : (es : List Entry) → ArePlaced es → (k : Key) (v : ℕ) → Contains (pairs_of es) (k, v)
    → slice_get es (place_of k (length es)) ≡ Some (taken k v)
stands_there es placed k v has =
    let found = from_pair es k v has in
    subst (λ i. slice_get es i ≡ Some (taken k v)) (placed found.0 (taken k v) found.1 refl) found.1

module _ (es : List Entry) (placed : ArePlaced es) (key : Key) (e : Entry) (there : slice_get es (place_of key (length es)) ≡ Some e) (v : ℕ) (has : Contains (pairs_of es) (key, v)) where
  is_taken : e ≡ taken key v
  is_taken = same_Some e (taken key v) (sym there ∙ stands_there es placed key v has)

  -- what stands at a key's place is the key's pair, if it has one
  pub there_used : e.used ≡ true
  there_used = ap (λ (d : Entry). d.used) is_taken

  pub there_key : e.key ≡ key
  there_key = ap (λ (d : Entry). d.key) is_taken

  pub there_value : e.value ≡ v
  there_value = ap (λ (d : Entry). d.value) is_taken

module _ (es : List Entry) (key : Key) (value at : ℕ) where
  after : List Entry
  after = slice_set es at (taken key value)

  pub put_kept : at < length es → Contains (pairs_of (slice_set es at (taken key value))) (key, value)
  unfolding after
  put_kept within = has_pair after at (taken key value) (get_set_same es at (taken key value) within) refl

  pub put_others : at < length es → (k : Key) (v : ℕ) → Contains (pairs_of (slice_set es at (taken key value))) (k, v)
      → Contains (pairs_of es) (k, v) ⊎ ((k ≡ key) × (v ≡ value))
  unfolding after
  put_others within k v has =
      let found = from_pair after k v has in
      ⊎_elim
      (λ (here : found.0 ≡ at).
      let is : taken k v ≡ taken key value = same_Some (taken k v) (taken key value) (sym found.1 ∙ ap (slice_get after) here ∙ get_set_same es at (taken key value) within) in
      inr (ap (λ (d : Entry). d.key) is, ap (λ (d : Entry). d.value) is))
      (λ (apart : found.0 ≢ at). inl (has_pair es found.0 (taken k v) (sym (get_set_other es at found.0 (taken key value) apart) ∙ found.1) refl))
      (cases_eq found.0 at)

  pub put_placed : at < length es → at ≡ place_of key (length es) → ArePlaced es → ArePlaced (slice_set es at (taken key value))
  unfolding after
  put_placed within is placed i e there used = ⊎_elim
      (λ (here : i ≡ at).
      let same : e ≡ taken key value = same_Some e (taken key value) (sym there ∙ ap (slice_get after) here ∙ get_set_same es at (taken key value) within) in
      here ∙ is ∙ (λ j. place_of ((sym same) j).key (sym (length-set es at (taken key value)) j)))
      (λ (apart : i ≢ at). placed i e (sym (get_set_other es at i (taken key value) apart) ∙ there) used ∙ ap (place_of e.key) (sym (length-set es at (taken key value))))
      (cases_eq i at)

-- a place that is not used
abbrev pub unused_place : Entry
unused_place = record { key = record { op = 0; a = 0; b = 0; c = 0; call = 0 }; value = 0; used = false }

-- unused places have no pair
no_pairs : (n : ℕ) (e : Entry) → e.used ≡ false → pairs_of (replicate n e) ≡ []
no_pairs zero e unused = refl
no_pairs (suc n) e unused = unused_first e (replicate n e) unused ∙ no_pairs n e unused

take_none : {X : Type 0} (n : ℕ) → ◌≡◌ {A = List X} (take n []) []
take_none zero = refl
take_none (suc n) = refl

module _ (items old : List Entry) (places len : ℕ) (e : Entry) (unused : e.used ≡ false) (none : old ≡ []) where
  pub cleared : (ok : Bool) → items ≡ (if ok then take places old ++ replicate (places - len) e else old) → pairs_of items ≡ []
  cleared true is = ap pairs_of (is ∙ ap (λ (es : List Entry). take places es ++ replicate (places - len) e) none ∙ ap (λ (es : List Entry). es ++ replicate (places - len) e) (take_none places)) ∙ no_pairs (places - len) e unused
  cleared false is = ap pairs_of (is ∙ none)

-- where there are no pairs, each stands at its place
pub none_placed : (es : List Entry) → pairs_of es ≡ [] → ArePlaced es
none_placed es none i e there used =
    let has = subst (λ (ps : List (Key × ℕ)). Contains ps (e.key, e.value)) none (has_pair es i e there used) in
    absurd (omega (arith, has.1))
