-- A text spells exactly one forest, or it has exactly one fault.
use Rattle.std.proofs.Common.{◌≡◌, ℕ, zero, suc, ◌+◌, ◌-◌, ◌<◌, ◌≤◌, ◌⊎◌, inl, inr, Bool, true, false, not, ◌==◌, List, [], ◌∷◌, ◌++◌, length, get_or, refl, ap, sym, subst, ◌∙◌, arith}
use Rattle.std.specs.List.{slice_range}
use Rattle.std.proofs.lemmas.List.{get_or_past}
use Rattle.std.proofs.lemmas.Bool.Decides.{nat_tests}
use Rattle.std.specs.Str.{str_to_ascii_lowercase}
use Rattle.sexpr_text.specs.declared.forms.Place.{Place}
use Rattle.sexpr_text.specs.declared.forms.Span.{Span}
use Rattle.sexpr_text.specs.declared.forms.Form.{Form}
use Rattle.sexpr_text.specs.declared.faults.FaultKind.{FaultKind}
use Rattle.sexpr_text.specs.declared.faults.FaultKind.TheVariants.{BadByte, StrayClose, OpenAtEnd, TooDeep}
use Rattle.sexpr_text.specs.declared.faults.InputFault.{InputFault}
use Rattle.sexpr_text.specs.Lexis.{is_line_feed, is_semicolon, is_space, is_word_byte, place_at, opens_at, closes_at}
use Rattle.sexpr_text.specs.Forest.{Forest, nothing, word, group, join, forest_of}
use Rattle.sexpr_text.specs.Spelling.{Spells, SpellsTrees}
use Rattle.sexpr_text.specs.Faults.{IsFaultAt, IsBadByte, IsStrayClose, IsTooDeep, HasFault, most_open}
use Rattle.sexpr_text.specs.Pending.{Pending}
use Rattle.sexpr_text.proofs.Depths.{close-no_open}
use Rattle.sexpr_text.proofs.Unique.{IsBetween-unique}
use Rattle.sexpr_text.proofs.Reading.{IsReading}
use Rattle.sexpr_text.proofs.Steps.{read-start, read-space, read-comment, read-word, read-open, read-close}
use Rattle.sexpr_text.proofs.Ends.{found-bad_byte, found-stray_close, found-too_deep, found-spelling, found-open_at_end}
use Rattle.list_laws.proofs.Numbers.{le_or_lt}
use Rattle.list_laws.proofs.Booleans.{true_and_false}

-- no text spells two forests
pub spells_trees-unique : (b : List ℕ) (s t : Forest) → SpellsTrees b s → SpellsTrees b t → s ≡ t
spells_trees-unique b s t g h = IsBetween-unique b 0 0 (length b) (length b) s t refl refl g.whole h.whole

pub spells-unique : (b : List ℕ) (fs gs : List Form) → Spells b fs → Spells b gs → forest_of fs ≡ forest_of gs
spells-unique b fs gs g h = spells_trees-unique b (forest_of fs) (forest_of gs) g h

-- no text that has a fault spells a forest
pub fault-no_spelling : (b : List ℕ) (f : InputFault) (s : Forest) → HasFault b f → SpellsTrees b s → ⊥
fault-no_spelling b f s (k, placed, inl first) h = h.sound.sound k f.kind first.present
fault-no_spelling b f s (k, placed, inr (none, kind, first)) h = h.sound.closed k first.present

-- a fault at a byte is one of three
data Sort (b : List ℕ) (k : ℕ) (kind : FaultKind) : Type 0 where
  bad : kind ≡ BadByte → IsBadByte b k → Sort b k kind
  stray : kind ≡ StrayClose → IsStrayClose b k → Sort b k kind
  deep : kind ≡ TooDeep → IsTooDeep b k → Sort b k kind

sort_of : (b : List ℕ) (k : ℕ) (kind : FaultKind) → IsFaultAt b k kind → Sort b k kind
sort_of b k BadByte f = bad refl f
sort_of b k StrayClose f = stray refl f
sort_of b k TooDeep f = deep refl f
sort_of b k _ f = absurd f

-- and no byte has two
one_kind : (b : List ℕ) (k : ℕ) (x y : FaultKind) → Sort b k x → Sort b k y → x ≡ y
one_kind b k x y (bad e f) (bad d g) = e ∙ sym d
one_kind b k x y (bad e f) (stray d g) = absurd (true_and_false (closes_at b k) g.closes f.no_close)
one_kind b k x y (bad e f) (deep d g) = absurd (true_and_false (opens_at b k) g.opens f.no_open)
one_kind b k x y (stray e f) (bad d g) = absurd (true_and_false (closes_at b k) f.closes g.no_close)
one_kind b k x y (stray e f) (stray d g) = e ∙ sym d
one_kind b k x y (stray e f) (deep d g) = absurd (true_and_false (opens_at b k) g.opens (close-no_open b k f.closes))
one_kind b k x y (deep e f) (bad d g) = absurd (true_and_false (opens_at b k) f.opens g.no_open)
one_kind b k x y (deep e f) (stray d g) = absurd (true_and_false (opens_at b k) f.opens (close-no_open b k g.closes))
one_kind b k x y (deep e f) (deep d g) = e ∙ sym d

same_fault : (b : List ℕ) (k j : ℕ) (f g : InputFault) → k ≡ j → f.place ≡ place_at b k → g.place ≡ place_at b j → f.kind ≡ g.kind → f ≡ g
same_fault b k j f g e p q h =
    let by_kind : FaultKind → InputFault = λ x. record { kind = x; place = f.place } in
    let by_place : Place → InputFault = λ x. record { kind = g.kind; place = x } in
    ap by_kind h ∙ ap by_place (p ∙ (ap (place_at b) e ∙ sym q))

-- no text has two faults
pub fault-unique : (b : List ℕ) (f g : InputFault) → HasFault b f → HasFault b g → f ≡ g
fault-unique b f g (k, p, inl x) (j, q, inl y) =
    let least = x.least j g.kind y.present in
    let same : k ≡ j = omega (arith, least, y.least k f.kind x.present) in
    let there : IsFaultAt b k g.kind = subst (λ i. IsFaultAt b i g.kind) (sym same) y.present in
    same_fault b k j f g same p q (one_kind b k f.kind g.kind (sort_of b k f.kind x.present) (sort_of b k g.kind there))
fault-unique b f g (k, p, inl x) (j, q, inr y) = absurd (y.0 k f.kind x.present)
fault-unique b f g (k, p, inr x) (j, q, inl y) = absurd (x.0 j g.kind y.present)
fault-unique b f g (k, p, inr x) (j, q, inr y) =
    let least = x.2.least j y.2.present in
    let same : k ≡ j = omega (arith, least, y.2.least k x.2.present) in
    same_fault b k j f g same p q (x.1 ∙ sym y.1)

-- the first offset from k on that fails the test, up to a last one
record IsStop (p : ℕ → Bool) (k last e : ℕ) : Type 0 where
  after : k ≤ e
  within : e ≤ last
  passes : (i : ℕ) → k ≤ i → i < e → p i ≡ true
  stops : e < last → p e ≡ false

IsStop-more : (p : ℕ → Bool) (k last e : ℕ) → p k ≡ true → IsStop p (suc k) last e → IsStop p k last e
IsStop-more p k last e h r = record {
  after = omega (arith, r.after);
  within = r.within;
  passes = λ i l u. by_place i l u (le_or_lt (suc k) i);
  stops = r.stops;
}
  where
    by_place : (i : ℕ) → k ≤ i → i < e → (suc k ≤ i) ⊎ (i < suc k) → p i ≡ true
    by_place i l u (inl w) = r.passes i w u
    by_place i l u (inr w) =
        let same : k ≡ i = omega arith in
        subst (λ x. p x ≡ true) same h

first_stop : (p : ℕ → Bool) (n k last : ℕ) → k + n ≡ last → (e : ℕ) × IsStop p k last e
first_stop p zero k last far = (
  k,
  record {
    after = omega arith;
    within = omega arith;
    passes = λ i l u. absurd (omega arith);
    stops = λ u. absurd (omega arith);
  },
)
first_stop p (suc n) k last far = by_test (p k) refl (first_stop p n (suc k) last (omega arith))
  where
    by_test : (v : Bool) → p k ≡ v → ((e : ℕ) × IsStop p (suc k) last e) → (e : ℕ) × IsStop p k last e
    by_test false h later = (
      k,
      record {
        after = omega arith;
        within = omega arith;
        passes = λ i l u. absurd (omega arith);
        stops = λ _. h;
      },
    )
    by_test true h later = (later.0, IsStop-more p k last later.0 h later.1)

-- what a text can be
abbrev Answer : List ℕ → Type 0
Answer b = ((s : Forest) × SpellsTrees b s) ⊎ ((f : InputFault) × HasFault b f)

-- a list that is not empty has a last element
data Parts (ps : List Pending) : Type 0 where
  empty : ps ≡ [] → Parts ps
  more : (front : List Pending) (last : Pending) → ps ≡ front ++ last ∷ [] → Parts ps

parts_of : (ps : List Pending) → Parts ps
parts_of [] = empty refl
parts_of (p ∷ ps) = onto p ps (parts_of ps)
  where
    onto : (p : Pending) (ps : List Pending) → Parts ps → Parts (p ∷ ps)
    onto p ps (empty e) = more [] p (ap (λ xs. p ∷ xs) e)
    onto p ps (more front last e) = more (p ∷ front) last (ap (λ xs. p ∷ xs) e)

-- what the reader answers at the end
ended : (b : List ℕ) (k : ℕ) (ps : List Pending) (t : Forest) → length b ≤ k → IsReading b k ps t → Answer b
ended b k [] t h r = inl (t, found-spelling b k [] t h refl r)
ended b k (p ∷ ps) t h r = inr (record { kind = OpenAtEnd; place = p.place }, found-open_at_end b k p ps t p.place h refl r)

-- what one byte brings: an answer, or a later offset to go on from
data Step (b : List ℕ) (k : ℕ) : Type 0 where
  done : Answer b → Step b k
  go : (e : ℕ) (ps : List Pending) (t : Forest) → k < e → IsReading b e ps t → Step b k

step_word : (b : List ℕ) (k : ℕ) (ps : List Pending) (t : Forest) → k < length b → is_word_byte (get_or b k 0) ≡ true → IsReading b k ps t → Step b k
step_word b k ps t inside h r =
    let found = first_stop (λ i. is_word_byte (get_or b i 0)) (length b - k) k (length b) (omega arith) in
    let e = found.0 in
    let stop : IsStop (λ i. is_word_byte (get_or b i 0)) k (length b) e = found.1 in
    let span : Span = record { start = k; end = e; place = place_at b k } in
    let text = str_to_ascii_lowercase (slice_range b k e) in
    go e ps (join t (word span text nothing)) (past e stop (le_or_lt e k))
    (read-word b k e ps t span text inside h stop.after stop.within stop.passes (beyond e stop (le_or_lt (length b) e)) refl refl r)
  where
    past : (e : ℕ) → IsStop (λ i. is_word_byte (get_or b i 0)) k (length b) e → (e ≤ k) ⊎ (k < e) → k < e
    past e stop (inl w) =
        let same : e ≡ k = omega (arith, stop.after) in
        absurd (true_and_false (is_word_byte (get_or b k 0)) h (subst (λ x. is_word_byte (get_or b x 0) ≡ false) same (stop.stops (omega arith))))
    past e stop (inr w) = w

    beyond : (e : ℕ) → IsStop (λ i. is_word_byte (get_or b i 0)) k (length b) e → (length b ≤ e) ⊎ (e < length b) → is_word_byte (get_or b e 0) ≡ false
    beyond e stop (inl w) = ap is_word_byte (get_or_past b e 0 w)
    beyond e stop (inr w) = stop.stops w

step_comment : (b : List ℕ) (k : ℕ) (ps : List Pending) (t : Forest) → k < length b → is_semicolon (get_or b k 0) ≡ true → IsReading b k ps t → Step b k
step_comment b k ps t inside h r =
    let found = first_stop (λ i. not (is_line_feed (get_or b i 0))) (length b - suc k) (suc k) (length b) (omega arith) in
    let e = found.0 in
    let stop : IsStop (λ i. not (is_line_feed (get_or b i 0))) (suc k) (length b) e = found.1 in
    let feed : is_line_feed (get_or b k 0) ≡ false = grind (arith, nat_tests) in
    go e ps t (omega (arith, stop.after))
    (read-comment b k e ps t inside h (omega (arith, stop.after)) stop.within
    (λ i l u. passed e stop feed i l u (le_or_lt (suc k) i))
    (λ u. not_false (is_line_feed (get_or b e 0)) (stop.stops u)) r)
  where
    not_true : (v : Bool) → not v ≡ true → v ≡ false
    not_true true w = sym w
    not_true false w = refl

    not_false : (v : Bool) → not v ≡ false → v ≡ true
    not_false true w = refl
    not_false false w = sym w

    passed : (e : ℕ) → IsStop (λ i. not (is_line_feed (get_or b i 0))) (suc k) (length b) e → is_line_feed (get_or b k 0) ≡ false → (i : ℕ) → k ≤ i → i < e → (suc k ≤ i) ⊎ (i < suc k) → is_line_feed (get_or b i 0) ≡ false
    passed e stop feed i l u (inl w) = not_true (is_line_feed (get_or b i 0)) (stop.passes i w u)
    passed e stop feed i l u (inr w) =
        let same : k ≡ i = omega arith in
        subst (λ x. is_line_feed (get_or b x 0) ≡ false) same feed

step_open : (b : List ℕ) (k : ℕ) (ps : List Pending) (t : Forest) → k < length b → (get_or b k 0 == 40) ≡ true → (most_open ≤ length ps) ⊎ (length ps < most_open) → IsReading b k ps t → Step b k
step_open b k ps t inside h (inl full) r =
    done (inr (record { kind = TooDeep; place = place_at b k }, found-too_deep b k ps t (place_at b k) inside h full refl r))
step_open b k ps t inside h (inr room) r =
    let p : Pending = record { start = k; place = place_at b k; before = t } in
    go (suc k) (ps ++ p ∷ []) nothing (omega arith) (read-open b k ps t p inside h room refl refl refl r)

step_close : (b : List ℕ) (k : ℕ) (ps : List Pending) (t : Forest) → k < length b → (get_or b k 0 == 41) ≡ true → Parts ps → IsReading b k ps t → Step b k
step_close b k ps t inside h (empty e) r =
    done (inr (record { kind = StrayClose; place = place_at b k }, found-stray_close b k ps t (place_at b k) inside h (ap length e) refl r))
step_close b k ps t inside h (more front last e) r =
    go (suc k) front (join last.before (group (record { start = last.start; end = suc k; place = last.place }) t nothing)) (omega arith)
    (read-close b k front t last inside h (subst (λ xs. IsReading b k xs t) e r))

step : (b : List ℕ) (k : ℕ) (ps : List Pending) (t : Forest) → k < length b → IsReading b k ps t → Step b k
step b k ps t inside r = by_space (is_space (get_or b k 0)) refl
  where
    by_word : (v : Bool) → is_word_byte (get_or b k 0) ≡ v → is_space (get_or b k 0) ≡ false → is_semicolon (get_or b k 0) ≡ false → (get_or b k 0 == 40) ≡ false → (get_or b k 0 == 41) ≡ false → Step b k
    by_word true h s c o x = step_word b k ps t inside h r
    by_word false h s c o x =
        done (inr (record { kind = BadByte; place = place_at b k }, found-bad_byte b k ps t (place_at b k) inside s c o x h refl r))

    by_close : (v : Bool) → (get_or b k 0 == 41) ≡ v → is_space (get_or b k 0) ≡ false → is_semicolon (get_or b k 0) ≡ false → (get_or b k 0 == 40) ≡ false → Step b k
    by_close true h s c o = step_close b k ps t inside h (parts_of ps) r
    by_close false h s c o = by_word (is_word_byte (get_or b k 0)) refl s c o h

    by_open : (v : Bool) → (get_or b k 0 == 40) ≡ v → is_space (get_or b k 0) ≡ false → is_semicolon (get_or b k 0) ≡ false → Step b k
    by_open true h s c = step_open b k ps t inside h (le_or_lt most_open (length ps)) r
    by_open false h s c = by_close (get_or b k 0 == 41) refl s c h

    by_semicolon : (v : Bool) → is_semicolon (get_or b k 0) ≡ v → is_space (get_or b k 0) ≡ false → Step b k
    by_semicolon true h s = step_comment b k ps t inside h r
    by_semicolon false h s = by_open (get_or b k 0 == 40) refl s h

    by_space : (v : Bool) → is_space (get_or b k 0) ≡ v → Step b k
    by_space true h = go (suc k) ps t (omega arith) (read-space b k ps t inside h r)
    by_space false h = by_semicolon (is_semicolon (get_or b k 0)) refl h

-- what it answers from any offset on; n bounds the bytes that are left
read_on : (n : ℕ) (b : List ℕ) (k : ℕ) (ps : List Pending) (t : Forest) → length b ≤ k + n → IsReading b k ps t → Answer b
read_on zero b k ps t far r = ended b k ps t (omega arith) r
read_on (suc n) b k ps t far r = by_place (le_or_lt (length b) k) (λ e qs s u q. read_on n b e qs s (omega arith) q)
  where
    by_step : Step b k → ((e : ℕ) (qs : List Pending) (s : Forest) → k < e → IsReading b e qs s → Answer b) → Answer b
    by_step (done answer) rest = answer
    by_step (go e qs s u q) rest = rest e qs s u q

    by_place : (length b ≤ k) ⊎ (k < length b) → ((e : ℕ) (qs : List Pending) (s : Forest) → k < e → IsReading b e qs s → Answer b) → Answer b
    by_place (inl w) rest = ended b k ps t w r
    by_place (inr w) rest = by_step (step b k ps t w r) rest

-- every text spells a forest or has a fault
pub spelled_or_faulty : (b : List ℕ) → ((s : Forest) × SpellsTrees b s) ⊎ ((f : InputFault) × HasFault b f)
spelled_or_faulty b = read_on (length b) b 0 [] nothing (omega arith) (read-start b)
