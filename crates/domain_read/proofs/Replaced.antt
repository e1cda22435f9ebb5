-- A list in which each byte is replaced by offset and value.
use Rattle.std.proofs.Common.{◌≡◌, ◌≢◌, ℕ, zero, suc, ◌+◌, ◌-◌, ◌<◌, ◌≤◌, ◌⊎◌, inl, inr, true, false, ◌&&◌, nat_le, nat_lt, List, [], ◌∷◌, ◌++◌, length, get_or, set, min, refl, ap, sym, subst, ◌∙◌, arith}
use Rattle.std.proofs.lemmas.Bool.Decides.{nat_tests}
use Rattle.std.proofs.lemmas.List.{ext_get_or, get_or-set_same, get_or-set_other, length-set}
use Rattle.domain_read.specs.Edits.{Edit, replaced, blank, byte_within, written, edited, all_edited}
use Rattle.std.proofs.lemmas.Bool.{cases_lt}

pub length-replaced : (f : ℕ → ℕ → ℕ) (k : ℕ) (xs : List ℕ) → length (replaced f k xs) ≡ length xs
length-replaced f k [] = refl
length-replaced f k (x ∷ xs) = ap suc (length-replaced f (suc k) xs)

pub replaced_at : (f : ℕ → ℕ → ℕ) (k : ℕ) (xs : List ℕ) (i : ℕ) → i < length xs → get_or (replaced f k xs) i 0 ≡ f (k + i) (get_or xs i 0)
replaced_at f k [] i h = absurd (omega arith)
replaced_at f k (x ∷ xs) zero h = ap (λ n. f n x) (omega arith)
replaced_at f k (x ∷ xs) (suc i) h = replaced_at f (suc k) xs i (omega arith) ∙ ap (λ n. f n (get_or xs i 0)) (omega arith)

pub edited_at : (e : Edit) (xs : List ℕ) (i : ℕ) → i < length xs → get_or (edited e xs) i 0 ≡ written e i (get_or xs i 0)
unfolding edited
edited_at e xs i h =
    let same : 0 + i ≡ i = omega arith in
    replaced_at (written e) 0 xs i h ∙ ap (λ n. written e n (get_or xs i 0)) same

pub length-edited : (e : Edit) (xs : List ℕ) → length (edited e xs) ≡ length xs
unfolding edited
length-edited e xs = length-replaced (written e) 0 xs

-- a list of which each byte is the edited one is the edited list
pub edited_is : (e : Edit) (xs ys : List ℕ) → length ys ≡ length xs → ((i : ℕ) → i < length xs → get_or ys i 0 ≡ written e i (get_or xs i 0)) → ys ≡ edited e xs
edited_is e xs ys long each =
    ext_get_or 0 ys (edited e xs) (omega (arith, length-edited e xs, long)) (λ i h. each i (omega (arith, long)) ∙ sym (edited_at e xs i (omega (arith, long))))

-- edits, and then others
pub all_edited_append : (es fs : List Edit) (text : List ℕ) → all_edited (es ++ fs) text ≡ all_edited fs (all_edited es text)
all_edited_append [] fs text = refl
all_edited_append (e ∷ es) fs text = all_edited_append es fs (edited e text)

pub length-all_edited : (es : List Edit) (text : List ℕ) → length (all_edited es text) ≡ length text
length-all_edited [] text = refl
length-all_edited (e ∷ es) text = length-all_edited es (edited e text) ∙ length-edited e text

-- the byte at offset k after edits, one after another
abbrev pub all_written : List Edit → ℕ → ℕ → ℕ
all_written [] k x = x
all_written (e ∷ es) k x = all_written es k (written e k x)

pub all_edited_at : (es : List Edit) (text : List ℕ) (k : ℕ) → k < length text → get_or (all_edited es text) k 0 ≡ all_written es k (get_or text k 0)
all_edited_at [] text k h = refl
all_edited_at (e ∷ es) text k h =
    all_edited_at es (edited e text) k (omega (arith, length-edited e text)) ∙ ap (all_written es k) (edited_at e text k h)

pub all_written_append : (es fs : List Edit) (k x : ℕ) → all_written (es ++ fs) k x ≡ all_written fs k (all_written es k x)
all_written_append [] fs k x = refl
all_written_append (e ∷ es) fs k x = all_written_append es fs k (written e k x)

within : (s e k : ℕ) → s ≤ k → k < e → (nat_le s k && nat_lt k e) ≡ true
within s e k l u = grind (arith, nat_tests)

without : (s e k : ℕ) → (k < s) ⊎ (e ≤ k) → (nat_le s k && nat_lt k e) ≡ false
without s e k (inl h) = grind (arith, nat_tests)
without s e k (inr h) = grind (arith, nat_tests)

-- a byte outside the span stays
pub written_outside : (e : Edit) (k x : ℕ) → (k < e.span.start) ⊎ (e.span.end ≤ k) → written e k x ≡ x
unfolding written
written_outside e k x h = rw (without e.span.start e.span.end k h) refl

pub written_inside : (e : Edit) (k x : ℕ) → e.span.start ≤ k → k < e.span.end → written e k x ≡ byte_within e.text (k - e.span.start) x
unfolding written
written_inside e k x l u = rw (within e.span.start e.span.end k l u) refl

pub byte_of_text : (text : List ℕ) (place x : ℕ) → place < length text → byte_within text place x ≡ get_or text place 0
byte_of_text text place x h = let e : nat_lt place (length text) ≡ true = grind (arith, nat_tests) in rw e refl

pub byte_after_text : (text : List ℕ) (place x : ℕ) → length text ≤ place → byte_within text place x ≡ blank x
byte_after_text text place x h = let e : nat_lt place (length text) ≡ false = grind (arith, nat_tests) in rw e refl

-- one step of a loop that writes an edit, byte by byte
pub record IsWrittenUpTo (e : Edit) (before now : List ℕ) (place : ℕ) : Type 0 where
  pub long : length now ≡ length before
  pub done : (k : ℕ) → k < place → get_or now k 0 ≡ written e k (get_or before k 0)
  pub rest : (k : ℕ) → place ≤ k → get_or now k 0 ≡ get_or before k 0

pub written_start : (e : Edit) (before : List ℕ) → IsWrittenUpTo e before before e.span.start
written_start e before = record { long = refl; done = λ k h. sym (written_outside e k (get_or before k 0) (inl h)); rest = λ k h. refl }

pub written_step : (e : Edit) (before now : List ℕ) (place x : ℕ) → e.span.start ≤ place → place < e.span.end → place < length now → x ≡ byte_within e.text (place - e.span.start) (get_or now place 0) → IsWrittenUpTo e before now place → IsWrittenUpTo e before (set now place x) (place + 1)
written_step e before now place x l u inside is h = record {
  long = length-set now place x ∙ h.long;
  done = λ k b. by_place k (below k b);
  rest = λ k b. let ne : k ≢ place = omega arith in get_or-set_other now place k x 0 ne ∙ h.rest k (omega arith);
}
  where
    below : (k : ℕ) → k < place + 1 → (k < place) ⊎ (k ≡ place)
    below k b = grind arith

    by_place : (k : ℕ) → (k < place) ⊎ (k ≡ place) → get_or (set now place x) k 0 ≡ written e k (get_or before k 0)
    by_place k (inl lt) = let ne : k ≢ place = omega arith in get_or-set_other now place k x 0 ne ∙ h.done k lt
    by_place k (inr same) =
        subst (λ j. get_or (set now place x) j 0 ≡ written e j (get_or before j 0)) (sym same)
        (get_or-set_same now place x 0 inside ∙ (is ∙ (ap (byte_within e.text (place - e.span.start)) (h.rest place (omega arith)) ∙ sym (written_inside e place (get_or before place 0) l u))))

pub written_end : (e : Edit) (before now : List ℕ) (place last : ℕ) → last ≤ place → last ≡ min e.span.end (length before) → IsWrittenUpTo e before now place → now ≡ edited e before
written_end e before now place last done is h =
    edited_is e before now h.long (λ k inside. by_place k inside (cases_lt k place))
  where
    by_place : (k : ℕ) → k < length before → (k < place) ⊎ (place ≤ k) → get_or now k 0 ≡ written e k (get_or before k 0)
    by_place k inside (inl lt) = h.done k lt
    by_place k inside (inr le) = h.rest k le ∙ sym (written_outside e k (get_or before k 0) (inr (omega (arith, is))))
