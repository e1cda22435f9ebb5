-- One turn of the reader's loop for each class of bytes.
use Rattle.std.proofs.Common.{◌≡◌, ℕ, suc, ◌+◌, ◌-◌, ◌<◌, ◌≤◌, true, false, ◌==◌, List, [], ◌∷◌, ◌++◌, length, get_or, ap, sym, subst, ◌∙◌, arith, add-one}
use Rattle.std.specs.Prelude.{Result, Err}
use Rattle.std.specs.List.{slice_range}
use Rattle.std.specs.Str.{str_to_ascii_lowercase}
use Rattle.std.proofs.lemmas.Bool.Decides.{nat_tests}
use Rattle.sexpr_text.specs.declared.forms.Place.{Place}
use Rattle.sexpr_text.specs.declared.forms.Span.{Span}
use Rattle.sexpr_text.specs.declared.faults.InputFault.{InputFault}
use Rattle.sexpr_text.specs.declared.faults.ReadErr.{ReadErr}
use Rattle.sexpr_text.specs.declared.faults.ReadErr.TheVariants.{Fault}
use Rattle.sexpr_text.specs.Lexis.{is_line_feed, is_semicolon, is_space, is_word_byte, place_at}
use Rattle.sexpr_text.specs.Forest.{Forest, nothing, word, group, join}
use Rattle.sexpr_text.specs.Faults.{HasFault, most_open}
use Rattle.sexpr_text.specs.Pending.{Pending}
use Rattle.sexpr_text.proofs.Lines.{IsAt, IsAt-start, IsAt-feed, IsAt-more, IsAt-run, place_from}
use Rattle.sexpr_text.proofs.Depths.{open-rules_out, close-rules_out, word-rules_out}
use Rattle.sexpr_text.proofs.Reading.{IsReading}
use Rattle.sexpr_text.proofs.Steps.{read-start, read-space, read-comment, read-word, read-open, read-close}

-- the text is read up to offset k without a fault, and the reader's line and line's start are right
pub record IsHere (b : List ℕ) (k : ℕ) (ps : List Pending) (t : Forest) (line start : ℕ) : Type 0 where
  pub reading : IsReading b k ps t
  pub place : IsAt b k line start

pub here-start : (b : List ℕ) (ps : List Pending) (t : Forest) → ps ≡ [] → t ≡ nothing → IsHere b 0 ps t 1 0
here-start b ps t no_pending no_trees = record {
  reading = subst (λ qs. IsReading b 0 qs t) (sym no_pending) (subst (IsReading b 0 []) (sym no_trees) (read-start b));
  place = IsAt-start b;
}

IsAt-upto : (b : List ℕ) (k e line start : ℕ) → k ≤ e → e ≤ length b → ((i : ℕ) → k ≤ i → i < e → is_line_feed (get_or b i 0) ≡ false) → IsAt b k line start → IsAt b e line start
IsAt-upto b k e line start le inside none here =
    let far : k + (e - k) ≡ e = omega arith in
    subst (λ x. IsAt b x line start) far (IsAt-run (e - k) b k line start (omega arith) (λ i l u. none i l (omega arith)) here)

-- the reader's place is that of the offset
pub here-place : (b : List ℕ) (k : ℕ) (ps : List Pending) (t : Forest) (line start : ℕ) → IsHere b k ps t line start → record { line = line; column = k - start + 1 } ≡ place_at b k
here-place b k ps t line start h = place_from b k line start h.place

module _ (b : List ℕ) (k : ℕ) (ps : List Pending) (t : Forest) (line start : ℕ) (inside : k < length b) (here : IsHere b k ps t line start) where
  pub here-line_feed : is_line_feed (get_or b k 0) ≡ true → IsHere b (k + 1) ps t (line + 1) (k + 1)
  here-line_feed h =
      let space : is_space (get_or b k 0) ≡ true = grind (arith, nat_tests) in
      record {
        reading = rw add-one (read-space b k ps t inside space here.reading);
        place = subst (λ x. IsAt b x (line + 1) x) (sym (add-one k)) (IsAt-feed b k line start inside h here.place);
      }

  pub here-space : is_space (get_or b k 0) ≡ true → is_line_feed (get_or b k 0) ≡ false → IsHere b (k + 1) ps t line start
  here-space h other = record {
    reading = rw add-one (read-space b k ps t inside h here.reading);
    place = rw add-one (IsAt-more b k line start inside other here.place);
  }

  pub here-semicolon : (e : ℕ) → is_semicolon (get_or b k 0) ≡ true → k ≤ e → e ≤ length b → ((i : ℕ) → k ≤ i → i < e → is_line_feed (get_or b i 0) ≡ false) → (e < length b → is_line_feed (get_or b e 0) ≡ true) → IsHere b e ps t line start
  here-semicolon e h le within none stops = record {
    reading = read-comment b k e ps t inside h le within none stops here.reading;
    place = IsAt-upto b k e line start le within none here.place;
  }

  pub here-open : (p : Pending) (qs : List Pending) (u : Forest) → (get_or b k 0 == 40) ≡ true → length ps < most_open → p.start ≡ k → p.before ≡ t → p.place ≡ record { line = line; column = k - start + 1 } → qs ≡ ps ++ p ∷ [] → u ≡ nothing → IsHere b (k + 1) qs u line start
  here-open p qs u h room starts before placed pending trees =
      let found : IsReading b (suc k) (ps ++ p ∷ []) nothing =
      read-open b k ps t p inside h room starts before (placed ∙ place_from b k line start here.place) here.reading in
      record {
        reading = rw add-one (subst (λ xs. IsReading b (suc k) xs u) (sym pending) (subst (IsReading b (suc k) (ps ++ p ∷ [])) (sym trees) found));
        place = rw add-one (IsAt-more b k line start inside (open-rules_out (get_or b k 0) h).3 here.place);
      }

  pub here-close : (p : Pending) (qs : List Pending) (u : Forest) → (get_or b k 0 == 41) ≡ true → ps ≡ qs ++ p ∷ [] → u ≡ join p.before (group (record { start = p.start; end = k + 1; place = p.place }) t nothing) → IsHere b (k + 1) qs u line start
  here-close p qs u h pending trees =
      let found : IsReading b (suc k) qs (join p.before (group (record { start = p.start; end = suc k; place = p.place }) t nothing)) =
      read-close b k qs t p inside h (subst (λ xs. IsReading b k xs t) pending here.reading) in
      let found' : IsReading b (k + 1) qs (join p.before (group (record { start = p.start; end = k + 1; place = p.place }) t nothing)) =
      subst (λ x. IsReading b x qs (join p.before (group (record { start = p.start; end = x; place = p.place }) t nothing))) (sym (add-one k)) found in
      record {
        reading = subst (IsReading b (k + 1) qs) (sym trees) found';
        place = rw add-one (IsAt-more b k line start inside (close-rules_out (get_or b k 0) h).3 here.place);
      }

  pub here-word : (e : ℕ) (span : Span) (text : List ℕ) (qs : List Pending) (u : Forest) → is_word_byte (get_or b k 0) ≡ true → k ≤ e → e ≤ length b → ((i : ℕ) → k ≤ i → i < e → is_word_byte (get_or b i 0) ≡ true) → is_word_byte (get_or b e 0) ≡ false → span ≡ record { start = k; end = e; place = record { line = line; column = k - start + 1 } } → text ≡ str_to_ascii_lowercase (slice_range b k e) → qs ≡ ps → u ≡ join t (word span text nothing) → IsHere b e qs u line start
  here-word e span text qs u h le within all stops is_span is_text pending trees =
      let by_place : Place → Span = λ x. record { start = k; end = e; place = x } in
      let found : IsReading b e ps (join t (word span text nothing)) =
      read-word b k e ps t span text inside h le within all stops (is_span ∙ ap by_place (place_from b k line start here.place)) is_text here.reading in
      record {
        reading = subst (λ xs. IsReading b e xs u) (sym pending) (subst (IsReading b e ps) (sym trees) found);
        place = IsAt-upto b k e line start le within (λ i l w. (word-rules_out (get_or b i 0) (all i l w)).3) here.place;
      }

-- a refusal names one fault
pub one_refusal : {A : Type 0} (b : List ℕ) (r : Result A ReadErr) (f g : InputFault) → r ≡ Err (Fault g) → HasFault b g → r ≡ Err (Fault f) → HasFault b f
one_refusal b r f g e h d =
    let same : g ≡ f = cc in
    subst (HasFault b) same h
