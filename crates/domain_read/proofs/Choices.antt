-- The head of a recognised list in the plain text.
use Rattle.std.proofs.Common.{◌≡◌, ℕ, zero, suc, ◌+◌, ◌-◌, ◌<◌, ◌≤◌, ◌⊎◌, inl, inr, Bool, true, false, not, ◌&&◌, ◌==◌, if◌then◌else◌, List, [], ◌∷◌, ◌++◌, length, get_or, take, drop, codes, refl, ap, sym, subst, ◌∙◌, arith, add-one}
use Rattle.std.specs.List.{slice_range}
use Rattle.std.specs.Str.{str_to_ascii_lowercase}
use Rattle.std.proofs.lemmas.Bool.Decides.{nat_tests}
use Rattle.std.proofs.lemmas.List.{ext_get_or, get_or-drop, get_or-take, length-take-le, length-drop}
use Rattle.sexpr_text.specs.declared.forms.Place.{Place}
use Rattle.sexpr_text.specs.declared.forms.Span.{Span}
use Rattle.sexpr_text.specs.Faults.{most_open}
use Rattle.sexpr_text.specs.Forest.{Forest, nothing, word, group, join}
use Rattle.sexpr_text.specs.Lexis.{is_line_feed, is_space, is_word_byte, place_at}
use Rattle.sexpr_text.specs.Pending.{Pending}
use Rattle.sexpr_text.proofs.Reading.{IsReading}
use Rattle.sexpr_text.proofs.Steps.{read-space, read-word, read-open, read-close}
use Rattle.domain_read.specs.Edits.{blank, byte_within, choice_text}
use Rattle.domain_read.specs.Meant.{choice_head, oneof_span, empty_span}
use Rattle.domain_read.proofs.Twins.{AreTwins, same_places, both_at, later_place, read_spaces}
use Rattle.domain_read.proofs.Replaced.{byte_of_text, byte_after_text}
use Rattle.domain_read.proofs.Mild.{blank_no_word}
use Rattle.sexpr_text.proofs.Forests.{join-assoc}

pub join-nothing : (s : Forest) → join s nothing ≡ s
join-nothing nothing = refl
join-nothing (word span text rest) = ap (word span text) (join-nothing rest)
join-nothing (group span parts rest) = ap (group span parts) (join-nothing rest)

pub blank_is_space : (x : ℕ) → is_space (blank x) ≡ true
blank_is_space x = by_test (x == 10)
  where
    by_test : (v : Bool) → is_space (if v then 10 else 32) ≡ true
    by_test true = refl
    by_test false = refl

-- what stands in the plain text where the head of a recognised list stood
pub record IsHeadAt (c : List ℕ) (missing : Bool) (start end : ℕ) : Type 0 where
  pub long : start + 13 ≡ end
  pub inside : end ≤ length c
  pub at : (i : ℕ) → i < 13 → (x : ℕ) × (get_or c (start + i) 0 ≡ byte_within (choice_text missing) i x)

below_five : (P : ℕ → Type 0) → P 0 → P 1 → P 2 → P 3 → P 4 → (i : ℕ) → i < 5 → P i
below_five P a b c d e zero h = a
below_five P a b c d e (suc zero) h = b
below_five P a b c d e (suc (suc zero)) h = c
below_five P a b c d e (suc (suc (suc zero))) h = d
below_five P a b c d e (suc (suc (suc (suc zero)))) h = e
below_five P a b c d e (suc (suc (suc (suc (suc i))))) h = absurd (omega arith)

choice_long : (missing : Bool) → 5 ≤ length (choice_text missing)
choice_long true = omega arith
choice_long false = omega arith

same_five : (missing : Bool) (i : ℕ) → i < 5 → get_or (choice_text missing) i 0 ≡ get_or (codes "oneof") i 0
same_five true i h = below_five (λ i. get_or (codes "oneof ()") i 0 ≡ get_or (codes "oneof") i 0) refl refl refl refl refl i h
same_five false i h = refl

module _ (b c : List ℕ) (missing : Bool) (span : Span) (ps : List Pending) (s : Forest) (t : AreTwins b c) (h : IsHeadAt c missing span.start span.end) (placed : span.place ≡ place_at b span.start) where
  letter : (i : ℕ) → i < 5 → get_or c (span.start + i) 0 ≡ get_or (codes "oneof") i 0
  letter i short =
      let x = h.at i (omega arith) in
      x.1 ∙ (byte_of_text (choice_text missing) i x.0 (omega (arith, choice_long missing)) ∙ same_five missing i short)

  letter_is_word : (i : ℕ) → i < 5 → is_word_byte (get_or (codes "oneof") i 0) ≡ true
  letter_is_word i short = below_five (λ i. is_word_byte (get_or (codes "oneof") i 0) ≡ true) refl refl refl refl refl i short

  room_for : span.start + 13 ≤ length c
  room_for = omega (arith, h.long, h.inside)

  cut : slice_range c span.start (span.start + 5) ≡ codes "oneof"
  cut =
      let wide : span.start + 5 - span.start ≡ 5 = omega arith in
      let left : length (drop span.start c) ≡ length c - span.start = length-drop span.start c in
      let five : 5 ≤ length (drop span.start c) = omega (arith, room_for) in
      let long : length (take 5 (drop span.start c)) ≡ 5 = length-take-le 5 (drop span.start c) five in
      ap (λ n. take n (drop span.start c)) wide
      ∙ ext_get_or 0 (take 5 (drop span.start c)) (codes "oneof") long
      (λ i u. let short : i < 5 = omega (arith, long) in get_or-take 5 (drop span.start c) i 0 short ∙ (get_or-drop span.start c i 0 ∙ letter i short))

  after_five : is_word_byte (get_or c (span.start + 5) 0) ≡ false
  after_five = by_missing missing (h.at 5 (omega arith))
    where
      by_missing : (m : Bool) → (x : ℕ) × (get_or c (span.start + 5) 0 ≡ byte_within (choice_text m) 5 x) → is_word_byte (get_or c (span.start + 5) 0) ≡ false
      by_missing true (x, e) = ap is_word_byte (e ∙ byte_of_text (codes "oneof ()") 5 x (omega arith))
      by_missing false (x, e) = ap is_word_byte (e ∙ byte_after_text (codes "oneof") 5 x (omega arith)) ∙ blank_no_word x

  -- the word
  read_oneof : IsReading c span.start ps s → IsReading c (span.start + 5) ps (join s (word (oneof_span span) (codes "oneof") nothing))
  read_oneof r =
      let first : get_or c span.start 0 ≡ 111 = ap (λ k. get_or c k 0) (omega arith) ∙ letter 0 (omega arith) in
      let place : span.place ≡ place_at c span.start = placed ∙ sym (same_places b c span.start t (omega (arith, room_for, t.long))) in
      read-word c span.start (span.start + 5) ps s (oneof_span span) (codes "oneof") (omega (arith, room_for)) (ap is_word_byte first) (omega arith) (omega (arith, room_for))
      (λ i l u.
      let there : span.start + (i - span.start) ≡ i = omega arith in
      let short : i - span.start < 5 = omega arith in
      ap is_word_byte (ap (λ k. get_or c k 0) (sym there) ∙ letter (i - span.start) short) ∙ letter_is_word (i - span.start) short)
      after_five
      (ap (λ p. record { start = span.start; end = span.start + 5; place = p }) place)
      (ap str_to_ascii_lowercase (sym cut))
      r

  -- without the empty effect only spaces follow
  read_whole : missing ≡ false → IsReading c span.start ps s → IsReading c span.end ps (join s (choice_head false span nothing))
  read_whole e r =
      read_spaces b c ps (join s (word (oneof_span span) (codes "oneof") nothing)) t (span.start + 5) span.end (omega (arith, h.long)) (omega (arith, h.inside, t.long))
      (λ i l u.
      let there : span.start + (i - span.start) ≡ i = omega arith in
      let x = h.at (i - span.start) (omega (arith, h.long)) in
      let five : length (choice_text missing) ≤ i - span.start = subst (λ m. length (choice_text m) ≤ i - span.start) (sym e) (omega arith) in
      ap is_space (ap (λ k. get_or c k 0) (sym there) ∙ (x.1 ∙ byte_after_text (choice_text missing) (i - span.start) x.0 five)) ∙ blank_is_space x.0)
      (read_oneof r)

  byte_of_eight : missing ≡ true → (i n : ℕ) → i < 8 → get_or (codes "oneof ()") i 0 ≡ n → get_or c (span.start + i) 0 ≡ n
  byte_of_eight e i n short is =
      let x = h.at i (omega arith) in
      let eight : i < length (choice_text missing) = subst (λ m. i < length (choice_text m)) (sym e) (omega arith) in
      x.1 ∙ (byte_of_text (choice_text missing) i x.0 eight ∙ (ap (λ m. get_or (choice_text m) i 0) e ∙ is))

  no_feed : (i : ℕ) → i < 6 → missing ≡ true → is_line_feed (get_or c (span.start + i) 0) ≡ false
  no_feed i short e = by_place (cases i)
    where
      cases : (i : ℕ) → (i < 5) ⊎ (5 ≤ i)
      cases i = grind arith

      letter_no_feed : (i : ℕ) → i < 5 → is_line_feed (get_or (codes "oneof") i 0) ≡ false
      letter_no_feed i short = below_five (λ i. is_line_feed (get_or (codes "oneof") i 0) ≡ false) refl refl refl refl refl i short

      by_place : (i < 5) ⊎ (5 ≤ i) → is_line_feed (get_or c (span.start + i) 0) ≡ false
      by_place (inl lt) = ap is_line_feed (letter i lt) ∙ letter_no_feed i lt
      by_place (inr le) =
          let five : 5 ≡ i = omega arith in
          subst (λ k. is_line_feed (get_or c (span.start + k) 0) ≡ false) five (ap is_line_feed (byte_of_eight e 5 32 (omega arith) refl))

  empty_place : missing ≡ true → (empty_span span).place ≡ place_at c (span.start + 6)
  empty_place e =
      let here = both_at b c span.start t (omega (arith, room_for, t.long)) in
      let place : span.place ≡ place_at c span.start = placed ∙ sym (same_places b c span.start t (omega (arith, room_for, t.long))) in
      let more : Place → Place = λ p. record { line = p.line; column = p.column + 6 } in
      ap more place
      ∙ later_place c span.start 6 (omega (arith, room_for))
      (λ i l u.
      let there : span.start + (i - span.start) ≡ i = omega arith in
      subst (λ k. is_line_feed (get_or c k 0) ≡ false) there (no_feed (i - span.start) (omega arith) e))
      here.0 here.1 here.3

  -- else two parentheses follow, and then only spaces
  read_missing : missing ≡ true → length ps < most_open → IsReading c span.start ps s → IsReading c span.end ps (join s (choice_head true span nothing))
  read_missing e room r =
      let s1 = join s (word (oneof_span span) (codes "oneof") nothing) in
      let k6 : suc (span.start + 5) ≡ span.start + 6 = omega arith in
      let k7 : suc (span.start + 6) ≡ span.start + 7 = omega arith in
      let k8 : suc (span.start + 7) ≡ span.start + 8 = omega arith in
      let p : Pending = record { start = span.start + 6; place = (empty_span span).place; before = s1 } in
      let r6 : IsReading c (span.start + 6) ps s1 =
      subst (λ k. IsReading c k ps s1) k6 (read-space c (span.start + 5) ps s1 (omega (arith, room_for)) (ap is_space (byte_of_eight e 5 32 (omega arith) refl)) (read_oneof r)) in
      let r7 : IsReading c (span.start + 7) (ps ++ p ∷ []) nothing =
      subst (λ k. IsReading c k (ps ++ p ∷ []) nothing) k7 (read-open c (span.start + 6) ps s1 p (omega (arith, room_for)) (ap (λ x. x == 40) (byte_of_eight e 6 40 (omega arith) refl)) room refl refl (empty_place e) r6) in
      let closed : ℕ → Span = λ k. record { start = span.start + 6; end = k; place = (empty_span span).place } in
      let r8 : IsReading c (span.start + 8) ps (join s1 (group (empty_span span) nothing nothing)) =
      subst (λ k. IsReading c k ps (join s1 (group (closed k) nothing nothing))) k8 (read-close c (span.start + 7) ps nothing p (omega (arith, room_for)) (ap (λ x. x == 41) (byte_of_eight e 7 41 (omega arith) refl)) r7) in
      let last : IsReading c span.end ps (join s1 (group (empty_span span) nothing nothing)) =
      read_spaces b c ps (join s1 (group (empty_span span) nothing nothing)) t (span.start + 8) span.end (omega (arith, h.long)) (omega (arith, h.inside, t.long))
      (λ i l u.
      let there : span.start + (i - span.start) ≡ i = omega arith in
      let x = h.at (i - span.start) (omega (arith, h.long)) in
      let eight : length (choice_text missing) ≤ i - span.start = subst (λ m. length (choice_text m) ≤ i - span.start) (sym e) (omega arith) in
      ap is_space (ap (λ k. get_or c k 0) (sym there) ∙ (x.1 ∙ byte_after_text (choice_text missing) (i - span.start) x.0 eight)) ∙ blank_is_space x.0)
      r8 in
      subst (IsReading c span.end ps) (join-assoc s (word (oneof_span span) (codes "oneof") nothing) (group (empty_span span) nothing nothing)) last

  -- the head, with or without
  pub read_choice : length ps < most_open → IsReading c span.start ps s → IsReading c span.end ps (join s (choice_head missing span nothing))
  read_choice room r = by_missing (either missing)
    where
      either : (m : Bool) → (m ≡ true) ⊎ (m ≡ false)
      either true = inl refl
      either false = inr refl

      by_missing : (missing ≡ true) ⊎ (missing ≡ false) → IsReading c span.end ps (join s (choice_head missing span nothing))
      by_missing (inl e) = subst (λ m. IsReading c span.end ps (join s (choice_head m span nothing))) (sym e) (read_missing e room r)
      by_missing (inr e) = subst (λ m. IsReading c span.end ps (join s (choice_head m span nothing))) (sym e) (read_whole e r)
