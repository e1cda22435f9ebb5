-- Two texts of which the one comes from the other by edits: what stands at an offset, and where.
use Rattle.std.proofs.Common.{◌≡◌, ◌≢◌, ℕ, zero, suc, ◌+◌, ◌-◌, ◌<◌, ◌≤◌, ◌⊎◌, inl, inr, Bool, true, false, not, ◌&&◌, ◌||◌, ◌==◌, List, [], ◌∷◌, ◌++◌, length, get_or, take, drop, refl, ap, sym, subst, ◌∙◌, arith}
use Rattle.std.specs.List.{slice_range}
use Rattle.std.specs.Str.{str_to_ascii_lowercase}
use Rattle.std.proofs.lemmas.Bool.Decides.{nat_tests}
use Rattle.std.proofs.lemmas.List.{ext_get_or, get_or-drop, get_or_past, get_or-take, length-take-le, length-drop}
use Rattle.sexpr_text.specs.declared.forms.Place.{Place}
use Rattle.sexpr_text.specs.declared.forms.Span.{Span}
use Rattle.sexpr_text.specs.Forest.{Forest, nothing, word, group, join}
use Rattle.sexpr_text.specs.Lexis.{is_line_feed, is_semicolon, is_space, is_word_byte, is_in_comment, is_in_word, is_blank, opens_at, closes_at, place_at}
use Rattle.sexpr_text.specs.Pending.{Pending}
use Rattle.sexpr_text.specs.Spelling.{IsGap, IsWordAt}
use Rattle.sexpr_text.proofs.Lines.{IsAt, IsAt-start, IsAt-feed, IsAt-more, IsAt-run, place_from, is_comment_open, is_in_comment_is, is_comment_open-feed, is_comment_open-more}
use Rattle.sexpr_text.proofs.Depths.{is_comment_open-free}
use Rattle.sexpr_text.proofs.Reading.{IsReading}
use Rattle.sexpr_text.proofs.Steps.{read-space, read-comment, read-word}

-- a text b and an edited one, c
pub record AreTwins (b c : List ℕ) : Type 0 where
  pub long : length c ≡ length b
  pub feeds : (k : ℕ) → k < length b → is_line_feed (get_or c k 0) ≡ is_line_feed (get_or b k 0)
  pub apart : (k : ℕ) → is_in_word b k ≡ false → is_word_byte (get_or b k 0) ≡ false → is_word_byte (get_or c k 0) ≡ false

-- the bytes between two offsets are the same
abbrev pub IsSame : List ℕ → List ℕ → ℕ → ℕ → Type 0
IsSame b c lo hi = (k : ℕ) → lo ≤ k → k < hi → get_or c k 0 ≡ get_or b k 0

either_bool : (x : Bool) → (x ≡ true) ⊎ (x ≡ false)
either_bool true = inl refl
either_bool false = inr refl

contrary : (x : Bool) → x ≡ true → x ≡ false → ⊥
contrary x t f = cc

-- the same lines and columns
pub both_at : (b c : List ℕ) (k : ℕ) → AreTwins b c → k ≤ length b → (line : ℕ) × (start : ℕ) × IsAt b k line start × IsAt c k line start
both_at b c zero t le = (1, 0, IsAt-start b, IsAt-start c)
both_at b c (suc k) t le =
    let before = both_at b c k t (omega arith) in
    by_feed before.0 before.1 before.2 before.3 (either_bool (is_line_feed (get_or b k 0)))
  where
    by_feed : (line start : ℕ) → IsAt b k line start → IsAt c k line start → (is_line_feed (get_or b k 0) ≡ true) ⊎ (is_line_feed (get_or b k 0) ≡ false) → (l : ℕ) × (s : ℕ) × IsAt b (suc k) l s × IsAt c (suc k) l s
    by_feed line start p q (inl f) =
        (line + 1, suc k, IsAt-feed b k line start (omega arith) f p, IsAt-feed c k line start (omega (arith, t.long)) (t.feeds k (omega arith) ∙ f) q)
    by_feed line start p q (inr f) =
        (line, start, IsAt-more b k line start (omega arith) f p, IsAt-more c k line start (omega (arith, t.long)) (t.feeds k (omega arith) ∙ f) q)

pub same_places : (b c : List ℕ) (k : ℕ) → AreTwins b c → k ≤ length b → place_at c k ≡ place_at b k
same_places b c k t le =
    let here = both_at b c k t le in
    sym (place_from c k here.0 here.1 here.3) ∙ place_from b k here.0 here.1 here.2

-- the place of a later byte of a line
pub later_place : (b : List ℕ) (k n : ℕ) → k + n ≤ length b → ((i : ℕ) → k ≤ i → i < k + n → is_line_feed (get_or b i 0) ≡ false) → (line start : ℕ) → IsAt b k line start → record { line = (place_at b k).line; column = (place_at b k).column + n } ≡ place_at b (k + n)
later_place b k n le none line start here =
    let there : IsAt b (k + n) line start = IsAt-run n b k line start le none here in
    let e : record { line = line; column = k - start + 1 } ≡ place_at b k = place_from b k line start here in
    let f : record { line = line; column = k + n - start + 1 } ≡ place_at b (k + n) = place_from b (k + n) line start there in
    let more : Place → Place = λ p. record { line = p.line; column = p.column + n } in
    let within : start ≤ k = omega (arith, here.start_is) in
    let column : k - start + 1 + n ≡ k + n - start + 1 = omega arith in
    ap more (sym e) ∙ (ap (λ x. record { line = line; column = x }) column ∙ f)

-- what a parenthesis and a byte of a word are
pub record IsSign (b : List ℕ) (k : ℕ) : Type 0 where
  pub inside : k < length b
  pub free : is_in_comment b k ≡ false
  pub no_feed : is_line_feed (get_or b k 0) ≡ false

some_inside : (b : List ℕ) (k : ℕ) → get_or b k 0 ≢ 0 → k < length b
some_inside b k some = by_place (cases k)
  where
    cases : (k : ℕ) → (k < length b) ⊎ (length b ≤ k)
    cases k = grind arith

    by_place : (k < length b) ⊎ (length b ≤ k) → k < length b
    by_place (inl lt) = lt
    by_place (inr le) = absurd (some (get_or_past b k 0 le))

no_and : (x y : Bool) → (not x && y) ≡ true → (x ≡ false) × (y ≡ true)
no_and true y e = cc
no_and false y e = (refl, e)

pub open_sign : (b : List ℕ) (k : ℕ) → opens_at b k ≡ true → IsSign b k × ((get_or b k 0 == 40) ≡ true)
unfolding opens_at
open_sign b k h =
    let both = no_and (is_in_comment b k) (get_or b k 0 == 40) h in
    let e : (get_or b k 0 == 40) ≡ true = both.1 in
    let is : get_or b k 0 ≡ 40 = grind (arith, nat_tests) in
    (record { inside = some_inside b k (λ z. omega (arith, z, is)); free = both.0; no_feed = grind (arith, nat_tests) }, e)

pub close_sign : (b : List ℕ) (k : ℕ) → closes_at b k ≡ true → IsSign b k × ((get_or b k 0 == 41) ≡ true)
unfolding closes_at
close_sign b k h =
    let both = no_and (is_in_comment b k) (get_or b k 0 == 41) h in
    let e : (get_or b k 0 == 41) ≡ true = both.1 in
    let is : get_or b k 0 ≡ 41 = grind (arith, nat_tests) in
    (record { inside = some_inside b k (λ z. omega (arith, z, is)); free = both.0; no_feed = grind (arith, nat_tests) }, e)

word_some : (x : ℕ) → is_word_byte x ≡ true → (x ≢ 0) × (is_line_feed x ≡ false)
word_some x h = (λ z. let le : 33 ≤ x = grind (arith, nat_tests) in omega arith, grind (arith, nat_tests))

pub word_sign : (b : List ℕ) (k : ℕ) → is_in_word b k ≡ true → IsSign b k × (is_word_byte (get_or b k 0) ≡ true)
unfolding is_in_word
word_sign b k h =
    let both = no_and (is_in_comment b k) (is_word_byte (get_or b k 0)) h in
    let some = word_some (get_or b k 0) both.1 in
    (record { inside = some_inside b k some.0; free = both.0; no_feed = some.1 }, both.1)

neither : (x y : Bool) → (x || y) ≡ false → (x ≡ false) × (y ≡ false)
neither true y e = cc
neither false y e = (refl, e)

-- no comment is open before such a byte, and none after it
pub closed_before : (b : List ℕ) (k : ℕ) → IsSign b k → is_comment_open b k ≡ false
closed_before b k h =
    let e : is_comment_open b (suc k) ≡ false = sym (is_in_comment_is b k) ∙ h.free in
    (neither (is_comment_open b k) (is_semicolon (get_or b k 0)) (sym (is_comment_open-more b k h.inside h.no_feed) ∙ e)).0

pub closed_after : (b : List ℕ) (k : ℕ) → IsSign b k → is_comment_open b (suc k) ≡ false
closed_after b k h = is_comment_open-free b k h.free

-- no comment goes on at the offset
abbrev pub IsClosed : List ℕ → ℕ → Type 0
IsClosed b k = (k ≡ length b) ⊎ (is_comment_open b k ≡ false)

-- a gap is read up to offset k: no comment is open there, or one that began at an earlier offset
abbrev pub IsInGap : List ℕ → List ℕ → List Pending → Forest → ℕ → Type 0
IsInGap b c ps s k =
    ((is_comment_open b k ≡ false) × IsReading c k ps s)
    ⊎ ((j : ℕ) × (j < k) × IsReading c j ps s × (is_semicolon (get_or c j 0) ≡ true) × ((i : ℕ) → j ≤ i → i < k → is_line_feed (get_or c i 0) ≡ false) × (is_comment_open b k ≡ true))

-- a blank byte outside comments is white space
blank_space : (b : List ℕ) (k : ℕ) → is_in_comment b k ≡ false → is_blank b k ≡ true → is_space (get_or b k 0) ≡ true
unfolding is_blank
blank_space b k free h = sym (ap (λ v. v || is_space (get_or b k 0)) free) ∙ h

semicolon_no_word : (x : ℕ) → is_semicolon x ≡ true → is_word_byte x ≡ false
semicolon_no_word x h = grind (arith, nat_tests)

feed_no_word : (x : ℕ) → is_line_feed x ≡ true → is_word_byte x ≡ false
feed_no_word x h = grind (arith, nat_tests)

-- a byte that belongs to no word, where no comment is open
no_word_byte : (b : List ℕ) (k : ℕ) → is_comment_open b k ≡ false → is_in_word b k ≡ false → is_word_byte (get_or b k 0) ≡ false
unfolding is_in_word
no_word_byte b k closed none = by_place (cases k)
  where
    cases : (k : ℕ) → (k < length b) ⊎ (length b ≤ k)
    cases k = grind arith

    by_free : (is_in_comment b k ≡ true) ⊎ (is_in_comment b k ≡ false) → k < length b → (is_line_feed (get_or b k 0) ≡ true) ⊎ (is_line_feed (get_or b k 0) ≡ false) → is_word_byte (get_or b k 0) ≡ false
    by_free (inl i) inside (inl f) = feed_no_word (get_or b k 0) f
    by_free (inl i) inside (inr f) =
        let e : is_semicolon (get_or b k 0) ≡ true = sym (is_comment_open-more b k inside f ∙ ap (λ v. v || is_semicolon (get_or b k 0)) closed) ∙ (sym (is_in_comment_is b k) ∙ i) in
        semicolon_no_word (get_or b k 0) e
    by_free (inr i) inside f = sym (ap (λ v. not v && is_word_byte (get_or b k 0)) i) ∙ none

    by_place : (k < length b) ⊎ (length b ≤ k) → is_word_byte (get_or b k 0) ≡ false
    by_place (inl inside) = by_free (either_bool (is_in_comment b k)) inside (either_bool (is_line_feed (get_or b k 0)))
    by_place (inr le) = ap is_word_byte (get_or_past b k 0 le)

same_range : (b c : List ℕ) (lo hi : ℕ) → length c ≡ length b → lo ≤ hi → hi ≤ length b → IsSame b c lo hi → slice_range c lo hi ≡ slice_range b lo hi
same_range b c lo hi long ordered le same =
    ext_get_or 0 (slice_range c lo hi) (slice_range b lo hi)
    (length-take-le (hi - lo) (drop lo c) (omega (arith, length-drop lo c)) ∙ sym (length-take-le (hi - lo) (drop lo b) (omega (arith, length-drop lo b))))
    (λ i h.
    let short : i < hi - lo = omega (arith, length-take-le (hi - lo) (drop lo c) (omega (arith, length-drop lo c))) in
    get_or-take (hi - lo) (drop lo c) i 0 short ∙ (get_or-drop lo c i 0 ∙ (same (lo + i) (omega arith) (omega arith) ∙ sym (get_or-take (hi - lo) (drop lo b) i 0 short ∙ get_or-drop lo b i 0))))

feed_is_space : (x : ℕ) → is_line_feed x ≡ true → is_space x ≡ true
feed_is_space x h = grind (arith, nat_tests)

module _ (b c : List ℕ) (ps : List Pending) (s : Forest) (t : AreTwins b c) where
  after_blank : (k : ℕ) → k < length b → get_or c k 0 ≡ get_or b k 0 → is_blank b k ≡ true → is_comment_open b k ≡ false → IsReading c k ps s → is_line_feed (get_or b k 0) ≡ false → IsInGap b c ps s (suc k)
  after_blank k inside same blank closed r f = by_semicolon (either_bool (is_semicolon (get_or b k 0)))
    where
      more : is_comment_open b (suc k) ≡ is_semicolon (get_or b k 0)
      more = is_comment_open-more b k inside f ∙ ap (λ v. v || is_semicolon (get_or b k 0)) closed

      by_semicolon : (is_semicolon (get_or b k 0) ≡ true) ⊎ (is_semicolon (get_or b k 0) ≡ false) → IsInGap b c ps s (suc k)
      by_semicolon (inl e) =
          inr (k, omega arith, r, ap is_semicolon same ∙ e, λ i l u. (let last : i ≡ k = omega arith in subst (λ x. is_line_feed (get_or c x 0) ≡ false) (sym last) (ap is_line_feed same ∙ f)), more ∙ e)
      by_semicolon (inr e) =
          let free : is_in_comment b k ≡ false = is_in_comment_is b k ∙ (more ∙ e) in
          inl (more ∙ e, read-space c k ps s (omega (arith, t.long)) (ap is_space same ∙ blank_space b k free blank) r)

  gap_step : (k : ℕ) → k < length b → get_or c k 0 ≡ get_or b k 0 → is_blank b k ≡ true → IsInGap b c ps s k → IsInGap b c ps s (suc k)
  gap_step k inside same blank here = by_feed (either_bool (is_line_feed (get_or b k 0))) here
    where
      by_feed : (is_line_feed (get_or b k 0) ≡ true) ⊎ (is_line_feed (get_or b k 0) ≡ false) → IsInGap b c ps s k → IsInGap b c ps s (suc k)
      by_feed (inl f) (inl (closed, r)) =
          inl (is_comment_open-feed b k inside f, read-space c k ps s (omega (arith, t.long)) (feed_is_space (get_or c k 0) (ap is_line_feed same ∙ f)) r)
      by_feed (inl f) (inr (j, lt, r, semicolon, none, is)) =
          let at : IsReading c k ps s = read-comment c j k ps s (omega (arith, t.long)) semicolon (omega arith) (omega (arith, t.long)) none (λ u. ap is_line_feed same ∙ f) r in
          inl (is_comment_open-feed b k inside f, read-space c k ps s (omega (arith, t.long)) (feed_is_space (get_or c k 0) (ap is_line_feed same ∙ f)) at)
      by_feed (inr f) (inl (closed, r)) = after_blank k inside same blank closed r f
      by_feed (inr f) (inr (j, lt, r, semicolon, none, is)) =
          inr (j, omega arith, r, semicolon, λ i l u. further i l (below i u), is_comment_open-more b k inside f ∙ ap (λ v. v || is_semicolon (get_or b k 0)) is)
        where
          below : (i : ℕ) → i < suc k → (i < k) ⊎ (i ≡ k)
          below i u = grind arith

          further : (i : ℕ) → j ≤ i → (i < k) ⊎ (i ≡ k) → is_line_feed (get_or c i 0) ≡ false
          further i l (inl u) = none i l u
          further i l (inr e) = subst (λ x. is_line_feed (get_or c x 0) ≡ false) (sym e) (ap is_line_feed same ∙ f)

  gap_run : (n k hi : ℕ) → k + n ≡ hi → hi ≤ length b → IsSame b c k hi → ((i : ℕ) → k ≤ i → i < hi → is_blank b i ≡ true) → IsInGap b c ps s k → IsInGap b c ps s hi
  gap_run zero k hi e le same blank here = let same_end : k ≡ hi = omega arith in subst (IsInGap b c ps s) same_end here
  gap_run (suc n) k hi e le same blank here =
      gap_run n (suc k) hi (omega arith) le (λ i l u. same i (omega arith) u) (λ i l u. blank i (omega arith) u)
      (gap_step k (omega arith) (same k (omega arith) (omega arith)) (blank k (omega arith) (omega arith)) here)

  gap_end : (hi : ℕ) → hi ≤ length b → IsClosed b hi → IsInGap b c ps s hi → IsReading c hi ps s
  gap_end hi le ends (inl (closed, r)) = r
  gap_end hi le (inl last) (inr (j, lt, r, semicolon, none, is)) =
      read-comment c j hi ps s (omega (arith, t.long)) semicolon (omega arith) (omega (arith, t.long)) none (λ u. absurd (omega (arith, t.long))) r
  gap_end hi le (inr closed) (inr (j, lt, r, semicolon, none, is)) = absurd (contrary (is_comment_open b hi) is closed)

  -- a gap that stays
  pub read_gap : (lo hi : ℕ) → IsGap b lo hi → hi ≤ length b → IsSame b c lo hi → is_comment_open b lo ≡ false → IsClosed b hi → IsReading c lo ps s → IsReading c hi ps s
  read_gap lo hi gap le same closed ends r =
      let ordered : lo ≤ hi = gap.ordered in
      gap_end hi le ends (gap_run (hi - lo) lo hi (omega arith) le same gap.blank (inl (closed, r)))

  spaces_run : (n k hi : ℕ) → k + n ≡ hi → hi ≤ length b → ((i : ℕ) → k ≤ i → i < hi → is_space (get_or c i 0) ≡ true) → IsReading c k ps s → IsReading c hi ps s
  spaces_run zero k hi e le blank r = let same_end : k ≡ hi = omega arith in subst (λ x. IsReading c x ps s) same_end r
  spaces_run (suc n) k hi e le blank r =
      spaces_run n (suc k) hi (omega arith) le (λ i l u. blank i (omega arith) u)
      (read-space c k ps s (omega (arith, t.long)) (blank k (omega arith) (omega arith)) r)

  -- white space
  pub read_spaces : (lo hi : ℕ) → lo ≤ hi → hi ≤ length b → ((i : ℕ) → lo ≤ i → i < hi → is_space (get_or c i 0) ≡ true) → IsReading c lo ps s → IsReading c hi ps s
  read_spaces lo hi ordered le blank r = spaces_run (hi - lo) lo hi (omega arith) le blank r

  -- the byte after a word belongs to none, in both texts
  after_word_byte : (k : ℕ) → is_comment_open b k ≡ false → is_in_word b k ≡ false → is_word_byte (get_or c k 0) ≡ false
  after_word_byte k closed ends = t.apart k ends (no_word_byte b k closed ends)

  -- a word that stays
  pub read_word : (span : Span) (text : List ℕ) → IsWordAt b span text → IsSame b c span.start span.end → IsReading c span.start ps s → IsReading c span.end ps (join s (word span text nothing))
  read_word span text h same r =
      let first = word_sign b span.start (h.within span.start (omega arith) h.nonempty) in
      let nonempty : span.start < span.end = h.nonempty in
      let last = word_sign b (span.end - 1) (h.within (span.end - 1) (omega arith) (omega arith)) in
      let inside : span.end ≤ length b = omega (arith, last.0.inside) in
      let step : suc (span.end - 1) ≡ span.end = omega arith in
      let closed : is_comment_open b span.end ≡ false = subst (λ k. is_comment_open b k ≡ false) step (closed_after b (span.end - 1) last.0) in
      let place : span.place ≡ place_at c span.start = h.placed ∙ sym (same_places b c span.start t (omega arith)) in
      read-word c span.start span.end ps s span text (omega (arith, t.long)) (ap is_word_byte (same span.start (omega arith) nonempty) ∙ first.1) (omega arith) (omega (arith, t.long))
      (λ i l u. ap is_word_byte (same i l u) ∙ (word_sign b i (h.within i l u)).1)
      (after_word_byte span.end closed h.ends)
      (ap (λ p. record { start = span.start; end = span.end; place = p }) place)
      (h.spelled ∙ ap str_to_ascii_lowercase (sym (same_range b c span.start span.end t.long (omega arith) inside same)))
      r
