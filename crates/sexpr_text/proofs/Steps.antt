-- One step of the reader for each kind of byte.
use Rattle.std.proofs.Common.{◌≡◌, ℕ, suc, ◌+◌, ◌<◌, ◌≤◌, ◌⊎◌, inl, inr, Bool, true, false, ◌==◌, List, [], ◌∷◌, ◌++◌, length, get_or, refl, ap, sym, subst, ◌∙◌, arith, add-one}
use Rattle.std.specs.List.{slice_range}
use Rattle.std.specs.Str.{str_to_ascii_lowercase}
use Rattle.std.proofs.lemmas.Bool.Decides.{nat_tests}
use Rattle.sexpr_text.specs.declared.forms.Span.{Span}
use Rattle.sexpr_text.specs.declared.faults.FaultKind.{FaultKind}
use Rattle.sexpr_text.specs.declared.faults.FaultKind.TheVariants.{BadByte, StrayClose, TooDeep}
use Rattle.sexpr_text.specs.Lexis.{is_line_feed, is_semicolon, is_space, is_word_byte, place_at, is_in_word, is_blank, opens_at, closes_at, depth_at}
use Rattle.sexpr_text.specs.Forest.{Forest, nothing, word, group, join}
use Rattle.sexpr_text.specs.Spelling.{IsGap, IsWordAt, IsBetween}
use Rattle.sexpr_text.specs.Faults.{IsFaultAt, IsBadByte, IsStrayClose, IsTooDeep, most_open}
use Rattle.sexpr_text.specs.Pending.{Pending}
use Rattle.sexpr_text.proofs.Lines.{is_comment_open-start}
use Rattle.sexpr_text.proofs.Depths.{IsQuiet, IsQuiet-free, is_comment_open-free, comment-within, opens_at-free, closes_at-free, is_blank-free, is_blank-comment, space-rules_out, word-rules_out, open-rules_out, close-rules_out, blank-no_open, blank-no_close, blank-no_word, word-no_open, word-no_close, open-no_close, close-no_open, is_in_word-other, HasOpen, HasOpen-depth, HasOpen-opens, HasOpen-closes, HasOpen-upto, depth_at-upto, words-upto, words-within}
use Rattle.sexpr_text.proofs.Between.{IsGap-none, IsBetween-join, IsBetween-then_gap}
use Rattle.sexpr_text.proofs.Reading.{IsNested, IsReading, IsNested-grow, IsNested-open, IsNested-close}
use Rattle.list_laws.proofs.Numbers.{le_or_lt}
use Rattle.list_laws.proofs.Booleans.{true_and_false}

-- a byte with none of the three faults has none
none_of : (b : List ℕ) (i : ℕ) → (IsBadByte b i → ⊥) → (IsStrayClose b i → ⊥) → (IsTooDeep b i → ⊥) → (kind : FaultKind) → IsFaultAt b i kind → ⊥
none_of b i bad stray deep BadByte f = bad f
none_of b i bad stray deep StrayClose f = stray f
none_of b i bad stray deep TooDeep f = deep f
none_of b i bad stray deep _ f = f

clean-blank : (b : List ℕ) (i : ℕ) → is_blank b i ≡ true → (kind : FaultKind) → IsFaultAt b i kind → ⊥
clean-blank b i h = none_of b i
    (λ f. true_and_false (is_blank b i) h f.no_blank)
    (λ f. true_and_false (closes_at b i) f.closes (blank-no_close b i h))
    (λ f. true_and_false (opens_at b i) f.opens (blank-no_open b i h))

clean-word : (b : List ℕ) (i : ℕ) → is_in_word b i ≡ true → (kind : FaultKind) → IsFaultAt b i kind → ⊥
clean-word b i h = none_of b i
    (λ f. true_and_false (is_in_word b i) h f.no_word)
    (λ f. true_and_false (closes_at b i) f.closes (word-no_close b i h))
    (λ f. true_and_false (opens_at b i) f.opens (word-no_open b i h))

clean-open : (b : List ℕ) (i d : ℕ) → opens_at b i ≡ true → depth_at b i ≡ d → d < most_open → (kind : FaultKind) → IsFaultAt b i kind → ⊥
clean-open b i d h level room = none_of b i
    (λ f. true_and_false (opens_at b i) h f.no_open)
    (λ f. true_and_false (closes_at b i) f.closes (open-no_close b i h))
    (λ f. omega (arith, f.full))

clean-close : (b : List ℕ) (i d : ℕ) → closes_at b i ≡ true → depth_at b i ≡ suc d → (kind : FaultKind) → IsFaultAt b i kind → ⊥
clean-close b i d h level = none_of b i
    (λ f. true_and_false (closes_at b i) h f.no_close)
    (λ f. omega (arith, f.none_open))
    (λ f. true_and_false (opens_at b i) f.opens (close-no_open b i h))

clean-upto : (b : List ℕ) (k e : ℕ) → ((i : ℕ) (kind : FaultKind) → i < k → IsFaultAt b i kind → ⊥) → ((i : ℕ) → k ≤ i → i < e → (kind : FaultKind) → IsFaultAt b i kind → ⊥) → (i : ℕ) (kind : FaultKind) → i < e → IsFaultAt b i kind → ⊥
clean-upto b k e before here i kind u = by_place (le_or_lt k i)
  where
    by_place : (k ≤ i) ⊎ (i < k) → IsFaultAt b i kind → ⊥
    by_place (inl w) = here i w u kind
    by_place (inr w) = before i kind w

-- before the first byte
pub read-start : (b : List ℕ) → IsReading b 0 [] nothing
read-start b = record {
  inside = omega arith;
  quiet = λ _ _. is_comment_open-start b;
  apart = λ _ i e. absurd (omega arith);
  clean = λ i kind u _. absurd (omega arith);
  deep = refl;
  bounded = omega arith;
  nested = IsGap-none b 0;
}

-- blank bytes are passed over
read-blank : (b : List ℕ) (k e : ℕ) (ps : List Pending) (t : Forest) → k < e → e ≤ length b → ((i : ℕ) → k ≤ i → i < e → is_blank b i ≡ true) → IsQuiet b e → IsReading b k ps t → IsReading b e ps t
read-blank b k e ps t lt inside blank quiet r =
    let plain : (i : ℕ) → k ≤ i → i < e → (opens_at b i ≡ false) × (closes_at b i ≡ false) =
    λ i l u. (blank-no_open b i (blank i l u), blank-no_close b i (blank i l u)) in
    let level : (m : ℕ) → k < m → m ≤ e → depth_at b k ≤ depth_at b m = λ m l u.
    let same : depth_at b m ≡ depth_at b k = depth_at-upto b k m (omega arith) (λ i lo hi. plain i lo (omega arith)) in
    omega (arith, same) in
    let gap : IsGap b k e = record { ordered = omega arith; blank = blank } in
    record {
      inside = inside;
      quiet = quiet;
      apart = λ _ i last. blank-no_word b i (blank i (omega arith) (omega arith));
      clean = clean-upto b k e r.clean (λ i l u. clean-blank b i (blank i l u));
      deep = HasOpen-upto b k e (length ps) (omega arith) plain r.deep;
      bounded = r.bounded;
      nested = IsNested-grow b k e 0 0 ps t t level (λ lo h. IsBetween-then_gap b lo k e t h gap) r.nested;
    }

pub read-space : (b : List ℕ) (k : ℕ) (ps : List Pending) (t : Forest) → k < length b → is_space (get_or b k 0) ≡ true → IsReading b k ps t → IsReading b (suc k) ps t
read-space b k ps t inside h r =
    let free = IsQuiet-free b k inside r.quiet (space-rules_out (get_or b k 0) h).3 in
    let only : (i : ℕ) → k ≤ i → i < suc k → is_blank b i ≡ true = λ i l u.
    let same : k ≡ i = omega arith in
    subst (λ x. is_blank b x ≡ true) same (is_blank-free b k free ∙ h) in
    read-blank b k (suc k) ps t (omega arith) (omega arith) only (λ _ _. is_comment_open-free b k free) r

pub read-comment : (b : List ℕ) (k e : ℕ) (ps : List Pending) (t : Forest) → k < length b → is_semicolon (get_or b k 0) ≡ true → k ≤ e → e ≤ length b → ((i : ℕ) → k ≤ i → i < e → is_line_feed (get_or b i 0) ≡ false) → (e < length b → is_line_feed (get_or b e 0) ≡ true) → IsReading b k ps t → IsReading b e ps t
read-comment b k e ps t inside h le within none stops r =
    let feed : is_line_feed (get_or b k 0) ≡ false = grind (arith, nat_tests) in
    let ends : e < length b → is_line_feed (get_or b e 0) ≡ false → ⊥ = λ u w. true_and_false (is_line_feed (get_or b e 0)) (stops u) w in
    read-blank b k e ps t (past (le_or_lt e k) feed ends) within
    (λ i l u. is_blank-comment b i (comment-within b k e i l u within h none))
    (λ u w. absurd (ends u w))
    r
  where
    past : (e ≤ k) ⊎ (k < e) → is_line_feed (get_or b k 0) ≡ false → (e < length b → is_line_feed (get_or b e 0) ≡ false → ⊥) → k < e
    past (inl w) feed ends =
        let same : k ≡ e = omega arith in
        absurd (ends (omega arith) (subst (λ x. is_line_feed (get_or b x 0) ≡ false) same feed))
    past (inr w) feed ends = w

pub read-word : (b : List ℕ) (k e : ℕ) (ps : List Pending) (t : Forest) (span : Span) (text : List ℕ) → k < length b → is_word_byte (get_or b k 0) ≡ true → k ≤ e → e ≤ length b → ((i : ℕ) → k ≤ i → i < e → is_word_byte (get_or b i 0) ≡ true) → is_word_byte (get_or b e 0) ≡ false → span ≡ record { start = k; end = e; place = place_at b k } → text ≡ str_to_ascii_lowercase (slice_range b k e) → IsReading b k ps t → IsReading b e ps (join t (word span text nothing))
read-word b k e ps t span text inside h le within all stops is_span is_text r =
    let rules = word-rules_out (get_or b k 0) h in
    let quiet = r.quiet inside rules.3 in
    let in_word : (i : ℕ) → k ≤ i → i < e → is_in_word b i ≡ true = λ i l u. words-within b k e i l u within quiet all in
    let plain : (i : ℕ) → k ≤ i → i < e → (opens_at b i ≡ false) × (closes_at b i ≡ false) =
    λ i l u. (word-no_open b i (in_word i l u), word-no_close b i (in_word i l u)) in
    let level : (m : ℕ) → k < m → m ≤ e → depth_at b k ≤ depth_at b m = λ m l u.
    let same : depth_at b m ≡ depth_at b k = depth_at-upto b k m (omega arith) (λ i lo hi. plain i lo (omega arith)) in
    omega (arith, same) in
    let lt : k < e = past (le_or_lt e k) in
    let ends : is_in_word b e ≡ false = is_in_word-other b e stops in
    let here : IsWordAt b (record { start = k; end = e; place = place_at b k }) text = record {
      nonempty = lt;
      within = in_word;
      begins = r.apart (in_word k (omega arith) lt);
      ends = ends;
      spelled = is_text;
      placed = refl;
    } in
    let found : (lo : ℕ) → IsBetween b lo k t → IsBetween b lo e (join t (word (record { start = k; end = e; place = place_at b k }) text nothing)) = λ lo g.
    IsBetween-join b lo k e t (word (record { start = k; end = e; place = place_at b k }) text nothing) g
    (IsGap-none b k, here, IsGap-none b e) in
    record {
      inside = within;
      quiet = λ _ _. words-upto b k e le within quiet all;
      apart = λ w. absurd (true_and_false (is_in_word b e) w ends);
      clean = clean-upto b k e r.clean (λ i l u. clean-word b i (in_word i l u));
      deep = HasOpen-upto b k e (length ps) le plain r.deep;
      bounded = r.bounded;
      nested = IsNested-grow b k e 0 0 ps t (join t (word span text nothing)) level
          (λ lo g. subst (λ s. IsBetween b lo e (join t (word s text nothing))) (sym is_span) (found lo g)) r.nested;
    }
  where
    past : (e ≤ k) ⊎ (k < e) → k < e
    past (inl w) =
        let same : k ≡ e = omega arith in
        absurd (true_and_false (is_word_byte (get_or b e 0)) (subst (λ x. is_word_byte (get_or b x 0) ≡ true) same h) stops)
    past (inr w) = w

-- what a parenthesis is to the text
pub opens_here : (b : List ℕ) (k : ℕ) → k < length b → IsQuiet b k → (get_or b k 0 == 40) ≡ true → opens_at b k ≡ true
opens_here b k inside quiet h =
    opens_at-free b k (IsQuiet-free b k inside quiet (open-rules_out (get_or b k 0) h).2) ∙ h

pub closes_here : (b : List ℕ) (k : ℕ) → k < length b → IsQuiet b k → (get_or b k 0 == 41) ≡ true → closes_at b k ≡ true
closes_here b k inside quiet h =
    closes_at-free b k (IsQuiet-free b k inside quiet (close-rules_out (get_or b k 0) h).2) ∙ h

-- the byte after a parenthesis is in no comment, and the parenthesis in no word
after_parenthesis : (b : List ℕ) (k : ℕ) (ps : List Pending) (t : Forest) → k < length b → is_semicolon (get_or b k 0) ≡ false → is_word_byte (get_or b k 0) ≡ false → IsReading b k ps t → IsQuiet b (suc k) × ((i : ℕ) → suc i ≡ suc k → is_in_word b i ≡ false)
after_parenthesis b k ps t inside none other r = (
  λ _ _. is_comment_open-free b k (IsQuiet-free b k inside r.quiet none),
  λ i last.
      let same : k ≡ i = omega arith in
      subst (λ x. is_in_word b x ≡ false) same (is_in_word-other b k other),
)

pub read-open : (b : List ℕ) (k : ℕ) (ps : List Pending) (t : Forest) (p : Pending) → k < length b → (get_or b k 0 == 40) ≡ true → length ps < most_open → p.start ≡ k → p.before ≡ t → p.place ≡ place_at b k → IsReading b k ps t → IsReading b (suc k) (ps ++ p ∷ []) nothing
read-open b k ps t p inside h room start before placed r =
    let rules = open-rules_out (get_or b k 0) h in
    let opens = opens_here b k inside r.quiet h in
    let level : depth_at b k ≡ length ps = HasOpen-depth b k (length ps) r.deep in
    let deep : HasOpen b (suc k) (suc (length ps)) = HasOpen-opens b k (length ps) opens r.deep in
    let next : depth_at b (k + 1) ≡ length ps + 1 = rw add-one (HasOpen-depth b (suc k) (suc (length ps)) deep ∙ omega arith) in
    let longer : length (ps ++ p ∷ []) ≡ suc (length ps) = length_after ps p in
    let after = after_parenthesis b k ps t inside rules.2 rules.1 r in
    record {
      inside = omega arith;
      quiet = after.0;
      apart = λ _. after.1;
      clean = clean-upto b k (suc k) r.clean (λ i l u.
          let same : k ≡ i = omega arith in
          subst (λ x. (kind : FaultKind) → IsFaultAt b x kind → ⊥) same (clean-open b k (length ps) opens level room));
      deep = subst (HasOpen b (suc k)) (sym longer) deep;
      bounded = omega (arith, longer);
      nested = subst (λ x. IsNested b x 0 0 (ps ++ p ∷ []) nothing) (add-one k)
          (IsNested-open b k 0 0 ps t p start before placed opens (level ∙ omega arith) (next ∙ omega arith) r.nested);
    }
  where
    length_after : (ps : List Pending) (p : Pending) → length (ps ++ p ∷ []) ≡ suc (length ps)
    length_after [] p = refl
    length_after (q ∷ ps) p = ap suc (length_after ps p)

pub read-close : (b : List ℕ) (k : ℕ) (ps : List Pending) (t : Forest) (p : Pending) → k < length b → (get_or b k 0 == 41) ≡ true → IsReading b k (ps ++ p ∷ []) t → IsReading b (suc k) ps (join p.before (group (record { start = p.start; end = suc k; place = p.place }) t nothing))
read-close b k ps t p inside h r =
    let rules = close-rules_out (get_or b k 0) h in
    let closes = closes_here b k inside r.quiet h in
    let longer : length (ps ++ p ∷ []) ≡ suc (length ps) = length_after ps p in
    let here : HasOpen b k (suc (length ps)) = subst (HasOpen b k) longer r.deep in
    let level : depth_at b k ≡ suc (length ps) = HasOpen-depth b k (suc (length ps)) here in
    let deep : HasOpen b (suc k) (length ps) = HasOpen-closes b k (length ps) closes (close-no_open b k closes) here in
    let next : depth_at b (k + 1) ≡ length ps = rw add-one (HasOpen-depth b (suc k) (length ps) deep) in
    let after = after_parenthesis b k (ps ++ p ∷ []) t inside rules.2 rules.1 r in
    record {
      inside = omega arith;
      quiet = after.0;
      apart = λ _. after.1;
      clean = clean-upto b k (suc k) r.clean (λ i l u.
          let same : k ≡ i = omega arith in
          subst (λ x. (kind : FaultKind) → IsFaultAt b x kind → ⊥) same (clean-close b k (length ps) closes level));
      deep = deep;
      bounded = omega (arith, longer, r.bounded);
      nested = subst (λ x. IsNested b x 0 0 ps (join p.before (group (record { start = p.start; end = x; place = p.place }) t nothing))) (add-one k)
          (IsNested-close b k 0 0 ps t p closes (next ∙ omega arith) r.nested);
    }
  where
    length_after : (ps : List Pending) (p : Pending) → length (ps ++ p ∷ []) ≡ suc (length ps)
    length_after [] p = refl
    length_after (q ∷ ps) p = ap suc (length_after ps p)
