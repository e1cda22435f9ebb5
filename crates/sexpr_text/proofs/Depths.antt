-- What one more byte changes of comments and of the depth.
use Rattle.std.proofs.Common.{◌≡◌, ℕ, zero, suc, ◌+◌, ◌-◌, ◌<◌, ◌≤◌, Bool, true, false, not, ◌&&◌, ◌||◌, ◌==◌, List, length, get_or, refl, ap, sym, ◌∙◌, subst, arith, add-zero, add-suc}
use Rattle.std.proofs.lemmas.Bool.Decides.{nat_tests}
use Rattle.sexpr_text.specs.Lexis.{is_line_feed, is_semicolon, is_space, is_word_byte, is_in_comment, opens_at, closes_at, is_in_word, is_blank, count_below, depth_at}
use Rattle.sexpr_text.proofs.Lines.{is_comment_open, is_in_comment_is, is_comment_open-feed, is_comment_open-more}
use Rattle.list_laws.proofs.Booleans.{true_and_false}

-- no comment runs up to offset k and goes on with its byte
abbrev pub IsQuiet : List ℕ → ℕ → Type 0
IsQuiet b k = k < length b → is_line_feed (get_or b k 0) ≡ false → is_comment_open b k ≡ false

-- a byte that begins no comment is in none
pub IsQuiet-free : (b : List ℕ) (k : ℕ) → k < length b → IsQuiet b k → is_semicolon (get_or b k 0) ≡ false → is_in_comment b k ≡ false
IsQuiet-free b k inside quiet none =
    is_in_comment_is b k
    ∙ free (is_line_feed (get_or b k 0)) refl
  where
    free : (v : Bool) → is_line_feed (get_or b k 0) ≡ v → is_comment_open b (suc k) ≡ false
    free true h = is_comment_open-feed b k inside h
    free false h = is_comment_open-more b k inside h ∙ (ap (λ v. v || is_semicolon (get_or b k 0)) (quiet inside h) ∙ none)

-- after such a byte no comment is open
pub is_comment_open-free : (b : List ℕ) (k : ℕ) → is_in_comment b k ≡ false → is_comment_open b (suc k) ≡ false
is_comment_open-free b k h = sym (is_in_comment_is b k) ∙ h

-- a `;` begins a comment
pub comment-begins : (b : List ℕ) (k : ℕ) → k < length b → is_semicolon (get_or b k 0) ≡ true → is_comment_open b (suc k) ≡ true
comment-begins b k inside h =
    let feed : is_line_feed (get_or b k 0) ≡ false = grind (arith, nat_tests) in
    is_comment_open-more b k inside feed ∙ (ap (λ v. is_comment_open b k || v) h ∙ or_true (is_comment_open b k))
  where
    or_true : (x : Bool) → (x || true) ≡ true
    or_true true = refl
    or_true false = refl

-- and runs on over bytes that are no line feeds
pub comment-runs : (n : ℕ) (b : List ℕ) (k : ℕ) → k + n ≤ length b → ((i : ℕ) → k ≤ i → i < k + n → is_line_feed (get_or b i 0) ≡ false) → is_comment_open b k ≡ true → is_comment_open b (k + n) ≡ true
comment-runs zero b k inside none here = rw add-zero here
comment-runs (suc n) b k inside none here =
    let before : is_comment_open b (k + n) ≡ true = comment-runs n b k (omega arith) (λ i l u. none i l (omega arith)) here in
    rw add-suc (is_comment_open-more b (k + n) (omega arith) (none (k + n) (omega arith) (omega arith))
    ∙ ap (λ v. v || is_semicolon (get_or b (k + n) 0)) before)

-- what a byte outside comments is to the text
module _ (b : List ℕ) (k : ℕ) (free : is_in_comment b k ≡ false) where
  pub opens_at-free : opens_at b k ≡ (get_or b k 0 == 40)
  unfolding opens_at
  opens_at-free = ap (λ v. not v && (get_or b k 0 == 40)) free

  pub closes_at-free : closes_at b k ≡ (get_or b k 0 == 41)
  unfolding closes_at
  closes_at-free = ap (λ v. not v && (get_or b k 0 == 41)) free

  pub is_in_word-free : is_in_word b k ≡ is_word_byte (get_or b k 0)
  unfolding is_in_word
  is_in_word-free = ap (λ v. not v && is_word_byte (get_or b k 0)) free

  pub is_blank-free : is_blank b k ≡ is_space (get_or b k 0)
  unfolding is_blank
  is_blank-free = ap (λ v. v || is_space (get_or b k 0)) free

-- a byte inside a comment is blank, and nothing else
module _ (b : List ℕ) (k : ℕ) (within : is_in_comment b k ≡ true) where
  pub opens_at-comment : opens_at b k ≡ false
  unfolding opens_at
  opens_at-comment = ap (λ v. not v && (get_or b k 0 == 40)) within

  pub closes_at-comment : closes_at b k ≡ false
  unfolding closes_at
  closes_at-comment = ap (λ v. not v && (get_or b k 0 == 41)) within

  pub is_in_word-comment : is_in_word b k ≡ false
  unfolding is_in_word
  is_in_word-comment = ap (λ v. not v && is_word_byte (get_or b k 0)) within

  pub is_blank-comment : is_blank b k ≡ true
  unfolding is_blank
  is_blank-comment = ap (λ v. v || is_space (get_or b k 0)) within

-- the tests of a byte rule one another out
pub space-rules_out : (c : ℕ) → is_space c ≡ true → ((c == 40) ≡ false) × ((c == 41) ≡ false) × (is_word_byte c ≡ false) × (is_semicolon c ≡ false)
space-rules_out c h = (grind (arith, nat_tests), grind (arith, nat_tests), grind (arith, nat_tests), grind (arith, nat_tests))

pub word-rules_out : (c : ℕ) → is_word_byte c ≡ true → ((c == 40) ≡ false) × ((c == 41) ≡ false) × (is_semicolon c ≡ false) × (is_line_feed c ≡ false)
word-rules_out c h = (grind (arith, nat_tests), grind (arith, nat_tests), grind (arith, nat_tests), grind (arith, nat_tests))

pub open-rules_out : (c : ℕ) → (c == 40) ≡ true → ((c == 41) ≡ false) × (is_word_byte c ≡ false) × (is_semicolon c ≡ false) × (is_line_feed c ≡ false) × (is_space c ≡ false)
open-rules_out c h = (grind (arith, nat_tests), grind (arith, nat_tests), grind (arith, nat_tests), grind (arith, nat_tests), grind (arith, nat_tests))

pub close-rules_out : (c : ℕ) → (c == 41) ≡ true → ((c == 40) ≡ false) × (is_word_byte c ≡ false) × (is_semicolon c ≡ false) × (is_line_feed c ≡ false) × (is_space c ≡ false)
close-rules_out c h = (grind (arith, nat_tests), grind (arith, nat_tests), grind (arith, nat_tests), grind (arith, nat_tests), grind (arith, nat_tests))

-- blank offsets, parentheses and offsets of words are true_and_false
pub blank-no_open : (b : List ℕ) (k : ℕ) → is_blank b k ≡ true → opens_at b k ≡ false
blank-no_open b k h = by_comment (is_in_comment b k) refl
  where
    by_comment : (v : Bool) → is_in_comment b k ≡ v → opens_at b k ≡ false
    by_comment true w = opens_at-comment b k w
    by_comment false w = opens_at-free b k w ∙ (space-rules_out (get_or b k 0) (sym (is_blank-free b k w) ∙ h)).0

pub blank-no_close : (b : List ℕ) (k : ℕ) → is_blank b k ≡ true → closes_at b k ≡ false
blank-no_close b k h = by_comment (is_in_comment b k) refl
  where
    by_comment : (v : Bool) → is_in_comment b k ≡ v → closes_at b k ≡ false
    by_comment true w = closes_at-comment b k w
    by_comment false w = closes_at-free b k w ∙ (space-rules_out (get_or b k 0) (sym (is_blank-free b k w) ∙ h)).1

pub blank-no_word : (b : List ℕ) (k : ℕ) → is_blank b k ≡ true → is_in_word b k ≡ false
blank-no_word b k h = by_comment (is_in_comment b k) refl
  where
    by_comment : (v : Bool) → is_in_comment b k ≡ v → is_in_word b k ≡ false
    by_comment true w = is_in_word-comment b k w
    by_comment false w = is_in_word-free b k w ∙ (space-rules_out (get_or b k 0) (sym (is_blank-free b k w) ∙ h)).2

pub word-no_open : (b : List ℕ) (k : ℕ) → is_in_word b k ≡ true → opens_at b k ≡ false
word-no_open b k h = by_comment (is_in_comment b k) refl
  where
    by_comment : (v : Bool) → is_in_comment b k ≡ v → opens_at b k ≡ false
    by_comment true w = opens_at-comment b k w
    by_comment false w = opens_at-free b k w ∙ (word-rules_out (get_or b k 0) (sym (is_in_word-free b k w) ∙ h)).0

pub word-no_close : (b : List ℕ) (k : ℕ) → is_in_word b k ≡ true → closes_at b k ≡ false
word-no_close b k h = by_comment (is_in_comment b k) refl
  where
    by_comment : (v : Bool) → is_in_comment b k ≡ v → closes_at b k ≡ false
    by_comment true w = closes_at-comment b k w
    by_comment false w = closes_at-free b k w ∙ (word-rules_out (get_or b k 0) (sym (is_in_word-free b k w) ∙ h)).1

pub open-no_close : (b : List ℕ) (k : ℕ) → opens_at b k ≡ true → closes_at b k ≡ false
open-no_close b k h = by_comment (is_in_comment b k) refl
  where
    by_comment : (v : Bool) → is_in_comment b k ≡ v → closes_at b k ≡ false
    by_comment true w = closes_at-comment b k w
    by_comment false w = closes_at-free b k w ∙ (open-rules_out (get_or b k 0) (sym (opens_at-free b k w) ∙ h)).0

-- so many parentheses are open before offset k, and none was closed too often
abbrev pub HasOpen : List ℕ → ℕ → ℕ → Type 0
HasOpen b k d = count_below (opens_at b) k ≡ count_below (closes_at b) k + d

pub HasOpen-depth : (b : List ℕ) (k d : ℕ) → HasOpen b k d → depth_at b k ≡ d
unfolding depth_at
HasOpen-depth b k d h = omega arith

pub count_below-yes : (p : ℕ → Bool) (k : ℕ) → p k ≡ true → count_below p (suc k) ≡ count_below p k + 1
count_below-yes p k h = rw h refl

pub count_below-no : (p : ℕ → Bool) (k : ℕ) → p k ≡ false → count_below p (suc k) ≡ count_below p k
count_below-no p k h = rw h (omega arith)

pub HasOpen-opens : (b : List ℕ) (k d : ℕ) → opens_at b k ≡ true → HasOpen b k d → HasOpen b (suc k) (suc d)
HasOpen-opens b k d h here =
    omega (arith, count_below-yes (opens_at b) k h, count_below-no (closes_at b) k (open-no_close b k h), here)

pub HasOpen-closes : (b : List ℕ) (k d : ℕ) → closes_at b k ≡ true → opens_at b k ≡ false → HasOpen b k (suc d) → HasOpen b (suc k) d
HasOpen-closes b k d h unopened here =
    omega (arith, count_below-yes (closes_at b) k h, count_below-no (opens_at b) k unopened, here)

pub HasOpen-stays : (b : List ℕ) (k d : ℕ) → opens_at b k ≡ false → closes_at b k ≡ false → HasOpen b k d → HasOpen b (suc k) d
HasOpen-stays b k d unopened unclosed here =
    omega (arith, count_below-no (opens_at b) k unopened, count_below-no (closes_at b) k unclosed, here)

depth_at-next : (b : List ℕ) (k : ℕ) → opens_at b k ≡ false → closes_at b k ≡ false → depth_at b (suc k) ≡ depth_at b k
unfolding depth_at
depth_at-next b k unopened unclosed = omega (arith, count_below-no (opens_at b) k unopened, count_below-no (closes_at b) k unclosed)

-- the depth is the same over n offsets without parentheses
pub depth_at-same : (n : ℕ) (b : List ℕ) (k : ℕ) → ((i : ℕ) → k ≤ i → i < k + n → (opens_at b i ≡ false) × (closes_at b i ≡ false)) → depth_at b (k + n) ≡ depth_at b k
depth_at-same zero b k none = rw add-zero refl
depth_at-same (suc n) b k none =
    let here = none (k + n) (omega arith) (omega arith) in
    rw add-suc (depth_at-next b (k + n) here.0 here.1 ∙ depth_at-same n b k (λ i l u. none i l (omega arith)))

pub HasOpen-run : (n : ℕ) (b : List ℕ) (k d : ℕ) → ((i : ℕ) → k ≤ i → i < k + n → (opens_at b i ≡ false) × (closes_at b i ≡ false)) → HasOpen b k d → HasOpen b (k + n) d
HasOpen-run zero b k d none here = rw add-zero here
HasOpen-run (suc n) b k d none here =
    let at = none (k + n) (omega arith) (omega arith) in
    rw add-suc (HasOpen-stays b (k + n) d at.0 at.1 (HasOpen-run n b k d (λ i l u. none i l (omega arith)) here))

-- the same up to a later offset
pub depth_at-upto : (b : List ℕ) (k e : ℕ) → k ≤ e → ((i : ℕ) → k ≤ i → i < e → (opens_at b i ≡ false) × (closes_at b i ≡ false)) → depth_at b e ≡ depth_at b k
depth_at-upto b k e le none =
    let far : k + (e - k) ≡ e = omega arith in
    subst (λ x. depth_at b x ≡ depth_at b k) far (depth_at-same (e - k) b k (λ i l u. none i l (omega arith)))

pub HasOpen-upto : (b : List ℕ) (k e d : ℕ) → k ≤ e → ((i : ℕ) → k ≤ i → i < e → (opens_at b i ≡ false) × (closes_at b i ≡ false)) → HasOpen b k d → HasOpen b e d
HasOpen-upto b k e d le none here =
    let far : k + (e - k) ≡ e = omega arith in
    subst (λ x. HasOpen b x d) far (HasOpen-run (e - k) b k d (λ i l u. none i l (omega arith)) here)

-- each byte from a `;` up to the end of its line is in a comment
pub comment-within : (b : List ℕ) (k e i : ℕ) → k ≤ i → i < e → e ≤ length b → is_semicolon (get_or b k 0) ≡ true → ((j : ℕ) → k ≤ j → j < e → is_line_feed (get_or b j 0) ≡ false) → is_in_comment b i ≡ true
comment-within b k e i l u inside h none =
    let far : suc k + (i - k) ≡ suc i = omega arith in
    let runs = comment-runs (i - k) b (suc k) (omega arith) (λ j lo hi. none j (omega arith) (omega arith)) (comment-begins b k (omega arith) h) in
    is_in_comment_is b i ∙ subst (λ x. is_comment_open b x ≡ true) far runs

-- bytes of words open no comment
words-run : (n : ℕ) (b : List ℕ) (k : ℕ) → k + n ≤ length b → is_comment_open b k ≡ false → ((i : ℕ) → k ≤ i → i < k + n → is_word_byte (get_or b i 0) ≡ true) → is_comment_open b (k + n) ≡ false
words-run zero b k inside free all = rw add-zero free
words-run (suc n) b k inside free all =
    let before : is_comment_open b (k + n) ≡ false = words-run n b k (omega arith) free (λ i l u. all i l (omega arith)) in
    let here = word-rules_out (get_or b (k + n) 0) (all (k + n) (omega arith) (omega arith)) in
    rw add-suc (is_comment_open-more b (k + n) (omega arith) here.3
    ∙ (ap (λ v. v || is_semicolon (get_or b (k + n) 0)) before ∙ here.2))

pub words-upto : (b : List ℕ) (k e : ℕ) → k ≤ e → e ≤ length b → is_comment_open b k ≡ false → ((i : ℕ) → k ≤ i → i < e → is_word_byte (get_or b i 0) ≡ true) → is_comment_open b e ≡ false
words-upto b k e le inside free all =
    let far : k + (e - k) ≡ e = omega arith in
    subst (λ x. is_comment_open b x ≡ false) far (words-run (e - k) b k (omega arith) free (λ i l u. all i l (omega arith)))

-- so each of them belongs to a word
pub words-within : (b : List ℕ) (k e i : ℕ) → k ≤ i → i < e → e ≤ length b → is_comment_open b k ≡ false → ((j : ℕ) → k ≤ j → j < e → is_word_byte (get_or b j 0) ≡ true) → is_in_word b i ≡ true
words-within b k e i l u inside free all =
    let after = words-upto b k (suc i) (omega arith) (omega arith) free (λ j lo hi. all j lo (omega arith)) in
    is_in_word-free b i (is_in_comment_is b i ∙ after) ∙ all i l u

-- a byte of no word belongs to none
pub is_in_word-other : (b : List ℕ) (k : ℕ) → is_word_byte (get_or b k 0) ≡ false → is_in_word b k ≡ false
is_in_word-other b k h = by_comment (is_in_comment b k) refl
  where
    by_comment : (v : Bool) → is_in_comment b k ≡ v → is_in_word b k ≡ false
    by_comment true w = is_in_word-comment b k w
    by_comment false w = is_in_word-free b k w ∙ h

pub close-no_open : (b : List ℕ) (k : ℕ) → closes_at b k ≡ true → opens_at b k ≡ false
close-no_open b k h = by_comment (is_in_comment b k) refl
  where
    by_comment : (v : Bool) → is_in_comment b k ≡ v → opens_at b k ≡ false
    by_comment true w = opens_at-comment b k w
    by_comment false w = opens_at-free b k w ∙ (close-rules_out (get_or b k 0) (sym (closes_at-free b k w) ∙ h)).0
