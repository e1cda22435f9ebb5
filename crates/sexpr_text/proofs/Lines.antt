-- What one more byte changes on its line.
use Rattle.std.proofs.Common.{◌≡◌, ℕ, zero, suc, ◌+◌, ◌-◌, ◌<◌, ◌≤◌, Bool, true, false, not, ◌||◌, List, [], ◌∷◌, ◌++◌, length, get_or, take, drop, refl, ap, ◌∙◌, arith, count_by, length-append, add-one, add-zero, add-suc}
use Rattle.std.specs.List.{suffix_len, list_any}
use Rattle.std.proofs.Math.ListN.{drop_of_length-le}
use Rattle.std.proofs.Math.Seq.{take-suc}
use Rattle.std.proofs.lemmas.List.{drop-append-le, length-take-le}
use Rattle.std.proofs.lemmas.List.Sums.{suffix_len-take_no, suffix_len-take_yes, suffix_len-le-length, count_by_more_yes, count_by_more_no, count_by-le-length}
use Rattle.std.proofs.lemmas.List.Folds.{list_any-append}
use Rattle.sexpr_text.specs.declared.forms.Place.{Place}
use Rattle.sexpr_text.specs.Lexis.{is_line_feed, is_semicolon, line_before, place_at, is_in_comment}

-- a line feed begins a line
pub line_before-feed : (b : List ℕ) (k : ℕ) → k < length b → is_line_feed (get_or b k 0) ≡ true → line_before b (suc k) ≡ []
unfolding line_before
line_before-feed b k inside h =
    let q : ℕ → Bool = λ x. not (is_line_feed x) in
    let ys = take (suc k) b in
    let last : suc k - 1 ≡ k = omega arith in
    let stop : q (get_or b (suc k - 1) 0) ≡ false = rw last (ap not h) in
    let none : suffix_len q ys ≡ 0 = suffix_len-take_no q b (suc k) 0 (omega arith) (omega arith) stop in
    drop_of_length-le ys (omega (arith, none))

-- another byte goes on with it
pub line_before-more : (b : List ℕ) (k : ℕ) → k < length b → is_line_feed (get_or b k 0) ≡ false → line_before b (suc k) ≡ line_before b k ++ get_or b k 0 ∷ []
unfolding line_before
line_before-more b k inside h =
    let q : ℕ → Bool = λ x. not (is_line_feed x) in
    let xs = take k b in
    let ys = take (suc k) b in
    let last : suc k - 1 ≡ k = omega arith in
    let goes : q (get_or b (suc k - 1) 0) ≡ true = rw last (ap not h) in
    let more : suffix_len q ys ≡ 1 + suffix_len q (take (suc k - 1) b) = suffix_len-take_yes q b (suc k) 0 (omega arith) (omega arith) goes in
    let more' : suffix_len q ys ≡ 1 + suffix_len q xs = more ∙ ap (λ n. 1 + suffix_len q (take n b)) last in
    let split : ys ≡ xs ++ get_or b k 0 ∷ [] = take-suc b k 0 inside in
    let n = length xs - suffix_len q xs in
    let le : n ≤ length xs = omega arith in
    let same : length ys - suffix_len q ys ≡ n =
    omega (arith, more', length-take-le (suc k) b (omega arith), length-take-le k b (omega arith), suffix_len-le-length q xs) in
    ap (λ i. drop i ys) same ∙ (ap (λ zs. drop n zs) split ∙ drop-append-le n xs (get_or b k 0 ∷ []) le)

or_false : (x : Bool) → (x || false) ≡ x
or_false true = refl
or_false false = refl

-- whether a `;` stands on the line before offset k
unfoldable pub is_comment_open : List ℕ → ℕ → Bool
is_comment_open b k = list_any is_semicolon (line_before b k)

pub is_in_comment_is : (b : List ℕ) (k : ℕ) → is_in_comment b k ≡ is_comment_open b (suc k)
unfolding is_in_comment is_comment_open
is_in_comment_is b k = refl

pub is_comment_open-start : (b : List ℕ) → is_comment_open b 0 ≡ false
unfolding is_comment_open line_before
is_comment_open-start b = refl

pub is_comment_open-feed : (b : List ℕ) (k : ℕ) → k < length b → is_line_feed (get_or b k 0) ≡ true → is_comment_open b (suc k) ≡ false
unfolding is_comment_open
is_comment_open-feed b k inside h = ap (list_any is_semicolon) (line_before-feed b k inside h)

pub is_comment_open-more : (b : List ℕ) (k : ℕ) → k < length b → is_line_feed (get_or b k 0) ≡ false → is_comment_open b (suc k) ≡ (is_comment_open b k || is_semicolon (get_or b k 0))
unfolding is_comment_open
is_comment_open-more b k inside h =
    ap (list_any is_semicolon) (line_before-more b k inside h)
    ∙ (list_any-append is_semicolon (line_before b k) (get_or b k 0 ∷ [])
    ∙ ap (λ v. list_any is_semicolon (line_before b k) || v) (or_false (is_semicolon (get_or b k 0))))

-- what the reader keeps of the place: the line of offset k, and the offset where that line starts
pub record IsAt (b : List ℕ) (k line start : ℕ) : Type 0 where
  pub line_is : line ≡ 1 + count_by is_line_feed (take k b)
  pub start_is : start + length (line_before b k) ≡ k

pub IsAt-start : (b : List ℕ) → IsAt b 0 1 0
unfolding line_before
IsAt-start b = record { line_is = refl; start_is = refl }

pub IsAt-feed : (b : List ℕ) (k line start : ℕ) → k < length b → is_line_feed (get_or b k 0) ≡ true → IsAt b k line start → IsAt b (suc k) (line + 1) (suc k)
IsAt-feed b k line start inside h here =
    let one : count_by is_line_feed (take (k + 1) b) ≡ count_by is_line_feed (take k b) + 1 = count_by_more_yes is_line_feed b k 0 inside h in
    let one' : count_by is_line_feed (take (suc k) b) ≡ count_by is_line_feed (take k b) + 1 = rw add-one at one in
    let empty : length (line_before b (suc k)) ≡ 0 = ap length (line_before-feed b k inside h) in
    record { line_is = omega (arith, one', here.line_is); start_is = omega (arith, empty) }

pub IsAt-more : (b : List ℕ) (k line start : ℕ) → k < length b → is_line_feed (get_or b k 0) ≡ false → IsAt b k line start → IsAt b (suc k) line start
IsAt-more b k line start inside h here =
    let none : count_by is_line_feed (take (k + 1) b) ≡ count_by is_line_feed (take k b) = count_by_more_no is_line_feed b k 0 inside h in
    let none' : count_by is_line_feed (take (suc k) b) ≡ count_by is_line_feed (take k b) = rw add-one at none in
    let grown : length (line_before b (suc k)) ≡ length (line_before b k) + 1 =
    ap length (line_before-more b k inside h) ∙ length-append (line_before b k) (get_or b k 0 ∷ []) in
    record { line_is = omega (arith, none', here.line_is); start_is = omega (arith, grown, here.start_is) }

-- the same over n bytes that are no line feeds
pub IsAt-run : (n : ℕ) (b : List ℕ) (k line start : ℕ) → k + n ≤ length b → ((i : ℕ) → k ≤ i → i < k + n → is_line_feed (get_or b i 0) ≡ false) → IsAt b k line start → IsAt b (k + n) line start
IsAt-run zero b k line start inside none here = rw add-zero here
IsAt-run (suc n) b k line start inside none here =
    let before : IsAt b (k + n) line start = IsAt-run n b k line start (omega arith) (λ i l u. none i l (omega arith)) here in
    rw add-suc (IsAt-more b (k + n) line start (omega arith) (none (k + n) (omega arith) (omega arith)) before)

pub IsAt-below : (b : List ℕ) (k line start : ℕ) → k ≤ length b → IsAt b k line start → (line ≤ k + 1) × (start ≤ k)
IsAt-below b k line start inside here =
    (omega (arith, here.line_is, count_by-le-length is_line_feed (take k b), length-take-le k b inside), omega (arith, here.start_is))

pub place_from : (b : List ℕ) (k line start : ℕ) → IsAt b k line start → record { line = line; column = k - start + 1 } ≡ place_at b k
unfolding place_at
place_from b k line start here =
    let column : k - start + 1 ≡ 1 + length (line_before b k) = omega (arith, here.start_is) in
    let of_line : ℕ → Place = λ l. record { line = l; column = k - start + 1 } in
    let of_column : ℕ → Place = λ c. record { line = 1 + count_by is_line_feed (take k b); column = c } in
    ap of_line here.line_is ∙ ap of_column column
