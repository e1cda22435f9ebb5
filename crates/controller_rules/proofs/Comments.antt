-- Comments are passed over: the text of a controller is read as that of its plan.
use Rattle.std.proofs.Common.{◌≡◌, ◌+◌, ◌-◌, ◌<◌, ◌≤◌, ◌^◌, ◌++◌, ℕ, suc, Bool, true, false, not, eqb, List, [], ◌∷◌, Option, Some, None, length, get_or, drop, refl, sym, ap, subst, ◌∙◌, arith, append_assoc, codes, length-append, length-drop}
use Rattle.std.specs.Prelude.{decimal, if◌then◌else◌, slice_get}
use Rattle.std.specs.List.{All, list_all}
use Rattle.std.specs.Option.{option_map_or}
use Rattle.std.specs.Str.Parse.{AllDigits}
use Rattle.std.proofs.Math.Seq.{drop-append_seam}
use Rattle.std.proofs.lemmas.Bool.{and_parts, not-true}
use Rattle.std.proofs.lemmas.Bool.Decides.{nat_tests}
use Rattle.std.proofs.lemmas.Fmt.{decimal_is_IsNumeral}
use Rattle.std.proofs.lemmas.List.{drop-drop, get_or-drop, get_or_default}
use Rattle.std.proofs.lemmas.List.Elements.{All-append, All-cons, All-drop, All-head, All-nil, All-tail}
use Rattle.std.proofs.lemmas.List.Prefix.{at_reads}
use Rattle.std.proofs.lemmas.Option.{get_or_from_slice_get, slice_get_within}
use Rattle.std.proofs.lemmas.Str.Parse.{digit_at}
use Rattle.sexpr_text.proofs.Steps.{read-comment}
use Rattle.sexpr_text.specs.Lexis.{is_line_feed, is_semicolon}
use Rattle.sexpr_text.specs.Pending.{Pending}
use Rattle.sexpr_text.specs.Rows.{Row, nil, group}
use Rattle.plan_rules.proofs.Pieces.{IsAt, Reads, Stops, reads_none, reads_space, reads_then}
use Rattle.plan_rules.proofs.Printed.{groups}
use Rattle.controller_rules.specs.Texts.{comment_text, latest, note_before, noted_text, remark}

-- no byte is a line feed
abbrev IsOneLine : List ℕ → Type 0
IsOneLine text = All (λ c. is_line_feed c ≡ false) text

-- a semicolon with what stands after it on its line
at_comment : (b x rest : List ℕ) (ps : List Pending) (row : Row) → IsOneLine (59 ∷ x) → IsAt b ((59 ∷ x) ++ (10 ∷ rest)) ps row → IsAt b (10 ∷ rest) ps row
at_comment b x rest ps row line at =
    let k = at.offset in
    let w = 59 ∷ x in
    let n = length w in
    let long : length b - k ≡ n + length (10 ∷ rest) = sym (length-drop k b) ∙ (ap length at.left_is ∙ length-append w (10 ∷ rest)) in
    let more : length (10 ∷ rest) ≡ suc (length rest) = refl in
    let wide : n ≡ suc (length x) = refl in
    let read : (i : ℕ) → k ≤ i → i < k + n → get_or b i 0 ≡ get_or w (i - k) 0 = λ i l u.
    let there : k + (i - k) ≡ i = omega arith in
    subst (λ y. get_or b y 0 ≡ get_or w (i - k) 0) there (at_reads 0 b w k (10 ∷ rest) at.left_is (i - k) (omega arith)) in
    let left : drop (k + n) b ≡ 10 ∷ rest = sym (drop-drop n k b) ∙ (ap (drop n) at.left_is ∙ drop-append_seam w (10 ∷ rest)) in
    let after : get_or b (k + n) 0 ≡ 10 =
    ap (λ y. get_or b y 0) (omega arith) ∙ (sym (get_or-drop (k + n) b 0 0) ∙ ap (λ xs. get_or xs 0 0) left) in
    let zero_is : k - k ≡ 0 = omega arith in
    let first : get_or b k 0 ≡ 59 = read k (omega arith) (omega arith) ∙ ap (λ j. get_or w j 0) zero_is in
    record {
      offset = k + n;
      trees = at.trees;
      left_is = left;
      reading = read-comment b k (k + n) ps at.trees (omega arith) (ap is_semicolon first) (omega arith) (omega arith)
          (λ i l u. ap is_line_feed (read i l u) ∙ line (i - k) 0 (omega arith)) (λ _. ap is_line_feed after) at.reading;
      row_is = at.row_is;
    }

reads_comment : (x : List ℕ) (d : ℕ) → IsOneLine x → Reads ((59 ∷ x) ++ 10 ∷ []) d nil
reads_comment x d line b rest ps row room stops at =
    let here : IsAt b ((59 ∷ x) ++ (10 ∷ rest)) ps row = subst (λ l. IsAt b l ps row) (append_assoc (59 ∷ x) (10 ∷ []) rest) at in
    let feed : Reads (10 ∷ []) d nil = reads_space 10 [] d nil refl (reads_none d) in
    feed b rest ps row room stops (at_comment b x rest ps row (All-cons (λ c. is_line_feed c ≡ false) 59 x refl line) here)

-- no digit is a line feed
digits_line : (ds : List ℕ) → AllDigits 10 ds → IsOneLine ds
digits_line ds all i d inside =
    let at = digit_at ds i all inside in
    subst (λ c. is_line_feed c ≡ false) (get_or_default ds i 0 d inside) (apart (get_or ds i 0) at.0)
  where
    apart : (c : ℕ) → 48 ≤ c → is_line_feed c ≡ false
    apart c low = grind (arith, nat_tests)

fixed_line : (text : List ℕ) → list_all (λ c. not (is_line_feed c)) text ≡ true → IsOneLine text
fixed_line [] h = All-nil (λ c. is_line_feed c ≡ false)
fixed_line (c ∷ text) h =
    let parts = and_parts (not (is_line_feed c)) (list_all (λ b. not (is_line_feed b)) text) h in
    All-cons (λ b. is_line_feed b ≡ false) c text (not-true (is_line_feed c) parts.0) (fixed_line text parts.1)

remark_line : (n : ℕ) → n < 2 ^ 64 → IsOneLine (remark n)
remark_line n small = go (eqb n 0) where
  go : (b : Bool) → IsOneLine (if b then codes " at the beginning" else codes " steps before: " ++ decimal n)
  go true = fixed_line (codes " at the beginning") refl
  go false = All-append (λ c. is_line_feed c ≡ false) (codes " steps before: ") (decimal n) (fixed_line (codes " steps before: ") refl) (digits_line (decimal n) (decimal_is_IsNumeral n small).0.1)

reads_remark : (n d : ℕ) → n < 2 ^ 64 → Reads (comment_text n) d nil
reads_remark n d small =
    reads_space 32 (32 ∷ ((59 ∷ remark n) ++ 10 ∷ [])) d nil refl (reads_space 32 ((59 ∷ remark n) ++ 10 ∷ []) d nil refl (reads_comment (remark n) d (remark_line n small)))

-- the note before a rule: nothing, or a comment
reads_note : (b : Option ℕ) (o : Option ℕ) (d : ℕ) → ((n : ℕ) → o ≡ Some n → n < 2 ^ 64) → Reads (note_before b o) d nil
reads_note b None d small = reads_none d
reads_note b (Some n) d small = go (option_map_or (λ m. eqb m n) b false) where
  go : (same : Bool) → Reads (if same then [] else comment_text n) d nil
  go true = reads_none d
  go false = reads_remark n d (small n refl)

note_stops : (b : Option ℕ) (o : Option ℕ) (rest : List ℕ) → Stops rest → Stops (note_before b o ++ rest)
note_stops b None rest stops = stops
note_stops b (Some n) rest stops = go (option_map_or (λ m. eqb m n) b false) where
  go : (same : Bool) → Stops ((if same then [] else comment_text n) ++ rest)
  go true = stops
  go false = refl

small_first : (ns : List ℕ) → All (λ n. n < 2 ^ 64) ns → (n : ℕ) → slice_get ns 0 ≡ Some n → n < 2 ^ 64
small_first ns all n is =
    subst (λ m. m < 2 ^ 64) (get_or_from_slice_get ns 0 n n is) (all 0 n (slice_get_within ns 0 n is))

-- rules, each with the note before it
pub reads_noted : {X : Type 0} (P : X → Type 0) (f : X → List ℕ) (g : X → Row) (d : ℕ) (b : Option ℕ) (xs : List X) (ns : List ℕ) → ((x : X) → P x → Reads (f x) d (group (g x) nil))
    → ((x : X) (rest : List ℕ) → Stops (f x ++ rest)) → All P xs → All (λ n. n < 2 ^ 64) ns → Reads (noted_text f b xs ns) d (groups g xs)
reads_noted {X = X} P f g d b [] ns each apart all small = reads_none d
reads_noted {X = X} P f g d b (x ∷ xs) ns each apart all small =
    let o = slice_get ns 0 in
    let note = note_before b o in
    reads_then (note ++ f x) (noted_text f (latest b o) xs (drop 1 ns)) d (group (g x) nil) (groups g xs) (later (latest b o) xs (drop 1 ns))
    (reads_then note (f x) d nil (group (g x) nil) (λ rest stops. apart x rest) (reads_note b o d (small_first ns small)) (each x (All-head P x xs all)))
    (reads_noted P f g d (latest b o) xs (drop 1 ns) each apart (All-tail P x xs all) (All-drop (λ n. n < 2 ^ 64) 1 ns small))
  where
    later : (c : Option ℕ) (ys : List X) (ms : List ℕ) (rest : List ℕ) → Stops rest → Stops (noted_text f c ys ms ++ rest)
    later c [] ms rest stops = stops
    later c (y ∷ ys) ms rest stops =
        let note = note_before c (slice_get ms 0) in
        let more = noted_text f (latest c (slice_get ms 0)) ys (drop 1 ms) in
        let shape : (note ++ f y ++ more) ++ rest ≡ note ++ (f y ++ (more ++ rest)) = simp append_assoc in
        subst Stops (sym shape) (note_stops c (slice_get ms 0) (f y ++ (more ++ rest)) (apart y (more ++ rest)))
