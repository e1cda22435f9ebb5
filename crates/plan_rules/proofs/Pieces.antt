-- A text is read piece by piece, from what is left of it.
use Rattle.std.proofs.Common.{◌≡◌, ◌≢◌, ℕ, suc, ◌+◌, ◌-◌, ◌<◌, ◌≤◌, true, false, List, [], ◌∷◌, ◌++◌, map, length, get_or, take, drop, nat_eq, refl, ap, sym, subst, ◌∙◌, arith, append_assoc, length-append, length-drop}
use Rattle.std.specs.List.{All, slice_range}
use Rattle.std.specs.Str.{str_to_ascii_lowercase}
use Rattle.std.specs.Char.{to_ascii_lowercase}
use Rattle.std.proofs.Math.Seq.{drop-cons, drop-append_seam, take-append_seam}
use Rattle.std.proofs.lemmas.Bool.Decides.{nat_tests}
use Rattle.std.proofs.lemmas.List.{get_or-drop, drop-drop, append-nil}
use Rattle.std.proofs.lemmas.List.Elements.{All-head, All-tail}
use Rattle.std.proofs.lemmas.List.Prefix.{at_reads}
use Rattle.sexpr_text.specs.declared.forms.Span.{Span}
use Rattle.sexpr_text.specs.Faults.{most_open}
use Rattle.sexpr_text.specs.Forest.{Forest, nothing, word as placed_word, group as placed_group, join}
use Rattle.sexpr_text.specs.Formed.{is_lower_word_byte}
use Rattle.sexpr_text.specs.Lexis.{is_space, is_word_byte, place_at}
use Rattle.sexpr_text.specs.Pending.{Pending}
use Rattle.sexpr_text.specs.Spelling.{SpellsTrees}
use Rattle.sexpr_text.proofs.Ends.{found-spelling}
use Rattle.sexpr_text.proofs.Reading.{IsReading}
use Rattle.sexpr_text.proofs.Steps.{read-start, read-space, read-word, read-open, read-close}
use Rattle.task_core.specs.Names.{IsWord}
use Rattle.sexpr_text.specs.Rows.{Row, nil, word, group, row_of}
use Rattle.plan_rules.specs.Texts.{in_parentheses}

-- one row after another
abbrev pub before : Row → Row → Row
before nil others = others
before (word w rest) others = word w (before rest others)
before (group parts rest) others = group parts (before rest others)

before-nil : (row : Row) → before row nil ≡ row
before-nil nil = refl
before-nil (word w rest) = ap (word w) (before-nil rest)
before-nil (group parts rest) = ap (group parts) (before-nil rest)

before-assoc : (p q r : Row) → before (before p q) r ≡ before p (before q r)
before-assoc nil q r = refl
before-assoc (word w rest) q r = ap (word w) (before-assoc rest q r)
before-assoc (group parts rest) q r = ap (group parts) (before-assoc rest q r)

row_of-join : (s t : Forest) → row_of (join s t) ≡ before (row_of s) (row_of t)
row_of-join nothing t = refl
row_of-join (placed_word span text rest) t = ap (word text) (row_of-join rest t)
row_of-join (placed_group span parts rest) t = ap (group (row_of parts)) (row_of-join rest t)

-- the text b is read up to what is left of it; so many parentheses are open, and this row stands
-- since the innermost one
pub record IsAt (b left : List ℕ) (ps : List Pending) (row : Row) : Type 0 where
  pub offset : ℕ
  pub trees : Forest
  pub left_is : drop offset b ≡ left
  pub reading : IsReading b offset ps trees
  pub row_is : row_of trees ≡ row

-- no word goes on with what is left
abbrev pub Stops : List ℕ → Type 0
Stops left = is_word_byte (get_or left 0 0) ≡ false

next_byte : (b : List ℕ) (k c : ℕ) (rest : List ℕ) → drop k b ≡ c ∷ rest → (k < length b) × (get_or b k 0 ≡ c) × (drop (suc k) b ≡ rest)
next_byte b k c rest e =
    let long : length b - k ≡ suc (length rest) = sym (length-drop k b) ∙ ap length e in
    let inside : k < length b = omega arith in
    let split : get_or b k 0 ∷ drop (suc k) b ≡ c ∷ rest = sym (drop-cons b k 0 inside) ∙ e in
    (inside, cc, cc)

at_space : (b rest : List ℕ) (c : ℕ) (ps : List Pending) (row : Row) → is_space c ≡ true → IsAt b (c ∷ rest) ps row → IsAt b rest ps row
at_space b rest c ps row h at =
    let next = next_byte b at.offset c rest at.left_is in
    record {
      offset = suc at.offset;
      trees = at.trees;
      left_is = next.2;
      reading = read-space b at.offset ps at.trees next.0 (ap is_space next.1 ∙ h) at.reading;
      row_is = at.row_is;
    }

lower_is_word : (c : ℕ) → is_lower_word_byte c ≡ true → is_word_byte c ≡ true
lower_is_word c h = grind (arith, nat_tests)

lower_stays : (c : ℕ) → is_lower_word_byte c ≡ true → to_ascii_lowercase c ≡ c
lower_stays c h = grind (arith, nat_tests)

lowercase_stays : (w : List ℕ) → All (λ c. is_lower_word_byte c ≡ true) w → str_to_ascii_lowercase w ≡ w
lowercase_stays [] all = refl
lowercase_stays (c ∷ w) all =
    let first : to_ascii_lowercase c ≡ c = lower_stays c (All-head (λ c. is_lower_word_byte c ≡ true) c w all) in
    let others : map to_ascii_lowercase w ≡ w = lowercase_stays w (All-tail (λ c. is_lower_word_byte c ≡ true) c w all) in
    cc

some_length : (w : List ℕ) → w ≢ [] → 0 < length w
some_length [] some = absurd (some refl)
some_length (c ∷ w) some = omega arith

at_word : (b w rest : List ℕ) (ps : List Pending) (row : Row) → IsWord w → Stops rest → IsAt b (w ++ rest) ps row → IsAt b rest ps (before row (word w nil))
at_word b w rest ps row is_word stops at =
    let k = at.offset in
    let n = length w in
    let some : 0 < n = some_length w is_word.some in
    let long : length b - k ≡ n + length rest = sym (length-drop k b) ∙ (ap length at.left_is ∙ length-append w rest) in
    let read : (i : ℕ) → k ≤ i → i < k + n → get_or b i 0 ≡ get_or w (i - k) 0 = λ i l u.
    let there : k + (i - k) ≡ i = omega arith in
    subst (λ x. get_or b x 0 ≡ get_or w (i - k) 0) there (at_reads 0 b w k rest at.left_is (i - k) (omega arith)) in
    let each : (i : ℕ) → k ≤ i → i < k + n → is_word_byte (get_or b i 0) ≡ true = λ i l u.
    ap is_word_byte (read i l u) ∙ lower_is_word (get_or w (i - k) 0) (is_word.bytes (i - k) 0 (omega arith)) in
    let left : drop (k + n) b ≡ rest = sym (drop-drop n k b) ∙ (ap (drop n) at.left_is ∙ drop-append_seam w rest) in
    let after : get_or b (k + n) 0 ≡ get_or rest 0 0 =
    ap (λ x. get_or b x 0) (omega arith) ∙ (sym (get_or-drop (k + n) b 0 0) ∙ ap (λ xs. get_or xs 0 0) left) in
    let wide : k + n - k ≡ n = omega arith in
    let cut : slice_range b k (k + n) ≡ w = ap (λ x. take x (drop k b)) wide ∙ (ap (take n) at.left_is ∙ take-append_seam w rest) in
    let span : Span = record { start = k; end = k + n; place = place_at b k } in
    record {
      offset = k + n;
      trees = join at.trees (placed_word span w nothing);
      left_is = left;
      reading = read-word b k (k + n) ps at.trees span w (omega arith) (each k (omega arith) (omega arith)) (omega arith) (omega arith) each
          (ap is_word_byte after ∙ stops) refl (sym (ap str_to_ascii_lowercase cut ∙ lowercase_stays w is_word.bytes)) at.reading;
      row_is = row_of-join at.trees (placed_word span w nothing) ∙ ap (λ r. before r (word w nil)) at.row_is;
    }

-- wherever this piece of a text stands, reading it adds these forms, in so many parentheses at most
abbrev pub Reads : List ℕ → ℕ → Row → Type 0
Reads piece depth parts =
    (b rest : List ℕ) (ps : List Pending) (row : Row) → length ps + depth ≤ most_open → Stops rest → IsAt b (piece ++ rest) ps row → IsAt b rest ps (before row parts)

pub reads_none : (d : ℕ) → Reads [] d nil
reads_none d b rest ps row room stops at = subst (IsAt b rest ps) (sym (before-nil row)) at

pub reads_space : (c : ℕ) (x : List ℕ) (d : ℕ) (p : Row) → is_space c ≡ true → Reads x d p → Reads (c ∷ x) d p
reads_space c x d p h reads b rest ps row room stops at = reads b rest ps row room stops (at_space b (x ++ rest) c ps row h at)

pub reads_word : (w : List ℕ) (d : ℕ) → IsWord w → Reads w d (word w nil)
reads_word w d is_word b rest ps row room stops at = at_word b w rest ps row is_word stops at

-- one piece, and then another that goes on with no word
pub reads_then : (x y : List ℕ) (d : ℕ) (p q : Row) → ((rest : List ℕ) → Stops rest → Stops (y ++ rest)) → Reads x d p → Reads y d q → Reads (x ++ y) d (before p q)
reads_then x y d p q apart first second b rest ps row room stops at =
    let here : IsAt b (x ++ (y ++ rest)) ps row = subst (λ l. IsAt b l ps row) (append_assoc x y rest) at in
    let middle : IsAt b (y ++ rest) ps (before row p) = first b (y ++ rest) ps row room (apart rest stops) here in
    subst (IsAt b rest ps) (before-assoc row p q) (second b rest ps (before row p) room stops middle)

length_more : (ps : List Pending) (p : Pending) → length (ps ++ p ∷ []) ≡ suc (length ps)
length_more ps p = length-append ps (p ∷ []) ∙ omega arith

group_row : (s t : Forest) (span : Span) (row p : Row) → row_of s ≡ row → row_of t ≡ p → row_of (join s (placed_group span t nothing)) ≡ before row (group p nil)
group_row s t span row p e f =
    row_of-join s (placed_group span t nothing) ∙ (ap (λ r. before r (group (row_of t) nil)) e ∙ ap (λ r. before row (group r nil)) f)

pub reads_group : (x : List ℕ) (d : ℕ) (p : Row) → Reads x d p → Reads (in_parentheses x) (suc d) (group p nil)
reads_group x d p reads b rest ps row room stops at =
    let k = at.offset in
    let next = next_byte b k 40 ((x ++ 41 ∷ []) ++ rest) at.left_is in
    let opened : Pending = record { start = k; place = place_at b k; before = at.trees } in
    let longer : length (ps ++ opened ∷ []) ≡ suc (length ps) = length_more ps opened in
    let inside : IsAt b (x ++ (41 ∷ rest)) (ps ++ opened ∷ []) nil = record {
      offset = suc k;
      trees = nothing;
      left_is = next.2 ∙ append_assoc x (41 ∷ []) rest;
      reading = read-open b k ps at.trees opened next.0 (ap (λ c. nat_eq c 40) next.1) (omega arith) refl refl refl at.reading;
      row_is = refl;
    } in
    let end : IsAt b (41 ∷ rest) (ps ++ opened ∷ []) p = reads b (41 ∷ rest) (ps ++ opened ∷ []) nil (omega arith) refl inside in
    let last = next_byte b end.offset 41 rest end.left_is in
    let span : Span = record { start = k; end = suc end.offset; place = place_at b k } in
    record {
      offset = suc end.offset;
      trees = join at.trees (placed_group span end.trees nothing);
      left_is = last.2;
      reading = read-close b end.offset ps end.trees opened last.0 (ap (λ c. nat_eq c 41) last.1) end.reading;
      row_is = group_row at.trees end.trees span row p at.row_is end.row_is;
    }

-- a whole text
pub spelled_whole : (b : List ℕ) (d : ℕ) (p : Row) → d ≤ most_open → Reads b d p → (t : Forest) × SpellsTrees b t × (row_of t ≡ p)
spelled_whole b d p room reads =
    let start : IsAt b (b ++ []) [] nil = record {
      offset = 0;
      trees = nothing;
      left_is = sym (append-nil b);
      reading = read-start b;
      row_is = refl;
    } in
    let end : IsAt b [] [] p = reads b [] [] nil (omega arith) refl start in
    let long : length b - end.offset ≡ 0 = sym (length-drop end.offset b) ∙ ap length end.left_is in
    (end.trees, found-spelling b end.offset [] end.trees (omega arith) refl end.reading, end.row_is)
