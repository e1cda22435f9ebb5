-- Forms that a text spells are formed.
use Rattle.std.proofs.Common.{◌≡◌, ℕ, ◌+◌, ◌-◌, ◌<◌, ◌≤◌, ◌⊎◌, inl, inr, min, Bool, true, false, List, length, get_or, drop, refl, ap, sym, subst, ◌∙◌, arith, length-take, length-drop, get_or-take, get_or-drop}
use Rattle.std.specs.Prelude.{All}
use Rattle.std.specs.List.{slice_range}
use Rattle.std.specs.Char.{to_ascii_lowercase}
use Rattle.std.specs.Str.{str_to_ascii_lowercase}
use Rattle.std.proofs.lemmas.List.{length-map, get_or_default}
use Rattle.std.proofs.lemmas.List.Elements.{All-map}
use Rattle.std.proofs.lemmas.Bool.Decides.{nat_tests}
use Rattle.std.proofs.lemmas.Str.Ascii.{lowercase_is}
use Rattle.sexpr_text.specs.declared.forms.Span.{Span}
use Rattle.sexpr_text.specs.declared.forms.Form.{Form}
use Rattle.sexpr_text.specs.declared.faults.FaultKind.TheVariants.{TooDeep}
use Rattle.sexpr_text.specs.Lexis.{is_word_byte, is_in_comment, is_in_word, depth_at}
use Rattle.sexpr_text.specs.Forest.{Forest, nothing, word, group, forest_of}
use Rattle.sexpr_text.specs.Spelling.{IsGap, IsWordAt, IsBetween, Spells}
use Rattle.sexpr_text.specs.Faults.{HasNoFaultAt, most_open}
use Rattle.sexpr_text.specs.Formed.{nesting_of, is_lower_word_byte, IsRising, IsFormed}
use Rattle.sexpr_text.proofs.Depths.{blank-no_open, blank-no_close, word-no_open, word-no_close, is_in_word-free, is_in_word-comment, depth_at-upto}
use Rattle.sexpr_text.proofs.Between.{IsBetween-le}
use Rattle.list_laws.proofs.Numbers.{le_or_lt}
use Rattle.list_laws.proofs.Booleans.{true_and_false}

pub gap_level : (b : List ℕ) (lo hi : ℕ) → IsGap b lo hi → depth_at b hi ≡ depth_at b lo
gap_level b lo hi g =
    depth_at-upto b lo hi g.ordered (λ i l u. (blank-no_open b i (g.blank i l u), blank-no_close b i (g.blank i l u)))

pub word_level : (b : List ℕ) (s : Span) (text : List ℕ) → IsWordAt b s text → depth_at b s.end ≡ depth_at b s.start
word_level b s text g =
    depth_at-upto b s.start s.end (omega (arith, g.nonempty))
    (λ i l u. (word-no_open b i (g.within i l u), word-no_close b i (g.within i l u)))

-- no more groups stand in one another than may be open
pub nesting_bounded : (b : List ℕ) (lo hi d : ℕ) (t : Forest) → HasNoFaultAt b → d ≤ depth_at b lo → d ≤ most_open → IsBetween b lo hi t → d + nesting_of t ≤ most_open
nesting_bounded b lo hi d nothing sound at below g = omega arith
nesting_bounded b lo hi d (word s text rest) sound at below g =
    nesting_bounded b s.end hi d rest sound (omega (arith, gap_level b lo s.start g.0, word_level b s text g.1)) below g.2
nesting_bounded b lo hi d (group s parts rest) sound at below g =
    let level : depth_at b s.start ≡ depth_at b lo = gap_level b lo s.start g.0 in
    let room : depth_at b s.start < most_open = has_room (le_or_lt most_open (depth_at b s.start)) in
    let deeper : depth_at b s.start < depth_at b (s.start + 1) = g.1.first (s.start + 1) (omega arith) (omega (arith, g.1.nonempty)) in
    let within : d + 1 + nesting_of parts ≤ most_open =
    nesting_bounded b (s.start + 1) (s.end - 1) (d + 1) parts sound (omega arith) (omega arith) g.2 in
    let after : d + nesting_of rest ≤ most_open =
    nesting_bounded b s.end hi d rest sound (omega (arith, g.1.back)) below g.3 in
    omega arith
  where
    has_room : (most_open ≤ depth_at b s.start) ⊎ (depth_at b s.start < most_open) → depth_at b s.start < most_open
    has_room (inl full) = absurd (sound s.start TooDeep (record { opens = g.1.opened; full = full }))
    has_room (inr w) = w

-- a byte that belongs to a word, in lower case
word_byte : (b : List ℕ) (k : ℕ) → is_in_word b k ≡ true → is_word_byte (get_or b k 0) ≡ true
word_byte b k h = by_comment (is_in_comment b k) refl
  where
    by_comment : (v : Bool) → is_in_comment b k ≡ v → is_word_byte (get_or b k 0) ≡ true
    by_comment true w = absurd (true_and_false (is_in_word b k) h (is_in_word-comment b k w))
    by_comment false w = sym (is_in_word-free b k w) ∙ h

not_upper : (c : ℕ) → is_word_byte c ≡ true → (c < 65) ⊎ (90 < c) → is_lower_word_byte c ≡ true
not_upper c h (inl w) = grind (arith, nat_tests)
not_upper c h (inr w) = grind (arith, nat_tests)

letter : (c : ℕ) → 97 ≤ c → c ≤ 122 → is_lower_word_byte c ≡ true
letter c l u = grind (arith, nat_tests)

lowered : (c : ℕ) → is_word_byte c ≡ true → is_lower_word_byte (to_ascii_lowercase c) ≡ true
lowered c h = by_place (le_or_lt 65 c) (le_or_lt c 90)
  where
    by_place : (65 ≤ c) ⊎ (c < 65) → (c ≤ 90) ⊎ (90 < c) → is_lower_word_byte (to_ascii_lowercase c) ≡ true
    by_place (inr w) y = subst (λ x. is_lower_word_byte x ≡ true) (sym ((lowercase_is c).1 w)) (not_upper c h (inl w))
    by_place x (inr w) = subst (λ x. is_lower_word_byte x ≡ true) (sym ((lowercase_is c).2 w)) (not_upper c h (inr w))
    by_place (inl v) (inl w) =
        subst (λ x. is_lower_word_byte x ≡ true) (sym ((lowercase_is c).0 (v, w))) (letter (c + 32) (omega arith) (omega arith))

text_length : (b : List ℕ) (s : Span) (text : List ℕ) → s.end ≤ length b → IsWordAt b s text → length text + s.start ≡ s.end
text_length b s text inside g =
    let plain : length (str_to_ascii_lowercase (slice_range b s.start s.end)) ≡ length (slice_range b s.start s.end) =
    length-map (slice_range b s.start s.end) to_ascii_lowercase in
    let part : length (slice_range b s.start s.end) ≡ min (s.end - s.start) (length b - s.start) =
    length-take (s.end - s.start) (drop s.start b) ∙ ap (min (s.end - s.start)) (length-drop s.start b) in
    omega (arith, ap length g.spelled, plain, part, g.nonempty)

text_bytes : (b : List ℕ) (s : Span) (text : List ℕ) → s.end ≤ length b → IsWordAt b s text → All (λ c. is_lower_word_byte c ≡ true) text
text_bytes b s text inside g =
    subst (All (λ c. is_lower_word_byte c ≡ true)) (sym g.spelled)
    (All-map (λ c. is_lower_word_byte c ≡ true) to_ascii_lowercase (slice_range b s.start s.end) (λ k d u.
    let within : k < s.end - s.start = omega (arith, u, length-take (s.end - s.start) (drop s.start b)) in
    let read : get_or (slice_range b s.start s.end) k d ≡ get_or b (s.start + k) d =
    get_or-take (s.end - s.start) (drop s.start b) k d within ∙ get_or-drop s.start b k d in
    let read' : get_or (slice_range b s.start s.end) k d ≡ get_or b (s.start + k) 0 =
    read ∙ get_or_default b (s.start + k) d 0 (omega (arith, within)) in
    subst (λ c. is_lower_word_byte (to_ascii_lowercase c) ≡ true) (sym read')
    (lowered (get_or b (s.start + k) 0) (word_byte b (s.start + k) (g.within (s.start + k) (omega arith) (omega (arith, within)))))))

rising : (b : List ℕ) (lo hi : ℕ) (t : Forest) → hi ≤ length b → IsBetween b lo hi t → IsRising lo hi t
rising b lo hi nothing inside g = g.ordered
rising b lo hi (word s text rest) inside g =
    let ends : s.end ≤ hi = IsBetween-le b s.end hi rest g.2 in
    (g.0.ordered, g.1.nonempty, text_length b s text (omega arith) g.1, text_bytes b s text (omega arith) g.1, rising b s.end hi rest inside g.2)
rising b lo hi (group s parts rest) inside g =
    let ends : s.end ≤ hi = IsBetween-le b s.end hi rest g.3 in
    (g.0.ordered, g.1.nonempty, rising b (s.start + 1) (s.end - 1) parts (omega arith) g.2, rising b s.end hi rest inside g.3)

pub spells-formed : (b : List ℕ) (forms : List Form) → Spells b forms → IsFormed (length b) forms
spells-formed b forms h = record {
  shallow = omega (arith, nesting_bounded b 0 (length b) 0 (forest_of forms) h.sound.sound (omega arith) (omega arith) h.whole);
  rising = rising b 0 (length b) (forest_of forms) (omega arith) h.whole;
}
