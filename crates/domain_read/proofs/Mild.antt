-- Edits keep line feeds, and make words only of words; and they leave alone what stands outside
-- their forms.
use Rattle.std.proofs.Common.{◌≡◌, ℕ, zero, suc, ◌+◌, ◌-◌, ◌<◌, ◌≤◌, ◌⊎◌, inl, inr, Bool, true, false, not, ◌&&◌, if◌then◌else◌, List, [], ◌∷◌, ◌++◌, length, get_or, codes, refl, ap, sym, ◌∙◌, arith}
use Rattle.std.specs.Prelude.{Option, Some, None, ⊤}
use Rattle.std.specs.List.{list_all}
use Rattle.std.proofs.lemmas.Bool.Decides.{nat_tests}
use Rattle.std.proofs.lemmas.List.{get_or_past}
use Rattle.sexpr_text.specs.declared.forms.Span.{Span}
use Rattle.sexpr_text.specs.Forest.{Forest, nothing, word, group}
use Rattle.sexpr_text.specs.Lexis.{is_line_feed, is_word_byte, is_in_word}
use Rattle.sexpr_text.specs.Spelling.{IsBetween}
use Rattle.sexpr_text.proofs.Between.{IsBetween-le}
use Rattle.domain_read.specs.declared.roles.Role.{Role}
use Rattle.domain_read.specs.declared.roles.Role.TheVariants.{Text, Passed, Define, Action, Name}
use Rattle.domain_read.specs.declared.roles.Role.TheVariants.{Key, Value, Branches, Effects, Scope}
use Rattle.domain_read.specs.declared.roles.Role.TheVariants.{Bound, Body, Choice, Weight, Kept}
use Rattle.domain_read.specs.declared.roles.Role.TheVariants.{Dropped}
use Rattle.domain_read.specs.Roles.{after_word, after_group, inner_role, is_left_out}
use Rattle.domain_read.specs.Edits.{Edit, blank, byte_within, written, edit_to, new_text, word_edits, edits, group_edits}
use Rattle.domain_read.proofs.Replaced.{all_written, all_written_append, written_outside, written_inside, byte_of_text, byte_after_text}
use Rattle.domain_read.proofs.Twins.{AreTwins, word_sign}
use Rattle.list_laws.proofs.Booleans.{and_first, and_second}
use Rattle.std.proofs.lemmas.Bool.{cases_lt}

-- a span is left alone by edits of it where the offset is outside
pub edit_to_outside : (span : Span) (o : Option (List ℕ)) (k x : ℕ) → (k < span.start) ⊎ (span.end ≤ k) → all_written (edit_to span o) k x ≡ x
edit_to_outside span None k x h = refl
edit_to_outside span (Some text) k x h = written_outside (record { span = span; text = text }) k x h

pub group_outside : (role : Role) (span : Span) (parts : Forest) (k x : ℕ) → (k < span.start) ⊎ (span.end ≤ k) → all_written (edits (inner_role role parts) parts) k x ≡ x → all_written (group_edits role span parts) k x ≡ x
group_outside role span parts k x h inner = by_test (is_left_out role)
  where
    by_test : (v : Bool) → all_written (if v then edit_to span (Some []) else edits (inner_role role parts) parts) k x ≡ x
    by_test true = edit_to_outside span (Some []) k x h
    by_test false = inner

-- an offset that is outside a row is outside each of its parts
outside_more : (lo hi low high k : ℕ) → lo ≤ low → high ≤ hi → (k < lo) ⊎ (hi ≤ k) → (k < low) ⊎ (high ≤ k)
outside_more lo hi low high k l u (inl h) = inl (omega arith)
outside_more lo hi low high k l u (inr h) = inr (omega arith)

-- edits of a row leave alone what stands before the row and after it
pub edits_outside : (trees : Forest) (role : Role) (b : List ℕ) (lo hi k x : ℕ) → IsBetween b lo hi trees → (k < lo) ⊎ (hi ≤ k) → all_written (edits role trees) k x ≡ x
edits_outside nothing role b lo hi k x g h = refl
edits_outside (word span text rest) role b lo hi k x g h =
    let low : lo ≤ span.start = g.0.ordered in
    let some : span.start < span.end = g.1.nonempty in
    let high : span.end ≤ hi = IsBetween-le b span.end hi rest g.2 in
    all_written_append (word_edits role span) (edits (after_word role text) rest) k x
    ∙ (ap (all_written (edits (after_word role text) rest) k) (edit_to_outside span (new_text role) k x (outside_more lo hi span.start span.end k low high h))
    ∙ edits_outside rest (after_word role text) b span.end hi k x g.2 (outside_more lo hi span.end hi k (omega arith) (omega arith) h))
edits_outside (group span parts rest) role b lo hi k x g h =
    let low : lo ≤ span.start = g.0.ordered in
    let some : span.start + 2 ≤ span.end = g.1.nonempty in
    let high : span.end ≤ hi = IsBetween-le b span.end hi rest g.3 in
    let inner = edits_outside parts (inner_role role parts) b (span.start + 1) (span.end - 1) k x g.2 (outside_more lo hi (span.start + 1) (span.end - 1) k (omega arith) (omega arith) h) in
    all_written_append (group_edits role span parts) (edits (after_group role parts) rest) k x
    ∙ (ap (all_written (edits (after_group role parts) rest) k) (group_outside role span parts k x (outside_more lo hi span.start span.end k low high h) inner)
    ∙ edits_outside rest (after_group role parts) b span.end hi k x g.3 (outside_more lo hi span.end hi k (omega arith) (omega arith) h))

-- an edit that writes its text over bytes of words, and no line feed
pub record IsMild (b : List ℕ) (e : Edit) : Type 0 where
  pub over : (k : ℕ) → e.span.start ≤ k → k < e.span.end → k - e.span.start < length e.text → is_in_word b k ≡ true
  pub clean : (i : ℕ) → is_line_feed (get_or e.text i 0) ≡ false

abbrev pub AreMild : List ℕ → List Edit → Type 0
AreMild b [] = ⊤
AreMild b (e ∷ es) = IsMild b e × AreMild b es

mild_append : (b : List ℕ) (es fs : List Edit) → AreMild b es → AreMild b fs → AreMild b (es ++ fs)
mild_append b [] fs h g = g
mild_append b (e ∷ es) fs h g = (h.0, mild_append b es fs h.1 g)

not_feed : (x : ℕ) → not (is_line_feed x) ≡ true → is_line_feed x ≡ false
not_feed x h = by_test (is_line_feed x) refl h
  where
    by_test : (v : Bool) → is_line_feed x ≡ v → not v ≡ true → v ≡ false
    by_test true e h = sym h
    by_test false e h = refl

clean_text : (text : List ℕ) → list_all (λ c. not (is_line_feed c)) text ≡ true → (i : ℕ) → is_line_feed (get_or text i 0) ≡ false
clean_text [] h i = refl
clean_text (c ∷ cs) h zero = not_feed c (and_first (not (is_line_feed c)) (list_all (λ c. not (is_line_feed c)) cs) h)
clean_text (c ∷ cs) h (suc i) = clean_text cs (and_second (not (is_line_feed c)) (list_all (λ c. not (is_line_feed c)) cs) h) i

-- the text of an edit, where there is one, has no line feed
abbrev IsClean : Option (List ℕ) → Type 0
IsClean None = ⊤
IsClean (Some text) = list_all (λ c. not (is_line_feed c)) text ≡ true

new_text_clean : (role : Role) → IsClean (new_text role)
new_text_clean Text = tt
new_text_clean Passed = tt
new_text_clean Define = tt
new_text_clean Action = tt
new_text_clean Name = tt
new_text_clean Key = tt
new_text_clean Value = tt
new_text_clean Branches = tt
new_text_clean Effects = tt
new_text_clean Scope = tt
new_text_clean Bound = tt
new_text_clean Body = tt
new_text_clean (Choice true) = refl
new_text_clean (Choice false) = refl
new_text_clean Weight = refl
new_text_clean Kept = tt
new_text_clean Dropped = refl

mild_word : (b : List ℕ) (span : Span) (o : Option (List ℕ)) → IsClean o → ((k : ℕ) → span.start ≤ k → k < span.end → is_in_word b k ≡ true) → AreMild b (edit_to span o)
mild_word b span None h within = tt
mild_word b span (Some text) h within = (record { over = λ k l u s. within k l u; clean = clean_text text h }, tt)

mild_blank : (b : List ℕ) (span : Span) → AreMild b (edit_to span (Some []))
mild_blank b span = (record { over = λ k l u s. absurd (omega (arith, s)); clean = clean_text [] refl }, tt)

mild_group : (b : List ℕ) (role : Role) (span : Span) (parts : Forest) → AreMild b (edits (inner_role role parts) parts) → AreMild b (group_edits role span parts)
mild_group b role span parts inner = by_test (is_left_out role)
  where
    by_test : (v : Bool) → AreMild b (if v then edit_to span (Some []) else edits (inner_role role parts) parts)
    by_test true = mild_blank b span
    by_test false = inner

pub mild_edits : (trees : Forest) (role : Role) (b : List ℕ) (lo hi : ℕ) → IsBetween b lo hi trees → AreMild b (edits role trees)
mild_edits nothing role b lo hi g = tt
mild_edits (word span text rest) role b lo hi g =
    mild_append b (word_edits role span) (edits (after_word role text) rest) (mild_word b span (new_text role) (new_text_clean role) g.1.within) (mild_edits rest (after_word role text) b span.end hi g.2)
mild_edits (group span parts rest) role b lo hi g =
    mild_append b (group_edits role span parts) (edits (after_group role parts) rest)
    (mild_group b role span parts (mild_edits parts (inner_role role parts) b (span.start + 1) (span.end - 1) g.2))
    (mild_edits rest (after_group role parts) b span.end hi g.3)

-- where an offset stands to an edit
abbrev IsPlaced : Edit → ℕ → Type 0
IsPlaced e k =
    ((k < e.span.start) ⊎ (e.span.end ≤ k))
    ⊎ ((e.span.start ≤ k) × (k < e.span.end) × (k - e.span.start < length e.text))
    ⊎ ((e.span.start ≤ k) × (k < e.span.end) × (length e.text ≤ k - e.span.start))

placed : (e : Edit) (k : ℕ) → IsPlaced e k
placed e k = by_start (cases_lt k e.span.start)
  where
    by_text : e.span.start ≤ k → k < e.span.end → (k - e.span.start < length e.text) ⊎ (length e.text ≤ k - e.span.start) → IsPlaced e k
    by_text l u (inl h) = inr (inl (l, u, h))
    by_text l u (inr h) = inr (inr (l, u, h))

    by_end : e.span.start ≤ k → (k < e.span.end) ⊎ (e.span.end ≤ k) → IsPlaced e k
    by_end l (inl u) = by_text l u (cases_lt (k - e.span.start) (length e.text))
    by_end l (inr u) = inl (inr u)

    by_start : (k < e.span.start) ⊎ (e.span.start ≤ k) → IsPlaced e k
    by_start (inl h) = inl (inl h)
    by_start (inr l) = by_end l (cases_lt k e.span.end)

blank_feed : (x : ℕ) → is_line_feed (blank x) ≡ is_line_feed x
blank_feed x = by_test (is_line_feed x) refl
  where
    by_test : (v : Bool) → is_line_feed x ≡ v → is_line_feed (if v then 10 else 32) ≡ v
    by_test true e = refl
    by_test false e = refl

pub blank_no_word : (x : ℕ) → is_word_byte (blank x) ≡ false
blank_no_word x = by_test (is_line_feed x)
  where
    by_test : (v : Bool) → is_word_byte (if v then 10 else 32) ≡ false
    by_test true = refl
    by_test false = refl

feed_step : (b : List ℕ) (e : Edit) (k x : ℕ) → IsMild b e → is_line_feed x ≡ is_line_feed (get_or b k 0) → is_line_feed (written e k x) ≡ is_line_feed (get_or b k 0)
feed_step b e k x mild h = by_place (placed e k)
  where
    by_place : IsPlaced e k → is_line_feed (written e k x) ≡ is_line_feed (get_or b k 0)
    by_place (inl out) = ap is_line_feed (written_outside e k x out) ∙ h
    by_place (inr (inl (l, u, s))) =
        ap is_line_feed (written_inside e k x l u ∙ byte_of_text e.text (k - e.span.start) x s)
        ∙ (mild.clean (k - e.span.start) ∙ sym (word_sign b k (mild.over k l u s)).0.no_feed)
    by_place (inr (inr (l, u, s))) =
        ap is_line_feed (written_inside e k x l u ∙ byte_after_text e.text (k - e.span.start) x s) ∙ (blank_feed x ∙ h)

word_step : (b : List ℕ) (e : Edit) (k x : ℕ) → IsMild b e → is_in_word b k ≡ false → is_word_byte x ≡ false → is_word_byte (written e k x) ≡ false
word_step b e k x mild none h = by_place (placed e k)
  where
    by_place : IsPlaced e k → is_word_byte (written e k x) ≡ false
    by_place (inl out) = ap is_word_byte (written_outside e k x out) ∙ h
    by_place (inr (inl (l, u, s))) = absurd (contrary (is_in_word b k) (mild.over k l u s) none)
      where
        contrary : (v : Bool) → v ≡ true → v ≡ false → ⊥
        contrary v t f = cc
    by_place (inr (inr (l, u, s))) =
        ap is_word_byte (written_inside e k x l u ∙ byte_after_text e.text (k - e.span.start) x s) ∙ blank_no_word x

feed_all : (es : List Edit) (b : List ℕ) (k x : ℕ) → AreMild b es → is_line_feed x ≡ is_line_feed (get_or b k 0) → is_line_feed (all_written es k x) ≡ is_line_feed (get_or b k 0)
feed_all [] b k x mild h = h
feed_all (e ∷ es) b k x mild h = feed_all es b k (written e k x) mild.1 (feed_step b e k x mild.0 h)

word_all : (es : List Edit) (b : List ℕ) (k x : ℕ) → AreMild b es → is_in_word b k ≡ false → is_word_byte x ≡ false → is_word_byte (all_written es k x) ≡ false
word_all [] b k x mild none h = h
word_all (e ∷ es) b k x mild none h = word_all es b k (written e k x) mild.1 none (word_step b e k x mild.0 none h)

-- the edits of a text's forms make a twin of the text
pub twins : (trees : Forest) (role : Role) (b c : List ℕ) (lo hi : ℕ) → IsBetween b lo hi trees → length c ≡ length b → ((k : ℕ) → k < length b → get_or c k 0 ≡ all_written (edits role trees) k (get_or b k 0)) → AreTwins b c
twins trees role b c lo hi g long each =
    let mild : AreMild b (edits role trees) = mild_edits trees role b lo hi g in
    record {
      long = long;
      feeds = λ k h. ap is_line_feed (each k h) ∙ feed_all (edits role trees) b k (get_or b k 0) mild refl;
      apart = λ k none h. by_place k none h mild (cases_lt k (length b));
    }
  where
    by_place : (k : ℕ) → is_in_word b k ≡ false → is_word_byte (get_or b k 0) ≡ false → AreMild b (edits role trees) → (k < length b) ⊎ (length b ≤ k) → is_word_byte (get_or c k 0) ≡ false
    by_place k none h mild (inl lt) = ap is_word_byte (each k lt) ∙ word_all (edits role trees) b k (get_or b k 0) mild none h
    by_place k none h mild (inr le) = ap is_word_byte (get_or_past c k 0 (omega (arith, long)))
