-- No two forests are what stands between the same two offsets.
use Rattle.std.proofs.Common.{◌≡◌, ℕ, ◌+◌, ◌-◌, ◌<◌, ◌≤◌, ◌⊎◌, inl, inr, Bool, true, false, List, refl, ap, sym, ◌∙◌, arith}
use Rattle.std.specs.List.{slice_range}
use Rattle.std.specs.Str.{str_to_ascii_lowercase}
use Rattle.sexpr_text.specs.declared.forms.Place.{Place}
use Rattle.sexpr_text.specs.declared.forms.Span.{Span}
use Rattle.sexpr_text.specs.Lexis.{place_at, is_in_word, is_blank, opens_at, depth_at}
use Rattle.sexpr_text.specs.Forest.{Forest, nothing, word, group}
use Rattle.sexpr_text.specs.Spelling.{IsGap, IsWordAt, IsGroup, IsBetween}
use Rattle.sexpr_text.proofs.Depths.{blank-no_word, blank-no_open, word-no_open}
use Rattle.sexpr_text.proofs.Between.{IsBetween-le}
use Rattle.list_laws.proofs.Booleans.{true_and_false}
use Rattle.list_laws.proofs.Numbers.{trichotomy}

-- one of the three holds

pub word-no_blank : (b : List ℕ) (k : ℕ) → is_in_word b k ≡ true → is_blank b k ≡ false
word-no_blank b k h = by_blank (is_blank b k) refl
  where
    by_blank : (v : Bool) → is_blank b k ≡ v → is_blank b k ≡ false
    by_blank true w = absurd (true_and_false (is_in_word b k) h (blank-no_word b k w))
    by_blank false w = w

pub open-no_blank : (b : List ℕ) (k : ℕ) → opens_at b k ≡ true → is_blank b k ≡ false
open-no_blank b k h = by_blank (is_blank b k) refl
  where
    by_blank : (v : Bool) → is_blank b k ≡ v → is_blank b k ≡ false
    by_blank true w = absurd (true_and_false (opens_at b k) h (blank-no_open b k w))
    by_blank false w = w

-- a gap ends at the first offset that is not blank
no_later : (b : List ℕ) (lo x y : ℕ) → lo ≤ x → IsGap b lo y → is_blank b x ≡ false → x < y → ⊥
no_later b lo x y le g h lt = true_and_false (is_blank b x) (g.blank x le lt) h

starts_same : (b : List ℕ) (lo lo' x y : ℕ) → lo ≡ lo' → IsGap b lo x → IsGap b lo' y → is_blank b x ≡ false → is_blank b y ≡ false → x ≡ y
starts_same b lo lo' x y e g h bx by = elim (trichotomy x y) [
  | inl lt ↦ absurd (no_later b lo' x y (omega (arith, g.ordered)) h bx lt)
  | inr (inl same) ↦ same
  | inr (inr lt) ↦ absurd (no_later b lo y x (omega (arith, h.ordered)) g by lt)
]

-- no run of a word stops inside another that begins with it
word_stops : (b : List ℕ) (s t : Span) (u v : List ℕ) → IsWordAt b s u → IsWordAt b t v → s.start ≡ t.start → s.end < t.end → ⊥
word_stops b s t u v g h e lt =
    true_and_false (is_in_word b s.end) (h.within s.end (omega (arith, g.nonempty)) lt) g.ends

word_ends_same : (b : List ℕ) (s t : Span) (u v : List ℕ) → IsWordAt b s u → IsWordAt b t v → s.start ≡ t.start → s.end ≡ t.end
word_ends_same b s t u v g h e = elim (trichotomy s.end t.end) [
  | inl lt ↦ absurd (word_stops b s t u v g h e lt)
  | inr (inl same) ↦ same
  | inr (inr lt) ↦ absurd (word_stops b t s v u h g (sym e) lt)
]

-- a group ends where the depth is first back
group_stops : (b : List ℕ) (s t : Span) → IsGroup b s → IsGroup b t → s.start ≡ t.start → s.end < t.end → ⊥
group_stops b s t g h e lt =
    let level : depth_at b s.start ≡ depth_at b t.start = ap (depth_at b) e in
    omega (arith, level, g.back, h.first s.end (omega (arith, g.nonempty)) lt)

group_ends_same : (b : List ℕ) (s t : Span) → IsGroup b s → IsGroup b t → s.start ≡ t.start → s.end ≡ t.end
group_ends_same b s t g h e = elim (trichotomy s.end t.end) [
  | inl lt ↦ absurd (group_stops b s t g h e lt)
  | inr (inl same) ↦ same
  | inr (inr lt) ↦ absurd (group_stops b t s h g (sym e) lt)
]

same_span : (s t : Span) → s.start ≡ t.start → s.end ≡ t.end → s.place ≡ t.place → s ≡ t
same_span s t e f g =
    let by_start : ℕ → Span = λ x. record { start = x; end = s.end; place = s.place } in
    let by_end : ℕ → Span = λ x. record { start = t.start; end = x; place = s.place } in
    let by_place : Place → Span = λ x. record { start = t.start; end = t.end; place = x } in
    ap by_start e ∙ (ap by_end f ∙ ap by_place g)

same_text : (b : List ℕ) (s t : Span) (u v : List ℕ) → IsWordAt b s u → IsWordAt b t v → s.start ≡ t.start → s.end ≡ t.end → u ≡ v
same_text b s t u v g h e f =
    g.spelled
    ∙ (ap (λ x. str_to_ascii_lowercase (slice_range b x s.end)) e
    ∙ (ap (λ x. str_to_ascii_lowercase (slice_range b t.start x)) f ∙ sym h.spelled))

same_word : (s t : Span) (u v : List ℕ) (x y : Forest) → s ≡ t → u ≡ v → x ≡ y → word s u x ≡ word t v y
same_word s t u v x y e f g = cc

same_group : (s t : Span) (u v x y : Forest) → s ≡ t → u ≡ v → x ≡ y → group s u x ≡ group t v y
same_group s t u v x y e f g = cc

-- nothing stands where a form stands
nothing_there : (b : List ℕ) (lo lo' hi hi' : ℕ) (span : Span) → lo ≡ lo' → hi ≡ hi' → IsGap b lo hi → IsGap b lo' span.start → is_blank b span.start ≡ false → span.start < hi' → ⊥
nothing_there b lo lo' hi hi' span e f g h no_blank lt =
    no_later b lo span.start hi (omega (arith, h.ordered)) g no_blank (omega arith)

word_starts : (b : List ℕ) (s : Span) (u : List ℕ) → IsWordAt b s u → is_in_word b s.start ≡ true
word_starts b s u g = g.within s.start (omega arith) g.nonempty

pub IsBetween-unique : (b : List ℕ) (lo lo' hi hi' : ℕ) (s t : Forest) → lo ≡ lo' → hi ≡ hi' → IsBetween b lo hi s → IsBetween b lo' hi' t → s ≡ t
IsBetween-unique b lo lo' hi hi' nothing nothing e f g h = refl
IsBetween-unique b lo lo' hi hi' nothing (word t v y) e f g h =
    absurd (nothing_there b lo lo' hi hi' t e f g h.0 (word-no_blank b t.start (word_starts b t v h.1))
    (omega (arith, h.1.nonempty, IsBetween-le b t.end hi' y h.2)))
IsBetween-unique b lo lo' hi hi' nothing (group t v y) e f g h =
    absurd (nothing_there b lo lo' hi hi' t e f g h.0 (open-no_blank b t.start h.1.opened)
    (omega (arith, h.1.nonempty, IsBetween-le b t.end hi' y h.3)))
IsBetween-unique b lo lo' hi hi' (word s u x) nothing e f g h =
    absurd (nothing_there b lo' lo hi' hi s (sym e) (sym f) h g.0 (word-no_blank b s.start (word_starts b s u g.1))
    (omega (arith, g.1.nonempty, IsBetween-le b s.end hi x g.2)))
IsBetween-unique b lo lo' hi hi' (group s u x) nothing e f g h =
    absurd (nothing_there b lo' lo hi' hi s (sym e) (sym f) h g.0 (open-no_blank b s.start g.1.opened)
    (omega (arith, g.1.nonempty, IsBetween-le b s.end hi x g.3)))
IsBetween-unique b lo lo' hi hi' (word s u x) (group t v y) e f g h =
    let start = starts_same b lo lo' s.start t.start e g.0 h.0 (word-no_blank b s.start (word_starts b s u g.1)) (open-no_blank b t.start h.1.opened) in
    absurd (true_and_false (opens_at b t.start) h.1.opened (word-no_open b t.start (ap (is_in_word b) (sym start) ∙ word_starts b s u g.1)))
IsBetween-unique b lo lo' hi hi' (group s u x) (word t v y) e f g h =
    let start = starts_same b lo lo' s.start t.start e g.0 h.0 (open-no_blank b s.start g.1.opened) (word-no_blank b t.start (word_starts b t v h.1)) in
    absurd (true_and_false (opens_at b s.start) g.1.opened (word-no_open b s.start (ap (is_in_word b) start ∙ word_starts b t v h.1)))
IsBetween-unique b lo lo' hi hi' (word s u x) (word t v y) e f g h =
    let start = starts_same b lo lo' s.start t.start e g.0 h.0 (word-no_blank b s.start (word_starts b s u g.1)) (word-no_blank b t.start (word_starts b t v h.1)) in
    let end = word_ends_same b s t u v g.1 h.1 start in
    same_word s t u v x y
    (same_span s t start end (g.1.placed ∙ (ap (place_at b) start ∙ sym h.1.placed)))
    (same_text b s t u v g.1 h.1 start end)
    (IsBetween-unique b s.end t.end hi hi' x y end f g.2 h.2)
IsBetween-unique b lo lo' hi hi' (group s u x) (group t v y) e f g h =
    let start = starts_same b lo lo' s.start t.start e g.0 h.0 (open-no_blank b s.start g.1.opened) (open-no_blank b t.start h.1.opened) in
    let end = group_ends_same b s t g.1 h.1 start in
    same_group s t u v x y
    (same_span s t start end (g.1.placed ∙ (ap (place_at b) start ∙ sym h.1.placed)))
    (IsBetween-unique b (s.start + 1) (t.start + 1) (s.end - 1) (t.end - 1) u v (ap (λ n. n + 1) start) (ap (λ n. n - 1) end) g.2 h.2)
    (IsBetween-unique b s.end t.end hi hi' x y end f g.3 h.3)
