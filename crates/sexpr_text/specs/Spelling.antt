-- Which forms a text spells, looked at by offsets.
use Rattle.std.specs.Prelude.{◌≡◌, ℕ, suc, ◌+◌, ◌-◌, ◌<◌, ◌≤◌, true, false, List, length}
use Rattle.std.specs.Prelude.{slice_range}
use Rattle.std.specs.Str.{str_to_ascii_lowercase}
use Rattle.sexpr_text.specs.declared.forms.Span.{Span}
use Rattle.sexpr_text.specs.declared.forms.Form.{Form}
use Rattle.sexpr_text.specs.Lexis.{place_at, opens_at, closes_at, is_in_word, is_blank, depth_at}
use Rattle.sexpr_text.specs.Forest.{Forest, nothing, word, group, forest_of}
use Rattle.sexpr_text.specs.Faults.{HasNoFault}

-- only white space and comments stand from offset lo up to and without offset hi
pub record IsGap (b : List ℕ) (lo hi : ℕ) : Type 0 where
  pub ordered : lo ≤ hi
  pub blank : (k : ℕ) → lo ≤ k → k < hi → is_blank b k ≡ true

-- the span is a longest run of bytes of words, and the text is that run in lower case
pub record IsWordAt (b : List ℕ) (span : Span) (text : List ℕ) : Type 0 where
  pub nonempty : span.start < span.end
  pub within : (k : ℕ) → span.start ≤ k → k < span.end → is_in_word b k ≡ true
  pub begins : (k : ℕ) → suc k ≡ span.start → is_in_word b k ≡ false
  pub ends : is_in_word b span.end ≡ false
  pub spelled : text ≡ str_to_ascii_lowercase (slice_range b span.start span.end)
  pub placed : span.place ≡ place_at b span.start

-- the span reaches from a `(` to the first later `)` that brings the depth back
pub record IsGroup (b : List ℕ) (span : Span) : Type 0 where
  pub opened : opens_at b span.start ≡ true
  pub nonempty : span.start + 2 ≤ span.end
  pub closed : closes_at b (span.end - 1) ≡ true
  pub back : depth_at b span.end ≡ depth_at b span.start
  pub first : (k : ℕ) → span.start < k → k < span.end → depth_at b span.start < depth_at b k
  pub placed : span.place ≡ place_at b span.start

-- these forms, in this order, are all that stands from offset lo up to and without offset hi, white
-- space and comments aside; the parts of a group are what stands between its parentheses
abbrev pub IsBetween : List ℕ → ℕ → ℕ → Forest → Type 0
IsBetween b lo hi nothing = IsGap b lo hi
IsBetween b lo hi (word span text rest) =
    IsGap b lo span.start × IsWordAt b span text × IsBetween b span.end hi rest
IsBetween b lo hi (group span parts rest) =
    IsGap b lo span.start × IsGroup b span × IsBetween b (span.start + 1) (span.end - 1) parts
    × IsBetween b span.end hi rest

-- the text has no lexical fault, and these are its trees
pub record SpellsTrees (b : List ℕ) (trees : Forest) : Type 0 where
  pub sound : HasNoFault b
  pub whole : IsBetween b 0 (length b) trees

-- the text spells these forms: all of them, in order, with their texts, spans, places and nesting
abbrev pub Spells : List ℕ → List Form → Type 0
Spells b forms = SpellsTrees b (forest_of forms)
