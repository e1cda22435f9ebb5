-- The words of a text's forms, and the names that are read out of them, are words.
use Rattle.std.proofs.Common.{ℕ, ◌+◌, ◌-◌, Bool, true, false, List, [], ◌∷◌, ◌++◌, arith, All, Option, Some, None}
use Rattle.std.specs.Prelude.{if◌then◌else◌}
use Rattle.std.specs.Option.{option_map_or}
use Rattle.std.proofs.lemmas.List.Elements.{All-nil, All-cons, All-append}
use Rattle.sexpr_text.specs.declared.forms.Span.{Span}
use Rattle.sexpr_text.specs.Forest.{Forest, nothing, word, group}
use Rattle.sexpr_text.specs.Formed.{IsRising}
use Rattle.sexpr_text.specs.Parts.{after_first, first_group_with}
use Rattle.pddl_ast.specs.TypedLists.{Group, groups_after, last_group, names_of, typed_after, typed_groups}
use Rattle.pddl_ast.specs.Words.{is_dash}
use Rattle.pddl_ast.specs.WordTexts.{HasWordTexts, IsWordText}

-- words that rise are words
pub rising_words : (lo hi : ℕ) (row : Forest) → IsRising lo hi row → HasWordTexts row
rising_words lo hi nothing h = tt
rising_words lo hi (word span text rest) h =
    (record { some = omega (arith, h.1, h.2); bytes = h.3 }, rising_words span.end hi rest h.4)
rising_words lo hi (group span parts rest) h =
    (rising_words (span.start + 1) (span.end - 1) parts h.2, rising_words span.end hi rest h.3)

-- the forms after the first, and the parts of the first group that passes a test
pub words-after_first : (row : Forest) → HasWordTexts row → HasWordTexts (after_first row)
words-after_first nothing h = tt
words-after_first (word span text rest) h = h.1
words-after_first (group span parts rest) h = h.1

abbrev pub GroupHasWords : Option (Span × Forest) → Type 0
GroupHasWords None = Unit {0}
GroupHasWords (Some g) = HasWordTexts g.1

choose : (b : Bool) (o p : Option (Span × Forest)) → GroupHasWords o → GroupHasWords p → GroupHasWords (if b then o else p)
choose true o p h g = h
choose false o p h g = g

pub words-first_group : (test : Forest → Bool) (row : Forest) → HasWordTexts row → GroupHasWords (first_group_with test row)
words-first_group test nothing h = tt
words-first_group test (word span text rest) h = words-first_group test rest h.1
words-first_group test (group span parts rest) h =
    choose (test parts) (Some (span, parts)) (first_group_with test rest) h.0 (words-first_group test rest h.1)

pub words-in_group : (o : Option (Span × Forest)) → GroupHasWords o → HasWordTexts (option_map_or (λ (s : Span × Forest). after_first s.1) o nothing)
words-in_group None h = tt
words-in_group (Some g) h = words-after_first g.1 h

-- the names of a typed list
no_words : All IsWordText []
no_words = All-nil IsWordText

one_word : (w : List ℕ) → IsWordText w → All IsWordText (w ∷ [])
one_word w h = All-cons IsWordText w [] h no_words

both : (xs ys : List (List ℕ)) → All IsWordText xs → All IsWordText ys → All IsWordText (xs ++ ys)
both = All-append IsWordText

last-words : (names : List (List ℕ)) → All IsWordText names → All IsWordText (names_of (last_group names))
last-words [] h = no_words
last-words (name ∷ names) h = both (name ∷ names) [] h no_words

two : (b : Bool) (gs ks : List Group) → All IsWordText (names_of gs) → All IsWordText (names_of ks) → All IsWordText (names_of (if b then gs else ks))
two true gs ks h k = h
two false gs ks h k = k

mutual
  groups-words : (row : Forest) (names : List (List ℕ)) → HasWordTexts row → All IsWordText names → All IsWordText (names_of (groups_after row names))
  groups-words nothing names h k = last-words names k
  groups-words (group span parts rest) names h k = groups-words rest names h.1 k
  groups-words (word span w rest) names h k =
      two (is_dash w) (typed_after rest names) (groups_after rest (names ++ w ∷ []))
      (typed-words rest names h.1 k) (groups-words rest (names ++ w ∷ []) h.1 (both names (w ∷ []) k (one_word w h.0)))

  typed-words : (row : Forest) (names : List (List ℕ)) → HasWordTexts row → All IsWordText names → All IsWordText (names_of (typed_after row names))
  typed-words nothing names h k = no_words
  typed-words (group span parts rest) names h k = groups-words rest [] h.1 no_words
  typed-words (word span w rest) names h k = both names (names_of (groups_after rest [])) k (groups-words rest [] h.1 no_words)

pub typed_list-words : (row : Forest) → HasWordTexts row → All IsWordText (names_of (typed_groups row))
typed_list-words row h = groups-words row [] h no_words
