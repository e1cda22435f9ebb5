-- One form after another in a row.
use Rattle.std.specs.Prelude.{ℕ, Bool, if◌then◌else◌, List, Option, Some, None}
use Rattle.sexpr_text.specs.declared.forms.Span.{Span}
use Rattle.sexpr_text.specs.declared.parts.View.{View}
use Rattle.sexpr_text.specs.declared.parts.View.TheVariants.{Word, Group}
use Rattle.sexpr_text.specs.Forest.{Forest, nothing, word, group, forest_of}

-- a form alone: a word, or a group with its parts
pub data Item : Type 0 where
  of_word : Span → List ℕ → Item
  of_group : Span → Forest → Item

abbrev pub item_of : View → Item
item_of (Word span text) = of_word span text.now
item_of (Group span parts) = of_group span (forest_of parts.now)

abbrev pub item_span : Item → Span
item_span (of_word span text) = span
item_span (of_group span parts) = span

-- the value where the test holds
abbrev pub only_if : {X : Type 0} → Bool → X → Option X
only_if holds x = if holds then Some x else None

-- the first form of a row, and what follows it
abbrev pub first_item : Forest → Option (Item × Forest)
first_item nothing = None
first_item (word span text rest) = Some (of_word span text, rest)
first_item (group span parts rest) = Some (of_group span parts, rest)

-- the span and the parts of a row's first form, where it is a group, and what follows it
abbrev pub split_group : Forest → Option (Span × Forest × Forest)
split_group nothing = None
split_group (word span text rest) = None
split_group (group span parts rest) = Some (span, parts, rest)
