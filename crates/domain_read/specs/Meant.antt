-- The forms that a domain's text means, at their places in the text.
use Rattle.std.specs.Prelude.{ℕ, ◌+◌, Bool, true, false, List, codes, if◌then◌else◌}
use Rattle.sexpr_text.specs.declared.forms.Place.{Place}
use Rattle.sexpr_text.specs.declared.forms.Span.{Span}
use Rattle.sexpr_text.specs.Forest.{Forest, nothing, word, group}
use Rattle.domain_read.specs.declared.roles.Role.{Role}
use Rattle.domain_read.specs.declared.roles.Role.TheVariants.{Choice}
use Rattle.domain_read.specs.Roles.{after_word, after_group, inner_role, is_left_out, text_role}

-- in the place of a word, a word of five bytes
abbrev pub oneof_span : Span → Span
oneof_span span = record { start = span.start; end = span.start + 5; place = span.place }

-- and one byte after it, two parentheses
abbrev pub empty_span : Span → Span
empty_span span = record {
  start = span.start + 6;
  end = span.start + 8;
  place = record { line = span.place.line; column = span.place.column + 6 };
}

-- the head of a recognised list is `oneof`; where mass is missing, the empty effect follows it
abbrev pub choice_head : Bool → Span → Forest → Forest
choice_head missing span rest =
    word (oneof_span span) (codes "oneof")
    (if missing then group (empty_span span) nothing rest else rest)

-- a word of this role, before what follows it
abbrev pub meant_word : Role → Span → List ℕ → Forest → Forest
meant_word (Choice missing) span text rest = choice_head missing span rest
meant_word role span text rest = if is_left_out role then rest else word span text rest

-- what a row means: weights, and effects whose weight is 0, are left out
abbrev pub meant : Role → Forest → Forest
meant role nothing = nothing
meant role (word span text rest) = meant_word role span text (meant (after_word role text) rest)
meant role (group span parts rest) =
    if is_left_out role then meant (after_group role parts) rest
    else group span (meant (inner_role role parts) parts) (meant (after_group role parts) rest)

-- the forms that a text's forms mean: each recognised list is the `oneof` of its effects whose
-- weight is not 0, in their order, with the empty effect before them where the weights' sum is less
-- than 1
abbrev pub plain_trees : Forest → Forest
plain_trees trees = meant (text_role trees) trees
