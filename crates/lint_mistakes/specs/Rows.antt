-- Parts of rows of forms.
use Rattle.std.specs.Prelude.{ℕ, List, Option, None, Some, if◌then◌else◌}
use Rattle.std.specs.Option.{option_map_or}
use Rattle.std.specs.Str.{bytes_eq}
use Rattle.sexpr_text.specs.Forest.{Forest, nothing, word, group}
use Rattle.sexpr_text.specs.Parts.{begins_with, first_group_with, is_definition, after_first}
use Rattle.sexpr_text.specs.declared.forms.Span.{Span}

-- the parts of the first form, where it is a list
abbrev pub first_parts : Forest → Forest
first_parts nothing = nothing
first_parts (word span text rest) = nothing
first_parts (group span parts rest) = parts

-- what follows the title in a list that defines a domain or a problem, as `define (domain slip) ..`
abbrev pub after_title : Forest → Forest
after_title parts = after_first (after_first parts)

-- the sections of the first list that defines something of this kind
abbrev pub sections_of : List ℕ → Forest → Forest
sections_of kind forms =
    option_map_or (λ found. after_title found.1) (first_group_with (is_definition kind) forms) nothing

-- what stands in the first list that begins with the word, after that word
abbrev pub section_named : List ℕ → Forest → Forest
section_named w sections =
    option_map_or (λ found. after_first found.1) (first_group_with (begins_with w) sections) nothing

-- the first form with its parts, where it is a list
abbrev pub first_list : Forest → Option (Span × Forest)
first_list nothing = None
first_list (word span text rest) = None
first_list (group span parts rest) = Some (span, parts)

-- the list that follows the first word of this text, with its parts
abbrev pub list_after : List ℕ → Forest → Option (Span × Forest)
list_after w nothing = None
list_after w (word span text rest) = if bytes_eq text w then first_list rest else list_after w rest
list_after w (group span parts rest) = list_after w rest

-- its parts alone
abbrev pub parts_after : List ℕ → Forest → Forest
parts_after w row = option_map_or (λ found. found.1) (list_after w row) nothing
