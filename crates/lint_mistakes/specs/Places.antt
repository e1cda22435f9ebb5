-- Where actions and parts of conditions stand.
use Rattle.std.specs.Prelude.{ℕ, zero, suc, List, Option, None, Some, Bool, ◌&&◌, codes, if◌then◌else◌}
use Rattle.std.specs.Option.{option_map_or}
use Rattle.sexpr_text.specs.Forest.{Forest, nothing, word, group}
use Rattle.sexpr_text.specs.Parts.{begins_with, first_group_with, after_first}
use Rattle.sexpr_text.specs.declared.forms.Span.{Span}

-- whether a list with these parts is the action of this name
abbrev pub is_action : List ℕ → Forest → Bool
is_action name parts = begins_with (codes ":action") parts && begins_with name (after_first parts)

-- the parts of the first action of this name among the sections of a domain
abbrev pub action_named : List ℕ → Forest → Forest
action_named name sections =
    option_map_or (λ found. found.1) (first_group_with (is_action name) sections) nothing

-- the span of the first form
abbrev pub first_span : Forest → Option Span
first_span nothing = None
first_span (word span text rest) = Some span
first_span (group span parts rest) = Some span

-- the span of the first form; this one where there is none
abbrev pub span_or : Span → Forest → Span
span_or span row = option_map_or (λ (found : Span). found) (first_span row) span

-- what follows so many forms
abbrev pub after_forms : ℕ → Forest → Forest
after_forms zero row = row
after_forms (suc k) row = after_first (after_forms k row)

-- where the part with this number of a condition stands, which is a list with this span and these parts:
-- that of `(and ..)` a part, that of any other condition the condition
abbrev pub part_span : ℕ → Span → Forest → Span
part_span k span parts =
    if begins_with (codes "and") parts then span_or span (after_forms k (after_first parts)) else span
