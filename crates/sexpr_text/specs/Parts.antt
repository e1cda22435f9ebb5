-- Forms with their places, one after the other: what readers ask of a row of forms.
use Rattle.std.specs.Prelude.{ℕ, ◌==◌, Bool, true, false, ◌&&◌, not, if◌then◌else◌, List, [], ◌∷◌}
use Rattle.std.specs.Prelude.{◌++◌, Option, Some, None, codes, slice_index}
use Rattle.std.specs.Option.{option_and_then}
use Rattle.std.specs.Str.{bytes_eq}
use Rattle.sexpr_text.specs.declared.forms.Span.{Span}
use Rattle.sexpr_text.specs.declared.faults.FaultKind.TheVariants.{BadForm}
use Rattle.sexpr_text.specs.Forest.{Forest, nothing, word, group}
use Rattle.sexpr_text.specs.Flaws.{Flaw, flaw_at}

-- whether there is no form
abbrev pub is_nothing : Forest → Bool
is_nothing nothing = true
is_nothing (word span text rest) = false
is_nothing (group span parts rest) = false

-- whether there is exactly one form
abbrev pub is_one : Forest → Bool
is_one nothing = false
is_one (word span text rest) = is_nothing rest
is_one (group span parts rest) = is_nothing rest

-- a word that is the whole row, with its span
abbrev pub only_word : Forest → Option (Span × List ℕ)
only_word nothing = None
only_word (word span text rest) = if is_nothing rest then Some (span, text) else None
only_word (group span parts rest) = None

-- the span and the parts of a group that is the whole row
abbrev pub only_group : Forest → Option (Span × Forest)
only_group nothing = None
only_group (word span text rest) = None
only_group (group span parts rest) = if is_nothing rest then Some (span, parts) else None

-- whether the first form is this word
abbrev pub begins_with : List ℕ → Forest → Bool
begins_with w nothing = false
begins_with w (word span text rest) = bytes_eq text w
begins_with w (group span parts rest) = false

-- what follows the first form
abbrev pub after_first : Forest → Forest
after_first nothing = nothing
after_first (word span text rest) = rest
after_first (group span parts rest) = rest

-- what follows this word, where the row begins with it
abbrev pub after_word : List ℕ → Forest → Option Forest
after_word w row = if begins_with w row then Some (after_first row) else None

-- `WORD (PARTS ..)`, as `not (at a)`: the span and the parts of the group that is all that follows
-- the word
abbrev pub group_after : List ℕ → Forest → Option (Span × Forest)
group_after w row = option_and_then only_group (after_word w row)

-- the first group of the row whose parts pass the test
abbrev pub first_group_with : (Forest → Bool) → Forest → Option (Span × Forest)
first_group_with test nothing = None
first_group_with test (word span text rest) = first_group_with test rest
first_group_with test (group span parts rest) =
    if test parts then Some (span, parts) else first_group_with test rest

-- a name is a word that is not `-` and does not begin with `?` or `:`
abbrev pub is_name : List ℕ → Bool
is_name text =
    not (bytes_eq text (codes "-")) && not (slice_index text 0 == 63)
    && not (slice_index text 0 == 58)

-- `KIND NAME`, as `domain slip`
abbrev pub is_titled : List ℕ → Forest → Bool
is_titled kind nothing = false
is_titled kind (group span parts rest) = false
is_titled kind (word span text nothing) = false
is_titled kind (word span text (group s parts rest)) = false
is_titled kind (word span text (word s title rest)) =
    bytes_eq text kind && is_name title && is_nothing rest

-- `define (KIND NAME) ..`
abbrev pub is_definition : List ℕ → Forest → Bool
is_definition kind nothing = false
is_definition kind (group span parts rest) = false
is_definition kind (word span text nothing) = false
is_definition kind (word span text (word s title rest)) = false
is_definition kind (word span text (group s parts rest)) =
    bytes_eq text (codes "define") && is_titled kind parts

-- the flaws of a row in which each form is to be a group: each word is BadForm at it, and each
-- group has the flaws that the function lists of its span and its parts
abbrev pub flaws_of_groups : (Span → Forest → List Flaw) → Forest → List Flaw
flaws_of_groups flaws nothing = []
flaws_of_groups flaws (word span text rest) = flaw_at span BadForm ∷ flaws_of_groups flaws rest
flaws_of_groups flaws (group span parts rest) = flaws span parts ++ flaws_of_groups flaws rest

-- what each group of a row stands for, by its parts, in order
abbrev pub each_group : {X : Type 0} → (Forest → X) → Forest → List X
each_group tree nothing = []
each_group tree (word span text rest) = each_group tree rest
each_group tree (group span parts rest) = tree parts ∷ each_group tree rest

-- words alone, with any places: their texts
abbrev pub texts_of : Forest → List (List ℕ)
texts_of nothing = []
texts_of (word span text rest) = text ∷ texts_of rest
texts_of (group span parts rest) = texts_of rest

-- whether there are only words
abbrev pub are_words : Forest → Bool
are_words nothing = true
are_words (word span text rest) = are_words rest
are_words (group span parts rest) = false
