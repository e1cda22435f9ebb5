-- Private: tests of the parts of a task, as they are computed.
use Rattle.std.specs.Prelude.{ℕ, Bool, true, false, not, ◌&&◌, List, [], ◌∷◌, codes}
use Rattle.std.specs.List.{list_all, list_any}
use Rattle.std.specs.Str.{bytes_eq}
use Rattle.std.specs.Cmp.Lexicographic.{pointwise}
use Rattle.task_core.specs.Names.{Name, first_word, is_name_byte}

abbrev pub has_some : {X : Type 0} → List X → Bool
has_some [] = false
has_some (x ∷ xs) = true

abbrev pub word_passes : List ℕ → Bool
word_passes text = has_some text && list_all is_name_byte text

abbrev pub name_passes : Name → Bool
name_passes name = has_some name && list_all word_passes name

abbrev pub says_not : Name → Bool
says_not name = bytes_eq (first_word name) (codes "not")

abbrev pub fluent_name_passes : Name → Bool
fluent_name_passes name = name_passes name && not (says_not name)

abbrev pub same_name : Name → Name → Bool
same_name = pointwise bytes_eq

-- whether one of the names is this one
abbrev pub is_among : List Name → Name → Bool
is_among names name = list_any (λ other. same_name other name) names

abbrev pub all_differ : List Name → Bool
all_differ [] = true
all_differ (name ∷ names) = not (is_among names name) && all_differ names
