-- Outcomes that are written twice.
use Rattle.std.specs.Prelude.{ℕ, Bool, true, false, ◌||◌, ◌&&◌, List, [], ◌∷◌, ◌++◌, codes, if◌then◌else◌}
use Rattle.std.specs.Str.{bytes_eq}
use Rattle.lint_mistakes.specs.Rows.{sections_of}
use Rattle.lint_mistakes.specs.declared.mistakes.Mistake.{Mistake}
use Rattle.lint_mistakes.specs.declared.mistakes.MistakeKind.TheVariants.{Copied}
use Rattle.sexpr_text.specs.Forest.{Forest, nothing, word, group}
use Rattle.sexpr_text.specs.Parts.{begins_with}
use Rattle.sexpr_text.specs.declared.forms.Span.{Span}

-- whether two rows have the same words in the same lists, wherever they stand
abbrev pub same_words : Forest → Forest → Bool
same_words nothing nothing = true
same_words nothing (word span text rest) = false
same_words nothing (group span parts rest) = false
same_words (word span text rest) nothing = false
same_words (word span text rest) (word other_span other others) =
    bytes_eq text other && same_words rest others
same_words (word span text rest) (group other_span other others) = false
same_words (group span parts rest) nothing = false
same_words (group span parts rest) (word other_span other others) = false
same_words (group span parts rest) (group other_span other others) =
    same_words parts other && same_words rest others

-- whether a list of the row has the same words as these parts
abbrev pub has_list : Forest → Forest → Bool
has_list parts nothing = false
has_list parts (word span text rest) = has_list parts rest
has_list parts (group span other rest) = same_words parts other || has_list parts rest

abbrev pub copied : Span → Mistake
copied span = record { span = span; kind = Copied }

-- the lists of a row that a later one repeats
abbrev pub repeated : Forest → List Mistake
repeated nothing = []
repeated (word span text rest) = repeated rest
repeated (group span parts rest) =
    (if has_list parts rest then copied span ∷ [] else []) ++ repeated rest

-- whether a list with these parts is a choice between outcomes
abbrev pub is_choice : Forest → Bool
is_choice parts = begins_with (codes "oneof") parts || begins_with (codes "probabilistic") parts

-- the outcomes of a choice with these parts that a later one repeats
abbrev pub choice_copies : Forest → List Mistake
choice_copies parts = if is_choice parts then repeated parts else []

-- the outcomes that a later one of the same choice repeats, of all choices in a row, at any depth
abbrev pub copies_in : Forest → List Mistake
copies_in nothing = []
copies_in (word span text rest) = copies_in rest
copies_in (group span parts rest) =
    choice_copies parts ++ copies_in parts ++ copies_in rest

-- in the text of a domain
abbrev pub copied_outcomes : Forest → List Mistake
copied_outcomes forms = copies_in (sections_of (codes "domain") forms)
