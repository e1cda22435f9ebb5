-- The types of variables and of the terms of predicates.
use Rattle.std.specs.Prelude.{ℕ, List, [], ◌∷◌, Option, Some, None, if◌then◌else◌}
use Rattle.std.specs.Option.{option_map, option_or}
use Rattle.std.specs.Str.{bytes_eq}
use Rattle.lint_mistakes.specs.Vocabularies.{VocabularyTree, type_number}
use Rattle.pddl_ast.specs.Words.{is_dash, is_variable}
use Rattle.sexpr_text.specs.Forest.{Forest, nothing, word, group}
use Rattle.sexpr_text.specs.Parts.{begins_with, first_group_with, after_first}

-- the type that the first form names; `object` where it is no word
abbrev pub first_type : VocabularyTree → Forest → ℕ
first_type words nothing = 0
first_type words (word span name rest) = type_number words name
first_type words (group span parts rest) = 0

-- the type of a name before these forms: the one after the next `-`, or `object` without one
abbrev pub type_after : VocabularyTree → Forest → ℕ
type_after words nothing = 0
type_after words (word span text rest) =
    if is_dash text then first_type words rest else type_after words rest
type_after words (group span parts rest) = type_after words rest

-- the type of the variable of this name among those that the row declares, as ?x ?y - room
abbrev pub declared_type : VocabularyTree → Forest → List ℕ → Option ℕ
declared_type words nothing name = None
declared_type words (word span text rest) name =
    if bytes_eq text name then Some (type_after words rest) else declared_type words rest name
declared_type words (group span parts rest) name = declared_type words rest name

-- the type of the variable of this name where these rows declare variables, the innermost last
abbrev pub variable_type : VocabularyTree → List Forest → List ℕ → Option ℕ
variable_type words [] name = None
variable_type words (row ∷ rows) name =
    option_or (variable_type words rows name) (declared_type words row name)

-- the types of the variables of a row, in order
abbrev pub term_types : VocabularyTree → Forest → List ℕ
term_types words nothing = []
term_types words (word span text rest) =
    if is_variable text then type_after words rest ∷ term_types words rest else term_types words rest
term_types words (group span parts rest) = term_types words rest

-- the types of the terms of the predicate of this name, as it is declared; none where none has it
abbrev pub predicate_types : VocabularyTree → List ℕ → Option (List ℕ)
predicate_types words name =
    option_map (λ found. term_types words (after_first found.1))
    (first_group_with (begins_with name) words.predicates)
