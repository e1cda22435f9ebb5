-- Objects and variables of a type that the predicate doesn't take.
use Rattle.std.specs.Prelude.{ℕ, Bool, ◌||◌, List, [], ◌∷◌, ◌++◌, Option, None, Some, codes, if◌then◌else◌}
use Rattle.std.specs.Option.{option_and_then, option_map_or}
use Rattle.std.specs.Str.{bytes_eq}
use Rattle.lint_mistakes.specs.Rows.{first_parts, parts_after, section_named, sections_of}
use Rattle.lint_mistakes.specs.TermTypes.{predicate_types, variable_type}
use Rattle.lint_mistakes.specs.Vocabularies.{VocabularyTree, is_kind, object_type}
use Rattle.lint_mistakes.specs.declared.mistakes.Mistake.{Mistake}
use Rattle.lint_mistakes.specs.declared.mistakes.MistakeKind.{MistakeKind}
use Rattle.lint_mistakes.specs.declared.mistakes.MistakeKind.TheVariants.{WrongType}
use Rattle.pddl_ast.specs.Words.{is_variable}
use Rattle.sexpr_text.specs.Forest.{Forest, nothing, word, group}
use Rattle.sexpr_text.specs.Parts.{begins_with}
use Rattle.sexpr_text.specs.declared.forms.Span.{Span}

-- a variable whose type and the declared one exclude each other: neither has the other among its
-- ancestors, so that no object is of both
abbrev pub wrong_variable : VocabularyTree → ℕ → ℕ → Option MistakeKind
wrong_variable words declared found =
    if is_kind words found declared || is_kind words declared found then None
    else Some (WrongType found declared)

-- an object that isn't of the declared type
abbrev pub wrong_object : VocabularyTree → ℕ → ℕ → Option MistakeKind
wrong_object words declared found =
    if is_kind words found declared then None else Some (WrongType found declared)

-- what is wrong with a word in the place of a term of this type, where these rows declare variables
abbrev pub wrong_kind : VocabularyTree → List Forest → List ℕ → ℕ → Option MistakeKind
wrong_kind words scope text declared =
    if is_variable text
    then option_and_then (wrong_variable words declared) (variable_type words scope text)
    else option_and_then (wrong_object words declared) (object_type words text)

-- a mistake at a word, where it is one
abbrev pub mistake_at : Span → Option MistakeKind → List Mistake
mistake_at span None = []
mistake_at span (Some kind) = record { span = span; kind = kind } ∷ []

-- the words among the terms that have a wrong type, where these types are declared
abbrev pub wrong_terms : VocabularyTree → List Forest → List ℕ → Forest → List Mistake
wrong_terms words scope [] terms = []
wrong_terms words scope (declared ∷ types) nothing = []
wrong_terms words scope (declared ∷ types) (word span text rest) =
    mistake_at span (wrong_kind words scope text declared) ++ wrong_terms words scope types rest
wrong_terms words scope (declared ∷ types) (group span parts rest) =
    wrong_terms words scope types rest

-- whether the word declares variables
abbrev pub is_quantifier : List ℕ → Bool
is_quantifier w = bytes_eq w (codes "forall") || bytes_eq w (codes "exists")

abbrev mutual
  -- the terms of a wrong type in a row, at any depth: of each list that begins with a predicate's
  -- name, where `forall` and `exists` declare variables of their own
  pub wrong_in_row : VocabularyTree → List Forest → Forest → List Mistake
  wrong_in_row words scope nothing = []
  wrong_in_row words scope (word span text rest) = wrong_in_row words scope rest
  wrong_in_row words scope (group span parts rest) =
      wrong_in_list words scope parts ++ wrong_in_row words scope rest

  -- the same in a list with these parts
  pub wrong_in_list : VocabularyTree → List Forest → Forest → List Mistake
  wrong_in_list words scope nothing = []
  wrong_in_list words scope (group span parts rest) =
      wrong_in_list words scope parts ++ wrong_in_row words scope rest
  wrong_in_list words scope (word span head rest) =
      if is_quantifier head then wrong_in_row words (scope ++ first_parts rest ∷ []) rest
      else option_map_or (λ types. wrong_terms words scope types rest) (predicate_types words head)
      (wrong_in_row words scope rest)

-- in a section of a domain: an action declares its parameters, and `:predicates` has no terms
abbrev pub wrong_in_section : VocabularyTree → Forest → List Mistake
wrong_in_section words parts =
    if begins_with (codes ":predicates") parts then []
    else wrong_in_row words (parts_after (codes ":parameters") parts ∷ []) parts

-- in all sections
abbrev pub wrong_in_sections : VocabularyTree → Forest → List Mistake
wrong_in_sections words nothing = []
wrong_in_sections words (word span text rest) = wrong_in_sections words rest
wrong_in_sections words (group span parts rest) =
    wrong_in_section words parts ++ wrong_in_sections words rest

-- in the text of a domain
abbrev pub wrong_types_in_domain : VocabularyTree → Forest → List Mistake
wrong_types_in_domain words forms = wrong_in_sections words (sections_of (codes "domain") forms)

-- in the text of a problem: its facts and its goals
abbrev pub wrong_types_in_problem : VocabularyTree → Forest → List Mistake
wrong_types_in_problem words forms = let sections = sections_of (codes "problem") forms in
    wrong_in_row words [] (section_named (codes ":init") sections)
    ++ wrong_in_row words [] (section_named (codes ":goal") sections)
    ++ wrong_in_row words [] (section_named (codes ":ctl-goal") sections)
