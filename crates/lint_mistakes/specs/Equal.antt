-- Parameters that may stand for one object, where an effect then deletes and adds the same atom.
use Rattle.std.specs.Prelude.{ℕ, Bool, true, false, ◌||◌, ◌&&◌, not, List, [], ◌∷◌, ◌++◌, Option, None, Some, codes, if◌then◌else◌}
use Rattle.std.specs.Option.{option_and_then, option_map_or, option_or}
use Rattle.std.specs.Str.{bytes_eq}
use Rattle.lint_mistakes.specs.Rows.{first_parts, parts_after, sections_of}
use Rattle.lint_mistakes.specs.TermTypes.{declared_type}
use Rattle.lint_mistakes.specs.Vocabularies.{VocabularyTree, is_kind}
use Rattle.lint_mistakes.specs.declared.mistakes.Mistake.{Mistake}
use Rattle.lint_mistakes.specs.declared.mistakes.MistakeKind.TheVariants.{MayBeEqual}
use Rattle.sexpr_text.specs.Forest.{Forest, nothing, word, group}
use Rattle.sexpr_text.specs.Parts.{begins_with, after_first}
use Rattle.sexpr_text.specs.declared.forms.Span.{Span}

-- two words, each with its span
pub record WordPair : Type 0 where
  pub kept : List ℕ
  pub other : List ℕ
  pub kept_span : Span
  pub other_span : Span

-- an action: what the words of both files mean, and the forms of its parameters and its precondition
pub record ActionRows : Type 0 where
  pub words : VocabularyTree
  pub parameters : Forest
  pub condition : Forest

-- whether these are the two words of the pair, in their order
abbrev pub are_words : WordPair → List ℕ → List ℕ → Bool
are_words pair text other = bytes_eq text pair.kept && bytes_eq other pair.other

-- whether two words are the same, or the two words of the pair
abbrev pub is_same_under : WordPair → List ℕ → List ℕ → Bool
is_same_under pair text other =
    bytes_eq text other || are_words pair text other || are_words pair other text

-- whether two rows have the same words in the same lists, where both words of the pair count as one
abbrev pub same_under : WordPair → Forest → Forest → Bool
same_under pair nothing nothing = true
same_under pair nothing (word span text rest) = false
same_under pair nothing (group span parts rest) = false
same_under pair (word span text rest) nothing = false
same_under pair (word span text rest) (word other_span other others) =
    is_same_under pair text other && same_under pair rest others
same_under pair (word span text rest) (group other_span other others) = false
same_under pair (group span parts rest) nothing = false
same_under pair (group span parts rest) (word other_span other others) = false
same_under pair (group span parts rest) (group other_span other others) =
    same_under pair parts other && same_under pair rest others

-- whether a word stands in the row, at any depth
abbrev pub has_word : List ℕ → Forest → Bool
has_word w nothing = false
has_word w (word span text rest) = bytes_eq text w || has_word w rest
has_word w (group span parts rest) = has_word w parts || has_word w rest

-- whether a list with the other parts has the same words as the parts, where the pair counts as one, and
-- doesn't name the second word of the pair
abbrev pub is_alike : WordPair → Forest → Forest → Bool
is_alike pair parts other = not (has_word pair.other other) && same_under pair parts other

-- whether the row has such a list
abbrev pub has_alike : WordPair → Forest → Forest → Bool
has_alike pair parts nothing = false
has_alike pair parts (word span text rest) = has_alike pair parts rest
has_alike pair parts (group span other rest) =
    is_alike pair parts other || has_alike pair parts rest

-- whether the part of a condition says nothing of the second word that the condition doesn't say of the
-- first
abbrev pub says_no_more : WordPair → Forest → Forest → Bool
says_no_more pair parts row = not (has_word pair.other parts) || has_alike pair parts row

-- the same for each list of a row
abbrev pub each_says_no_more : WordPair → Forest → Forest → Bool
each_says_no_more pair nothing row = true
each_says_no_more pair (word span text rest) row = each_says_no_more pair rest row
each_says_no_more pair (group span parts rest) row =
    says_no_more pair parts row && each_says_no_more pair rest row

-- whether the condition with these parts holds with one object for both words wherever it holds of the
-- first: what it says of the second word it says of the first, too. So nothing in it keeps them apart
abbrev pub leaves_equal : WordPair → Forest → Bool
leaves_equal pair condition =
    if begins_with (codes "and") condition
    then each_says_no_more pair (after_first condition) (after_first condition)
    else not (has_word pair.other condition)

-- the first words in which two rows of words differ
abbrev pub difference : Forest → Forest → Option WordPair
difference nothing others = None
difference (group span parts rest) others = None
difference (word span text rest) nothing = None
difference (word span text rest) (group other_span other others) = None
difference (word span text rest) (word other_span other others) =
    if bytes_eq text other then difference rest others
    else Some (record {
      kept = text;
      other = other;
      kept_span = span;
      other_span = other_span;
    })

-- whether an object may be of both types
abbrev pub are_related : VocabularyTree → ℕ → ℕ → Bool
are_related words t u = is_kind words t u || is_kind words u t

-- whether both words are parameters, and an object may be both
abbrev pub may_be_one : ActionRows → WordPair → Bool
may_be_one action pair =
    option_map_or (λ t. option_map_or (are_related action.words t)
    (declared_type action.words action.parameters pair.other) false)
    (declared_type action.words action.parameters pair.kept) false

-- whether the atoms with these parts are one atom, where the pair stands for one object and the
-- precondition allows that
abbrev pub is_undone : ActionRows → Forest → Forest → WordPair → Bool
is_undone action deleted added pair =
    same_under pair added deleted && may_be_one action pair && leaves_equal pair action.condition

abbrev pub if_undone : ActionRows → Forest → Forest → WordPair → Option WordPair
if_undone action deleted added pair = if is_undone action deleted added pair then Some pair else None

abbrev pub undone_by : ActionRows → Forest → Forest → Option WordPair
undone_by action deleted added = option_and_then (if_undone action deleted added) (difference deleted added)

-- whether an effect deletes, or has a condition or variables of its own. Nothing is said of what stands
-- in it
abbrev pub is_closed : Forest → Bool
is_closed parts =
    begins_with (codes "not") parts || begins_with (codes "when") parts
    || begins_with (codes "forall") parts

-- the pair by which an effect of the row, at any depth, undoes a deletion
abbrev pub undone_in : ActionRows → Forest → Forest → Option WordPair
undone_in action deleted nothing = None
undone_in action deleted (word span text rest) = undone_in action deleted rest
undone_in action deleted (group span parts rest) =
    option_or (undone_by action deleted parts)
    (option_or (if is_closed parts then None else undone_in action deleted parts)
    (undone_in action deleted rest))

abbrev pub equal_at : Span → WordPair → List Mistake
equal_at span pair =
    record { span = span; kind = MayBeEqual pair.kept_span pair.other_span } ∷ []

-- an effect with these parts, if it deletes and the row may undo that
abbrev pub undone_deletion : ActionRows → Forest → Span → Forest → List Mistake
undone_deletion action row span parts =
    if begins_with (codes "not") parts
    then option_map_or (equal_at span) (undone_in action (first_parts (after_first parts)) row) []
    else []

-- the effects that delete what the row may undo
abbrev pub undone_deletions : ActionRows → Forest → Forest → List Mistake
undone_deletions action row nothing = []
undone_deletions action row (word span text rest) = undone_deletions action row rest
undone_deletions action row (group span parts rest) =
    undone_deletion action row span parts ++ undone_deletions action row rest

-- the same for the effects that a list with these parts joins by `and`
abbrev pub joined_mistakes : ActionRows → Forest → List Mistake
joined_mistakes action parts =
    if begins_with (codes "and") parts
    then undone_deletions action (after_first parts) (after_first parts) else []

abbrev mutual
  -- the same in a row of effects, at any depth
  pub equal_in_row : ActionRows → Forest → List Mistake
  equal_in_row action nothing = []
  equal_in_row action (word span text rest) = equal_in_row action rest
  equal_in_row action (group span parts rest) =
      equal_in_effect action parts ++ equal_in_row action rest

  -- in an effect with these parts
  pub equal_in_effect : ActionRows → Forest → List Mistake
  equal_in_effect action nothing = []
  equal_in_effect action (group span parts rest) = []
  equal_in_effect action (word span head rest) =
      if is_closed (word span head rest) then []
      else joined_mistakes action (word span head rest) ++ equal_in_row action rest

abbrev pub action_rows : VocabularyTree → Forest → ActionRows
action_rows words parts = record {
  words = words;
  parameters = parts_after (codes ":parameters") parts;
  condition = parts_after (codes ":precondition") parts;
}

-- in a section of a domain with these parts, if it is an action
abbrev pub equal_in_section : VocabularyTree → Forest → List Mistake
equal_in_section words parts =
    if begins_with (codes ":action") parts
    then equal_in_effect (action_rows words parts) (parts_after (codes ":effect") parts) else []

abbrev pub equal_in_sections : VocabularyTree → Forest → List Mistake
equal_in_sections words nothing = []
equal_in_sections words (word span text rest) = equal_in_sections words rest
equal_in_sections words (group span parts rest) =
    equal_in_section words parts ++ equal_in_sections words rest

-- in the text of a domain
abbrev pub equal_parameters : VocabularyTree → Forest → List Mistake
equal_parameters words forms = equal_in_sections words (sections_of (codes "domain") forms)
