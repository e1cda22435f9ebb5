-- Effects that change nothing: what they make so the precondition says already.
use Rattle.std.specs.Prelude.{ℕ, Bool, true, false, ◌||◌, ◌&&◌, not, List, [], ◌∷◌, ◌++◌, codes, if◌then◌else◌}
use Rattle.std.specs.Option.{option_map_or}
use Rattle.std.specs.Str.{bytes_eq}
use Rattle.lint_mistakes.specs.Copies.{has_list, same_words}
use Rattle.lint_mistakes.specs.Rows.{first_parts, list_after, parts_after, sections_of}
use Rattle.lint_mistakes.specs.declared.mistakes.Mistake.{Mistake}
use Rattle.lint_mistakes.specs.declared.mistakes.MistakeKind.TheVariants.{Idle}
use Rattle.sexpr_text.specs.Forest.{Forest, nothing, word, group}
use Rattle.sexpr_text.specs.Parts.{begins_with, after_first}
use Rattle.sexpr_text.specs.declared.forms.Span.{Span}

-- whether a condition with these parts is, or has among its parts after `and`, the literal with
-- these parts
abbrev pub demands : Forest → Forest → Bool
demands condition literal =
    if begins_with (codes "and") condition then has_list literal (after_first condition)
    else same_words literal condition

-- whether these are the parts of a list `(not (WORD ..))`
abbrev pub is_deletion : List ℕ → Forest → Bool
is_deletion w parts =
    begins_with (codes "not") parts && begins_with w (first_parts (after_first parts))

-- whether the row has, at any depth, a list `(not (WORD ..))`
abbrev pub deletes : List ℕ → Forest → Bool
deletes w nothing = false
deletes w (word span text rest) = deletes w rest
deletes w (group span parts rest) = is_deletion w parts || deletes w parts || deletes w rest

-- whether an effect is made of effects that happen under no condition, each or one of them
abbrev pub is_row_of_effects : List ℕ → Bool
is_row_of_effects w =
    bytes_eq w (codes "and") || bytes_eq w (codes "oneof") || bytes_eq w (codes "probabilistic")

-- whether an effect has a condition or variables of its own. Nothing is said of what stands below
abbrev pub is_bound : List ℕ → Bool
is_bound w = bytes_eq w (codes "when") || bytes_eq w (codes "forall")

-- whether the literal that begins with this word and has these parts changes nothing: it deletes
-- what the precondition demands to be false; or it adds what the precondition demands, and the whole
-- effect deletes no atom of that predicate
abbrev pub is_idle : Forest → Forest → List ℕ → Forest → Bool
is_idle condition effect head literal =
    demands condition literal && (bytes_eq head (codes "not") || not (deletes head effect))

abbrev mutual
  -- the literals that change nothing in a row of effects
  pub idle_in_row : Forest → Forest → Forest → List Mistake
  idle_in_row condition effect nothing = []
  idle_in_row condition effect (word span text rest) = idle_in_row condition effect rest
  idle_in_row condition effect (group span parts rest) =
      idle_at condition effect span parts ++ idle_in_row condition effect rest

  -- in an effect with this span and these parts
  pub idle_at : Forest → Forest → Span → Forest → List Mistake
  idle_at condition effect span nothing = []
  idle_at condition effect span (group inner parts rest) = []
  idle_at condition effect span (word inner head rest) =
      if is_row_of_effects head then idle_in_row condition effect rest
      else if is_bound head then []
      else if is_idle condition effect head (word inner head rest)
      then record { span = span; kind = Idle } ∷ [] else []

-- in the effect of an action, which is the list with this span and these parts
abbrev pub idle_in_effect : Forest → Span × Forest → List Mistake
idle_in_effect condition effect = idle_at condition effect.1 effect.0 effect.1

-- in a section of a domain with these parts, if it is an action
abbrev pub idle_in_section : Forest → List Mistake
idle_in_section parts =
    if begins_with (codes ":action") parts
    then option_map_or (idle_in_effect (parts_after (codes ":precondition") parts))
    (list_after (codes ":effect") parts) []
    else []

abbrev pub idle_in_sections : Forest → List Mistake
idle_in_sections nothing = []
idle_in_sections (word span text rest) = idle_in_sections rest
idle_in_sections (group span parts rest) = idle_in_section parts ++ idle_in_sections rest

-- in the text of a domain
abbrev pub idle_effects : Forest → List Mistake
idle_effects forms = idle_in_sections (sections_of (codes "domain") forms)
