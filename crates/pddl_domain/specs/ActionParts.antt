-- Private: what the reader of an action's parts holds, and in which order it meets the flaws of
-- passes.
use Rattle.std.specs.Prelude.{ℕ, List, [], ◌∷◌, ◌++◌, Option, Some, None}
use Rattle.sexpr_text.specs.declared.forms.Span.{Span}
use Rattle.sexpr_text.specs.declared.parts.View.{View}
use Rattle.sexpr_text.specs.Forest.{Forest, nothing, word, group}
use Rattle.sexpr_text.specs.Flaws.{Flaw}
use Rattle.sexpr_text.specs.Heads.{view_then}
use Rattle.pddl_ast.specs.Known.{Known}
use Rattle.pddl_ast.specs.Trees.{SchemaTree}
use Rattle.pddl_domain.specs.declared.actions.ActionParts.{ActionParts}
use Rattle.pddl_domain.specs.Actions.{Parts, action_in, names_after, section_passes}
use Rattle.pddl_domain.specs.Actions.{section_schemas}

-- a form alone, or none
abbrev pub row_of : Option View → Forest
row_of None = nothing
row_of (Some view) = view_then view nothing

abbrev pub parts_value : ActionParts → Parts
parts_value p =
    record {
      parameters = row_of p.parameters;
      precondition = row_of p.precondition;
      effect = row_of
          p.effect;
    }

-- the flaws of several passes, those of the first pass first. Where each pass lists its flaws in
-- the order of the text, the first of them all is the fault of these passes
abbrev pub in_turn : List (List Flaw) → List Flaw
in_turn [] = []
in_turn (flaws ∷ passes) = flaws ++ in_turn passes

-- the flaws of a section, where it is an action; the names of the actions after it; and the action
-- that it is
unfoldable pub section_flaws : Known → List (List ℕ) → Span → Forest → List Flaw
section_flaws known before span parts = in_turn (section_passes known before span (action_in parts))

unfoldable pub section_names : List (List ℕ) → Forest → List (List ℕ)
section_names before parts = names_after before (action_in parts)

unfoldable pub section_actions : Known → Forest → List SchemaTree
section_actions known parts = section_schemas known (action_in parts)

-- the flaws of all actions among the sections, those of each action pass by pass; and all actions
abbrev pub actions_flaws : Known → List (List ℕ) → Forest → List Flaw
actions_flaws known before nothing = []
actions_flaws known before (word span w rest) = actions_flaws known before rest
actions_flaws known before (group span parts rest) =
    section_flaws known before span parts ++ actions_flaws known (section_names before parts) rest

abbrev pub all_actions : Known → Forest → List SchemaTree
all_actions known nothing = []
all_actions known (word span w rest) = all_actions known rest
all_actions known (group span parts rest) = section_actions known parts ++ all_actions known rest
