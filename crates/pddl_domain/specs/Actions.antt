-- The ninth pass over a domain's text: its actions, one after another. Each action has four parts,
-- and each part of each action is a pass of its own.
use Rattle.std.specs.Prelude.{ℕ, ◌==◌, Bool, true, false, not, if◌then◌else◌, List, [], ◌∷◌, ◌++◌}
use Rattle.std.specs.Prelude.{Option, Some, None, codes, slice_index}
use Rattle.std.specs.List.{list_any}
use Rattle.std.specs.Str.{bytes_eq}
use Rattle.sexpr_text.specs.declared.forms.Span.{Span}
use Rattle.sexpr_text.specs.declared.faults.FaultKind.{FaultKind}
use Rattle.sexpr_text.specs.declared.faults.FaultKind.TheVariants.{BadForm, DoubleName, LeftOut}
use Rattle.sexpr_text.specs.Forest.{Forest, nothing, word, group}
use Rattle.sexpr_text.specs.Flaws.{Flaw, flaw_at}
use Rattle.sexpr_text.specs.Parts.{is_name, after_first, is_nothing}
use Rattle.pddl_ast.specs.Known.{Known}
use Rattle.pddl_ast.specs.Formulas.{variables_flaws, variable_types, inner_scope, formulas_flaws}
use Rattle.pddl_ast.specs.Formulas.{formulas_of, first_formula}
use Rattle.pddl_ast.specs.Effects.{effects_flaws, effects_of, first_effect}
use Rattle.pddl_ast.specs.Trees.{SchemaTree}
use Rattle.pddl_domain.specs.declared.actions.Key.{Key}
use Rattle.pddl_domain.specs.declared.actions.Key.TheVariants.{Parameters, Precondition, Effect}
use Rattle.pddl_domain.specs.declared.actions.Key.TheVariants.{Other}
use Rattle.pddl_domain.specs.declared.sections.Section.{Section}
use Rattle.pddl_domain.specs.declared.sections.Section.TheVariants.{Action}
use Rattle.pddl_domain.specs.Sections.{section_kind}
use Rattle.pddl_domain.specs.Constants.{with_first_word}

-- what a word means where a key stands
unfoldable pub key_of : List ℕ → Key
key_of w =
    if bytes_eq w (codes ":parameters") then Parameters
    else if bytes_eq w (codes ":precondition") then Precondition
    else if bytes_eq w (codes ":effect") then Effect
    else Other

-- the forms that follow the keys of an action: each a row of that form alone, or of none where the
-- key isn't there
pub record Parts : Type 0 where
  pub parameters : Forest
  pub precondition : Forest
  pub effect : Forest

abbrev pub no_parts : Parts
no_parts = record { parameters = nothing; precondition = nothing; effect = nothing }

-- whether the key came already
abbrev pub is_given : Parts → Key → Bool
is_given parts Parameters = not (is_nothing parts.parameters)
is_given parts Precondition = not (is_nothing parts.precondition)
is_given parts Effect = not (is_nothing parts.effect)
is_given parts Other = false

-- the parts with the form that follows a key
abbrev pub with_part : Parts → Key → Forest → Parts
with_part parts Parameters form = record parts { parameters = form }
with_part parts Precondition form = record parts { precondition = form }
with_part parts Effect form = record parts { effect = form }
with_part parts Other form = parts

-- the fault of a word in a key's place that is none: one that begins with `:`, byte 58, is left out
abbrev pub no_key_fault : List ℕ → FaultKind
no_key_fault w = if slice_index w 0 == 58 then LeftOut w else BadForm

-- what is wrong with a word in a key's place, where a form follows it
abbrev pub key_flaws : Parts → Span → List ℕ → Key → List Flaw
key_flaws parts span w Other = flaw_at span (no_key_fault w) ∷ []
key_flaws parts span w key = if is_given parts key then flaw_at span BadForm ∷ [] else []

-- the same where none follows it
abbrev pub last_key_flaws : Span → List ℕ → Key → List Flaw
last_key_flaws span w Other = flaw_at span (no_key_fault w) ∷ []
last_key_flaws span w key = flaw_at span BadForm ∷ []

-- everything that is wrong in a row of keys, each with a form after it, where these parts came
-- before. After a list in a key's place the next form stands in a key's place
abbrev pub keys_flaws : Parts → Forest → List Flaw
keys_flaws parts nothing = []
keys_flaws parts (group span p rest) = flaw_at span BadForm ∷ keys_flaws parts rest
keys_flaws parts (word span w nothing) = last_key_flaws span w (key_of w)
keys_flaws parts (word span w (word s t rest)) =
    key_flaws parts span w (key_of w)
    ++ keys_flaws (with_part parts (key_of w) (word s t nothing)) rest
keys_flaws parts (word span w (group s p rest)) =
    key_flaws parts span w (key_of w)
    ++ keys_flaws (with_part parts (key_of w) (group s p nothing)) rest

-- the parts after those of a row of keys
abbrev pub parts_after : Parts → Forest → Parts
parts_after parts nothing = parts
parts_after parts (group span p rest) = parts_after parts rest
parts_after parts (word span w nothing) = parts
parts_after parts (word span w (word s t rest)) =
    parts_after (with_part parts (key_of w) (word s t nothing)) rest
parts_after parts (word span w (group s p rest)) =
    parts_after (with_part parts (key_of w) (group s p nothing)) rest

-- the parts of an action, by what follows the word `:action`: a name, and then the keys
abbrev pub parts_of : Forest → Parts
parts_of action = parts_after no_parts (after_first action)

-- what is wrong with an action's name, where actions of these names came before
abbrev pub action_name_flaws : List (List ℕ) → Span → List ℕ → List Flaw
action_name_flaws before span w =
    if not (is_name w) then flaw_at span BadForm ∷ []
    else if list_any (bytes_eq w) before then flaw_at span DoubleName ∷ []
    else []

-- what is wrong with the shape of an action, the list with this span. Without any second item it is
-- the list that is wrong
abbrev pub shape_flaws : List (List ℕ) → Span → Forest → List Flaw
shape_flaws before span nothing = flaw_at span BadForm ∷ []
shape_flaws before span (group s p rest) = flaw_at s BadForm ∷ keys_flaws no_parts rest
shape_flaws before span (word s w rest) = action_name_flaws before s w ++ keys_flaws no_parts rest

-- what is wrong with the parameters: a list of variables, each once
abbrev pub parameters_flaws : Known → Forest → List Flaw
parameters_flaws known nothing = []
parameters_flaws known (word span w rest) = flaw_at span BadForm ∷ []
parameters_flaws known (group span list rest) = variables_flaws known list

-- the parameters that are in scope in an action's precondition and effect
abbrev pub parameter_scope : Forest → List (List ℕ)
parameter_scope nothing = []
parameter_scope (word span w rest) = []
parameter_scope (group span list rest) = inner_scope [] list

abbrev pub parameter_types : Known → Forest → List ℕ
parameter_types known nothing = []
parameter_types known (word span w rest) = []
parameter_types known (group span list rest) = variable_types known list

-- what is wrong with an action, pass by pass: its shape, its parameters, its precondition, its
-- effect
abbrev pub condition_passes : Known → Parts → List (List Flaw)
condition_passes known parts =
    formulas_flaws known parts.precondition (parameter_scope parts.parameters)
    ∷ effects_flaws known parts.effect (parameter_scope parts.parameters)
    ∷ []

abbrev pub body_passes : Known → Parts → List (List Flaw)
body_passes known parts = parameters_flaws known parts.parameters ∷ condition_passes known parts

abbrev pub action_passes : Known → List (List ℕ) → Span → Forest → List (List Flaw)
action_passes known before span action =
    shape_flaws before span action ∷ body_passes known (parts_of action)

abbrev pub first_text : Forest → List ℕ
first_text nothing = []
first_text (word span w rest) = w
first_text (group span p rest) = []

-- the action that this is. Without a precondition it can always be executed; without an effect it
-- changes nothing
abbrev pub schema_of : Known → Forest → SchemaTree
schema_of known action =
    let parts = parts_of action in
    record {
      name = first_text action;
      parameters = parameter_types known parts.parameters;
      precondition = first_formula
          (formulas_of known parts.precondition (parameter_scope parts.parameters));
      effect = first_effect (effects_of known parts.effect (parameter_scope parts.parameters));
    }

-- whether a section is an action
abbrev pub is_action_section : Section → Bool
is_action_section Action = true
is_action_section _ = false

-- what follows the word `:action`, where a section with these parts begins with it
abbrev pub action_in : Forest → Option Forest
action_in nothing = None
action_in (group s p rest) = None
action_in (word s w rest) = if is_action_section (section_kind w) then Some rest else None

-- the passes over a section with this span, where it is an action; the names of the actions after
-- it; and the action that it is
abbrev pub section_passes : Known → List (List ℕ) → Span → Option Forest → List (List Flaw)
section_passes known before span None = []
section_passes known before span (Some action) = action_passes known before span action

abbrev pub names_after : List (List ℕ) → Option Forest → List (List ℕ)
names_after before None = before
names_after before (Some action) = with_first_word before action

abbrev pub section_schemas : Known → Option Forest → List SchemaTree
section_schemas known None = []
section_schemas known (Some action) = schema_of known action ∷ []

-- the passes over all actions among the sections, where actions of these names came before
abbrev pub actions_passes : Known → List (List ℕ) → Forest → List (List Flaw)
actions_passes known before nothing = []
actions_passes known before (word span w rest) = actions_passes known before rest
actions_passes known before (group span parts rest) =
    section_passes known before span (action_in parts)
    ++ actions_passes known (names_after before (action_in parts)) rest

-- all actions among the sections
abbrev pub schemas_of : Known → Forest → List SchemaTree
schemas_of known nothing = []
schemas_of known (word span w rest) = schemas_of known rest
schemas_of known (group span parts rest) =
    section_schemas known (action_in parts) ++ schemas_of known rest
