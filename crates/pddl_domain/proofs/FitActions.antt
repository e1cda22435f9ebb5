-- The actions of a domain that is read fit.
use Rattle.std.proofs.Common.{◌≡◌, ℕ, ◌+◌, ◌<◌, ◌≤◌, Bool, true, false, not, List, [], ◌∷◌, ◌++◌, map, length, refl, sym, ◌∙◌, ap, subst, arith, All, Option, Some, None, append_assoc, if◌then◌else◌}
use Rattle.std.specs.List.{list_any}
use Rattle.std.specs.Str.{bytes_eq}
use Rattle.std.specs.Option.{option_map, option_map_or, option_and_then}
use Rattle.std.proofs.lemmas.List.{append-nil}
use Rattle.std.proofs.lemmas.List.Elements.{All-nil, All-cons, All-append}
use Rattle.sexpr_text.specs.declared.forms.Span.{Span}
use Rattle.sexpr_text.specs.declared.faults.FaultKind.TheVariants.{BadForm, DoubleName}
use Rattle.sexpr_text.specs.Forest.{Forest, nothing, word, group}
use Rattle.sexpr_text.specs.Formed.{nesting_of}
use Rattle.sexpr_text.specs.Flaws.{flaw_at}
use Rattle.sexpr_text.specs.Parts.{is_name, first_group_with, after_first, begins_with}
use Rattle.pddl_ast.specs.Known.{Known}
use Rattle.pddl_ast.specs.Trees.{SchemaTree}
use Rattle.pddl_ast.specs.Depth.{formula_depth, effect_depth}
use Rattle.pddl_ast.specs.Fits.{AreDistinct, AreTypes, IsKnown, FitsFormula, FitsEffect, FitsSchema}
use Rattle.pddl_ast.specs.TypedLists.{typed_groups}
use Rattle.pddl_ast.specs.Formulas.{formulas_flaws, formulas_of, first_formula}
use Rattle.pddl_ast.specs.Effects.{effects_flaws, effects_of, first_effect}
use Rattle.pddl_ast.proofs.Fitting.{no_first, no_second, where_false, types-within, types-length}
use Rattle.pddl_domain.specs.declared.actions.Key.{Key}
use Rattle.pddl_domain.specs.declared.actions.Key.TheVariants.{Parameters, Precondition, Effect, Other}
use Rattle.pddl_ast.specs.Definitions.{title_of}
use Rattle.pddl_domain.specs.Sections.{name_and_sections, section_kind, section_named}
use Rattle.pddl_domain.specs.Constants.{with_first_word}
use Rattle.pddl_domain.specs.ActionParts.{in_turn}
use Rattle.pddl_domain.specs.Actions as act
use Rattle.pddl_domain.proofs.PassLemmas.{in_turn-append}
use Rattle.pddl_domain.proofs.FitTypes.{distinct-push}

-- what is known of formulas and effects without flaws
pub record TreeLaws : Type 0 where
  pub formulas : (known : Known) (row : Forest) (scope : List (List ℕ)) → IsKnown known → formulas_flaws known row scope ≡ []
      → FitsFormula known (first_formula (formulas_of known row scope)) (length scope) × (formula_depth (first_formula (formulas_of known row scope)) ≤ 1 + nesting_of row)
  pub effects : (known : Known) (row : Forest) (scope : List (List ℕ)) → IsKnown known → effects_flaws known row scope ≡ []
      → FitsEffect known (first_effect (effects_of known row scope)) (length scope) × (effect_depth (first_effect (effects_of known row scope)) ≤ 1 + nesting_of row)

-- how deep the parts of an action are
pub record PartsNest (n : ℕ) (parts : act.Parts) : Type 0 where
  pub precondition : nesting_of parts.precondition ≤ n
  pub effect : nesting_of parts.effect ≤ n

nest-with_part : (n : ℕ) (parts : act.Parts) (key : Key) (form : Forest) → PartsNest n parts → nesting_of form ≤ n → PartsNest n (act.with_part parts key form)
nest-with_part n parts Parameters form h g = record { precondition = h.precondition; effect = h.effect }
nest-with_part n parts Precondition form h g = record { precondition = g; effect = h.effect }
nest-with_part n parts Effect form h g = record { precondition = h.precondition; effect = g }
nest-with_part n parts Other form h g = h

nest-parts_after : (row : Forest) (parts : act.Parts) (n : ℕ) → PartsNest n parts → nesting_of row ≤ n → PartsNest n (act.parts_after parts row)
nest-parts_after nothing parts n h g = h
nest-parts_after (group span p rest) parts n h g =
    let rest_in : nesting_of rest ≤ n = omega arith in
    nest-parts_after rest parts n h rest_in
nest-parts_after (word span w nothing) parts n h g = h
nest-parts_after (word span w (word s t rest)) parts n h g =
    nest-parts_after rest (act.with_part parts (act.key_of w) (word s t nothing)) n (nest-with_part n parts (act.key_of w) (word s t nothing) h (omega arith)) g
nest-parts_after (word span w (group s p rest)) parts n h g =
    let rest_in : nesting_of rest ≤ n = omega arith in
    let form_in : nesting_of (group s p nothing) ≤ n = omega arith in
    nest-parts_after rest (act.with_part parts (act.key_of w) (group s p nothing)) n (nest-with_part n parts (act.key_of w) (group s p nothing) h form_in) rest_in

nest-after_first : (action : Forest) → nesting_of (after_first action) ≤ nesting_of action
nest-after_first nothing = omega arith
nest-after_first (word s w rest) = omega arith
nest-after_first (group s p rest) = omega arith

nest-parts_of : (action : Forest) (n : ℕ) → nesting_of action ≤ n → PartsNest n (act.parts_of action)
nest-parts_of action n h =
    let less = nest-after_first action in
    nest-parts_after (after_first action) act.no_parts n (record { precondition = omega arith; effect = omega arith }) (omega (arith, less))

-- an action
not_false : (b : Bool) → not b ≡ false → b ≡ true
not_false true h = refl
not_false false h = absurd (cc)

pub record NameFits (before : List (List ℕ)) (action : Forest) : Type 0 where
  pub name : is_name (act.first_text action) ≡ true
  pub new : list_any (bytes_eq (act.first_text action)) before ≡ false
  pub after : with_first_word before action ≡ before ++ act.first_text action ∷ []

name-fits : (before : List (List ℕ)) (span : Span) (action : Forest) → act.shape_flaws before span action ≡ [] → NameFits before action
name-fits before span nothing h = absurd (cc)
name-fits before span (group s p rest) h = absurd (cc)
name-fits before span (word s w rest) h =
    let flaws = no_first (act.action_name_flaws before s w) (act.keys_flaws act.no_parts rest) h in
    let name = where_false (flaw_at s BadForm) (if list_any (bytes_eq w) before then flaw_at s DoubleName ∷ [] else []) (not (is_name w)) flaws in
    let new = where_false (flaw_at s DoubleName) [] (list_any (bytes_eq w) before) name.1 in
    record { name = not_false (is_name w) name.0; new = new.0; after = refl }

parameters-fit : (known : Known) (form : Forest) → 0 < length known.types → AreTypes known (act.parameter_types known form)
parameters-fit known nothing some = All-nil (λ t. t < length known.types)
parameters-fit known (word span w rest) some = All-nil (λ t. t < length known.types)
parameters-fit known (group span list rest) some = types-within known.types (typed_groups list) some

parameters-counted : (known : Known) (form : Forest) → length (act.parameter_scope form) ≡ length (act.parameter_types known form)
parameters-counted known nothing = refl
parameters-counted known (word span w rest) = refl
parameters-counted known (group span list rest) = sym (types-length known.types (typed_groups list))

pub action-fits : TreeLaws → (known : Known) (before : List (List ℕ)) (span : Span) (action : Forest) → IsKnown known → nesting_of action ≤ 199
    → in_turn (act.action_passes known before span action) ≡ [] → NameFits before action × FitsSchema known (act.schema_of known action)
action-fits laws known before span action ok nest h =
    let parts = act.parts_of action in
    let scope = act.parameter_scope parts.parameters in
    let shape = act.shape_flaws before span action in
    let body = in_turn (act.body_passes known parts) in
    let conditions = in_turn (act.condition_passes known parts) in
    let pre = formulas_flaws known parts.precondition scope in
    let eff = effects_flaws known parts.effect scope in
    let body_none : body ≡ [] = no_second shape body h in
    let conditions_none : conditions ≡ [] = no_second (act.parameters_flaws known parts.parameters) conditions body_none in
    let pre_none : pre ≡ [] = no_first pre (eff ++ []) conditions_none in
    let eff_none : eff ≡ [] = no_first eff [] (no_second pre (eff ++ []) conditions_none) in
    let name = name-fits before span action (no_first shape body h) in
    let deep = nest-parts_of action 199 nest in
    let f = laws.formulas known parts.precondition scope ok pre_none in
    let e = laws.effects known parts.effect scope ok eff_none in
    let counted = parameters-counted known parts.parameters in
    let pre_deep = deep.precondition in
    let eff_deep = deep.effect in
    let f_deep = f.1 in
    let e_deep = e.1 in (
      name,
      record {
        name = name.name;
        parameters = parameters-fit known parts.parameters ok.some_type;
        precondition = subst (FitsFormula known (first_formula (formulas_of known parts.precondition scope))) counted f.0;
        effect = subst (FitsEffect known (first_effect (effects_of known parts.effect scope))) counted e.0;
        precondition_depth = omega (arith, pre_deep, f_deep);
        effect_depth = omega (arith, eff_deep, e_deep);
      },
    )

abbrev pub schema_names : List SchemaTree → List (List ℕ)
schema_names = map (λ (s : SchemaTree). s.name)

-- a section that may be an action
abbrev pub ActionNests : ℕ → Option Forest → Type 0
ActionNests n None = Unit {0}
ActionNests n (Some action) = nesting_of action ≤ n

chosen : (n : ℕ) (b : Bool) (action : Forest) → nesting_of action ≤ n → ActionNests n (if b then Some action else None)
chosen n true action h = h
chosen n false action h = tt

nest-action_in : (n : ℕ) (parts : Forest) → nesting_of parts ≤ n → ActionNests n (act.action_in parts)
nest-action_in n nothing h = tt
nest-action_in n (group s p rest) h = tt
nest-action_in n (word s w rest) h = chosen n (act.is_action_section (section_kind w)) rest h

pub record SectionFits (known : Known) (before : List (List ℕ)) (o : Option Forest) : Type 0 where
  pub schemas : All (FitsSchema known) (act.section_schemas known o)
  pub names : act.names_after before o ≡ before ++ schema_names (act.section_schemas known o)
  pub distinct : AreDistinct before → AreDistinct (act.names_after before o)

section-fits : TreeLaws → (known : Known) (before : List (List ℕ)) (span : Span) (o : Option Forest) → IsKnown known → ActionNests 199 o
    → in_turn (act.section_passes known before span o) ≡ [] → SectionFits known before o
section-fits laws known before span None ok nest h = record { schemas = All-nil (FitsSchema known); names = sym (append-nil before); distinct = λ d. d }
section-fits laws known before span (Some action) ok nest h =
    let fits = action-fits laws known before span action ok nest h in
    record {
      schemas = All-cons (FitsSchema known) (act.schema_of known action) [] fits.1 (All-nil (FitsSchema known));
      names = fits.0.after;
      distinct = λ d. subst AreDistinct (sym fits.0.after) (distinct-push before (act.first_text action) d fits.0.new);
    }

pub record ActionsFit (known : Known) (before : List (List ℕ)) (forms : Forest) : Type 0 where
  pub schemas : All (FitsSchema known) (act.schemas_of known forms)
  pub distinct : AreDistinct before → AreDistinct (before ++ schema_names (act.schemas_of known forms))

names-append : (ss ts : List SchemaTree) → schema_names (ss ++ ts) ≡ schema_names ss ++ schema_names ts
names-append [] ts = refl
names-append (s ∷ ss) ts = ap (λ ns. s.name ∷ ns) (names-append ss ts)

pub actions-fit : TreeLaws → (forms : Forest) (known : Known) (before : List (List ℕ)) → IsKnown known → nesting_of forms ≤ 200
    → in_turn (act.actions_passes known before forms) ≡ [] → ActionsFit known before forms
actions-fit laws nothing known before ok nest h =
    record { schemas = All-nil (FitsSchema known); distinct = λ d. subst AreDistinct (sym (append-nil before)) d }
actions-fit laws (word span w rest) known before ok nest h = let r = actions-fit laws rest known before ok nest h in record { schemas = r.schemas; distinct = r.distinct }
actions-fit laws (group span parts rest) known before ok nest h =
    let o = act.action_in parts in
    let here = act.section_passes known before span o in
    let after = act.names_after before o in
    let later = act.actions_passes known after rest in
    let split : in_turn here ++ in_turn later ≡ [] = sym (in_turn-append here later) ∙ h in
    let parts_in : nesting_of parts ≤ 199 = omega arith in
    let rest_in : nesting_of rest ≤ 200 = omega arith in
    let one = section-fits laws known before span o ok (nest-action_in 199 parts parts_in) (no_first (in_turn here) (in_turn later) split) in
    let more = actions-fit laws rest known after ok rest_in (no_second (in_turn here) (in_turn later) split) in
    let ss = act.section_schemas known o in
    let ts = act.schemas_of known rest in
    record {
      schemas = All-append (FitsSchema known) ss ts one.schemas more.schemas;
      distinct = λ d.
          let all : AreDistinct (after ++ schema_names ts) = more.distinct (one.distinct d) in
          let same : after ++ schema_names ts ≡ before ++ schema_names (ss ++ ts) =
          ap (λ ns. ns ++ schema_names ts) one.names
          ∙ (append_assoc before (schema_names ss) (schema_names ts) ∙ ap (λ ns. before ++ ns) (sym (names-append ss ts))) in
          subst AreDistinct same all;
    }

-- how deep the sections are
abbrev pub GroupNests : ℕ → Option (Span × Forest) → Type 0
GroupNests n None = Unit {0}
GroupNests n (Some g) = nesting_of g.1 ≤ n

pick : (n : ℕ) (b : Bool) (span : Span) (parts : Forest) (o : Option (Span × Forest)) → nesting_of parts ≤ n → GroupNests n o → GroupNests n (if b then Some (span, parts) else o)
pick n true span parts o h g = h
pick n false span parts o h g = g

nest-first_group : (test : Forest → Bool) (forms : Forest) (n : ℕ) → nesting_of forms ≤ n → GroupNests n (first_group_with test forms)
nest-first_group test nothing n h = tt
nest-first_group test (word span w rest) n h = nest-first_group test rest n h
nest-first_group test (group span parts rest) n h =
    let inner : nesting_of parts ≤ n = omega arith in
    let others : nesting_of rest ≤ n = omega arith in
    pick n (test parts) span parts (first_group_with test rest) inner (nest-first_group test rest n others)

nest-first_items : (n : ℕ) (o : Option (Span × Forest)) → GroupNests n o → nesting_of (option_map_or (λ (g : Span × Forest). after_first g.1) o nothing) ≤ n
nest-first_items n None h = omega arith
nest-first_items n (Some g) h = let less = nest-after_first g.1 in omega (arith, less, h)

pub nest-section : (w : List ℕ) (sections : Forest) (n : ℕ) → nesting_of sections ≤ n → nesting_of (section_named w sections) ≤ n
nest-section w sections n h = nest-first_items n (first_group_with (begins_with w) sections) (nest-first_group (begins_with w) sections n h)

abbrev pub DefinitionNests : ℕ → Option (List ℕ × Forest) → Type 0
DefinitionNests n None = Unit {0}
DefinitionNests n (Some d) = nesting_of d.1 ≤ n

with-sections : (n : ℕ) (o : Option (List ℕ)) (s : Forest) → nesting_of s ≤ n → DefinitionNests n (option_map (λ (name : List ℕ). (name, s)) o)
with-sections n None s h = tt
with-sections n (Some name) s h = h

nest-parts : (n : ℕ) (parts : Forest) → nesting_of parts ≤ n → DefinitionNests n (name_and_sections parts)
nest-parts n nothing h = tt
nest-parts n (group span parts rest) h = tt
nest-parts n (word span w nothing) h = tt
nest-parts n (word span w (word s t rest)) h = tt
nest-parts n (word span w (group s title sections)) h =
    let inner : nesting_of sections ≤ n = omega arith in
    with-sections n (title_of title) sections inner

nest-found : (n : ℕ) (o : Option (Span × Forest)) → GroupNests n o → DefinitionNests n (option_and_then (λ (d : Span × Forest). name_and_sections d.1) o)
nest-found n None h = tt
nest-found n (Some g) h = nest-parts n g.1 h

nest-second : (n : ℕ) (o : Option (List ℕ × Forest)) → DefinitionNests n o → nesting_of (option_map_or (λ (d : List ℕ × Forest). d.1) o nothing) ≤ n
nest-second n None h = omega arith
nest-second n (Some d) h = h

pub nest-sections_of : (test : Forest → Bool) (forms : Forest) (n : ℕ) → nesting_of forms ≤ n
    → nesting_of (option_map_or (λ (d : List ℕ × Forest). d.1) (option_and_then (λ (d : Span × Forest). name_and_sections d.1) (first_group_with test forms)) nothing) ≤ n
nest-sections_of test forms n h =
    nest-second n (option_and_then (λ (d : Span × Forest). name_and_sections d.1) (first_group_with test forms)) (nest-found n (first_group_with test forms) (nest-first_group test forms n h))
