-- The second and the third pass over a domain's text: the list that defines the domain, and its
-- sections.
use Rattle.std.specs.Prelude.{ℕ, Bool, true, false, ◌||◌, not, List, [], ◌∷◌, ◌++◌, Option, None}
use Rattle.std.specs.Prelude.{if◌then◌else◌, codes}
use Rattle.std.specs.Option.{option_map, option_map_or, option_and_then}
use Rattle.std.specs.Str.{bytes_eq}
use Rattle.sexpr_text.specs.declared.forms.Span.{Span}
use Rattle.sexpr_text.specs.declared.faults.FaultKind.TheVariants.{BadForm, LeftOut}
use Rattle.sexpr_text.specs.Forest.{Forest, nothing, word, group}
use Rattle.sexpr_text.specs.Flaws.{Flaw, flaw_at}
use Rattle.sexpr_text.specs.Parts.{after_first, begins_with, first_group_with, is_definition}
use Rattle.sexpr_text.specs.Parts.{is_one}
use Rattle.pddl_ast.specs.Definitions.{title_of, no_define}
use Rattle.pddl_domain.specs.declared.sections.Seen.{Seen}
use Rattle.pddl_domain.specs.declared.sections.Section.{Section}
use Rattle.pddl_domain.specs.declared.sections.Section.TheVariants.{Requirements, Types, Constants}
use Rattle.pddl_domain.specs.declared.sections.Section.TheVariants.{Predicates, Invariant}
use Rattle.pddl_domain.specs.declared.sections.Section.TheVariants.{Action, Other}

-- of `define (domain NAME) SECTION ..`: the name, and the sections
abbrev pub name_and_sections : Forest → Option (List ℕ × Forest)
name_and_sections nothing = None
name_and_sections (group span parts rest) = None
name_and_sections (word span define nothing) = None
name_and_sections (word span define (word s w rest)) = None
name_and_sections (word span define (group s title sections)) =
    option_map (λ name. (name, sections)) (title_of title)

-- the name and the sections of the first list `define (domain NAME) ..` of the text. All other
-- forms are passed over
abbrev pub definition : Forest → Option (List ℕ × Forest)
definition forms =
    option_and_then (λ d. name_and_sections d.1)
    (first_group_with (is_definition (codes "domain")) forms)

-- where there is none, that is the text's fault
abbrev pub definition_flaws : Forest → List Flaw
definition_flaws forms = option_map_or (λ d. []) (definition forms) (no_define ∷ [])

abbrev pub defined_name : Forest → List ℕ
defined_name forms = option_map_or (λ d. d.0) (definition forms) []

abbrev pub sections_of : Forest → Forest
sections_of forms = option_map_or (λ d. d.1) (definition forms) nothing

-- the kind of a section, by its first word
unfoldable pub section_kind : List ℕ → Section
section_kind w =
    if bytes_eq w (codes ":requirements") then Requirements
    else if bytes_eq w (codes ":types") then Types
    else if bytes_eq w (codes ":constants") then Constants
    else if bytes_eq w (codes ":predicates") then Predicates
    else if bytes_eq w (codes ":invariant") then Invariant
    else if bytes_eq w (codes ":action") then Action
    else Other

-- whether a section of this kind may not come again, since it came already
abbrev pub came : Seen → Section → Bool
came seen Types = seen.types
came seen Constants = seen.constants
came seen Predicates = seen.predicates
came seen Invariant = seen.invariant
came seen _ = false

-- what came, after a section of this kind
abbrev pub seen_after : Seen → Section → Seen
seen_after seen Types = record seen { types = true }
seen_after seen Constants = record seen { constants = true }
seen_after seen Predicates = record seen { predicates = true }
seen_after seen Invariant = record seen { invariant = true }
seen_after seen _ = seen

-- whether a section of this kind may not have these forms after its word: `:invariant` has exactly
-- one
abbrev pub has_wrong_size : Forest → Section → Bool
has_wrong_size rest Invariant = not (is_one rest)
has_wrong_size rest _ = false

-- what is wrong with a section of this kind that begins with this word, and has these forms after
-- it: no section begins with a word of another kind, and `:types`, `:constants`, `:predicates` and
-- `:invariant` may come once each
abbrev pub kind_flaws : Seen → Span → List ℕ → Forest → Section → List Flaw
kind_flaws seen span w rest Other = flaw_at span (LeftOut w) ∷ []
kind_flaws seen span w rest kind =
    if came seen kind || has_wrong_size rest kind then flaw_at span BadForm ∷ [] else []

-- everything that is wrong with the sections as such, where these came before: each form is to be a
-- list that begins with the word of its kind
abbrev pub sections_flaws : Seen → Forest → List Flaw
sections_flaws seen nothing = []
sections_flaws seen (word span text rest) = flaw_at span BadForm ∷ sections_flaws seen rest
sections_flaws seen (group span nothing rest) = flaw_at span BadForm ∷ sections_flaws seen rest
sections_flaws seen (group span (group s p r) rest) =
    flaw_at span BadForm ∷ sections_flaws seen rest
sections_flaws seen (group span (word s w r) rest) =
    kind_flaws seen span w r (section_kind w)
    ++ sections_flaws (seen_after seen (section_kind w)) rest

-- before the first section none came
abbrev pub none_came : Seen
none_came = record { types = false; constants = false; predicates = false; invariant = false }

-- what stands in the first section that begins with the word, after that word
abbrev pub section_named : List ℕ → Forest → Forest
section_named w sections =
    option_map_or (λ s. after_first s.1) (first_group_with (begins_with w) sections) nothing
