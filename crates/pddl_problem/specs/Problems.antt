-- Which problem a text spells relative to a domain, or which fault it has.
use Rattle.std.specs.Prelude.{◌≡◌, ℕ, List, [], ◌∷◌, ◌++◌, Option, Some, None, codes}
use Rattle.std.specs.Prelude.{if◌then◌else◌}
use Rattle.std.specs.Option.{option_map, option_map_or, option_and_then}
use Rattle.std.specs.Str.{bytes_eq}
use Rattle.sexpr_text.specs.declared.forms.Span.{Span}
use Rattle.sexpr_text.specs.declared.forms.Place.{Place}
use Rattle.sexpr_text.specs.declared.faults.InputFault.{InputFault}
use Rattle.sexpr_text.specs.declared.faults.FaultKind.TheVariants.{BadForm, OtherDomain}
use Rattle.sexpr_text.specs.declared.faults.FaultKind.TheVariants.{GoalMissing}
use Rattle.sexpr_text.specs.Forest.{Forest, nothing, word, group}
use Rattle.sexpr_text.specs.Parts.{first_group_with, is_definition}
use Rattle.sexpr_text.specs.Flaws.{Flaw, flaw_at, fault_of_passes}
use Rattle.sexpr_text.specs.Spelling.{SpellsTrees}
use Rattle.sexpr_text.specs.Passes.{HasFaultBy}
use Rattle.pddl_ast.specs.declared.typed_lists.Declares.TheVariants.{Objects}
use Rattle.pddl_ast.specs.Definitions.{title_of, no_define}
use Rattle.pddl_ast.specs.Known.{Known}
use Rattle.pddl_ast.specs.Fits.{known_in}
use Rattle.pddl_ast.specs.Formulas.{formula_flaws, formula_of}
use Rattle.pddl_ast.specs.Goals.{temporal_flaws, temporal_of}
use Rattle.pddl_ast.specs.TypedLists.{typed_list_flaws, typed_groups, names_of, objects_of}
use Rattle.pddl_ast.specs.Trees.{DomainTree, ProblemTree, FormulaTree, TemporalTree}
use Rattle.pddl_problem.specs.Sections.{none_seen, sections_flaws, section, items_of}
use Rattle.pddl_problem.specs.Init.{init_flaws, init_facts, init_entries}

-- the list that defines a problem: its place, the problem's name, and its sections
pub record Definition : Type 0 where
  pub span : Span
  pub name : List ℕ
  pub items : Forest

-- what `define (problem NAME) ..` defines, with the span of its list
abbrev pub defined : Span → Forest → Option Definition
defined span nothing = None
defined span (group s parts rest) = None
defined span (word s text nothing) = None
defined span (word s text (word s' name rest)) = None
defined span (word s text (group s' parts rest)) =
    option_map (λ name. record { span = span; name = name; items = rest }) (title_of parts)

-- the first list that is `define (problem NAME) ..`
abbrev pub definition_in : Forest → Option Definition
definition_in forest =
    option_and_then (λ g. defined g.0 g.1)
    (first_group_with (is_definition (codes "problem")) forest)

-- the pass over the domain's name: another name than the domain's is OtherDomain at it
abbrev pub domain_flaws : List ℕ → Forest → List Flaw
domain_flaws domain nothing = []
domain_flaws domain (group s parts rest) = []
domain_flaws domain (word s name rest) =
    if bytes_eq name domain then [] else flaw_at s OtherDomain ∷ []

-- what is known in the problem: the names of the domain, and the objects after the constants
abbrev pub with_objects : Known → Forest → Known
with_objects known list = record known { objects = known.objects ++ names_of (typed_groups list) }

-- the pass over the goal, a formula without free variables
abbrev pub goal_flaws : Known → Forest → List Flaw
goal_flaws known nothing = []
goal_flaws known (word s w rest) = flaw_at s BadForm ∷ []
goal_flaws known (group s parts rest) = formula_flaws known parts s []

abbrev pub goal_of : Known → Forest → Option FormulaTree
goal_of known nothing = None
goal_of known (word s w rest) = None
goal_of known (group s parts rest) = Some (formula_of known parts [])

-- the pass over the goal in computation tree logic
abbrev pub ctl_flaws : Known → Forest → List Flaw
ctl_flaws known nothing = []
ctl_flaws known (word s w rest) = flaw_at s BadForm ∷ []
ctl_flaws known (group s parts rest) = temporal_flaws known parts s

abbrev pub ctl_of : Known → Forest → Option TemporalTree
ctl_of known nothing = None
ctl_of known (word s w rest) = None
ctl_of known (group s parts rest) = Some (temporal_of known parts)

-- the place of that goal's form; of the definition's list (`span`) where there is none
abbrev pub ctl_place : Span → Forest → Place
ctl_place span nothing = span.place
ctl_place span (word s w rest) = s.place
ctl_place span (group s parts rest) = s.place

-- the last pass: where there is neither a goal nor a goal in computation tree logic, GoalMissing at
-- the definition's list
abbrev pub missing_flaws : Span → Option Forest → Option Forest → List Flaw
missing_flaws span None None = flaw_at span GoalMissing ∷ []
missing_flaws span (Some goal) ctl = []
missing_flaws span None (Some ctl) = []

-- the objects of a definition, as a typed list
abbrev pub object_list : Definition → Forest
object_list d = items_of (codes ":objects") d.items

-- the passes over the initial situation and the goals, where these names are known
abbrev pub body_passes : Known → Definition → List (List Flaw)
body_passes known d =
    init_flaws known (items_of (codes ":init") d.items)
    ∷ goal_flaws known (items_of (codes ":goal") d.items)
    ∷ ctl_flaws known (items_of (codes ":ctl-goal") d.items)
    ∷ missing_flaws d.span (section (codes ":goal") d.items) (section (codes ":ctl-goal") d.items)
    ∷ []

-- the passes after the one that finds the definition, for a domain with this name and these names
abbrev pub definition_passes : List ℕ → Known → Definition → List (List Flaw)
definition_passes domain before d =
    sections_flaws none_seen d.items
    ∷ domain_flaws domain (items_of (codes ":domain") d.items)
    ∷ typed_list_flaws Objects before.types before.objects (object_list d)
    ∷ body_passes (with_objects before (object_list d)) d

-- the passes over the forms of a text, each with everything that is wrong by its rules
abbrev pub problem_passes : DomainTree → Forest → List (List Flaw)
problem_passes domain forest =
    option_map_or (λ d. [] ∷ definition_passes domain.name (known_in domain) d)
    (definition_in forest) ((no_define ∷ []) ∷ [])

-- the problem that a definition reads as, where these names of the domain are known
abbrev pub problem_of : Known → Definition → ProblemTree
problem_of before d =
    let known = with_objects before (object_list d) in
    record {
      name = d.name;
      objects = objects_of before.types (typed_groups (object_list d));
      facts = init_facts known (items_of (codes ":init") d.items);
      entries = init_entries known (items_of (codes ":init") d.items);
      goal = goal_of known (items_of (codes ":goal") d.items);
      ctl = ctl_of known (items_of (codes ":ctl-goal") d.items);
      place = d.span.place;
      ctl_place = ctl_place d.span (items_of (codes ":ctl-goal") d.items);
    }

-- the problem that the forms of a text read as, where there is a definition
abbrev pub problem_in : DomainTree → Forest → Option ProblemTree
problem_in domain forest = option_map (problem_of (known_in domain)) (definition_in forest)

-- the bytes spell forms that read as this problem of the domain
abbrev pub ReadsAsProblem : List ℕ → DomainTree → ProblemTree → Type 0
ReadsAsProblem bytes domain problem =
    (forms : Forest) × SpellsTrees bytes forms × (problem_in domain forms ≡ Some problem)

-- the bytes spell forms in which, as a problem of the domain, no pass lists a flaw
abbrev pub IsFlawlessProblem : List ℕ → DomainTree → Type 0
IsFlawlessProblem bytes domain =
    (forms : Forest) × SpellsTrees bytes forms
    × (fault_of_passes (problem_passes domain forms) ≡ None)

-- the bytes spell this problem of the domain: they read as it, and nothing is wrong in them
pub record SpellsProblem (bytes : List ℕ) (domain : DomainTree) (problem : ProblemTree) : Type 0
  where
    pub reads : ReadsAsProblem bytes domain problem
    pub flawless : IsFlawlessProblem bytes domain

-- the bytes have this fault as a problem of the domain
abbrev pub HasProblemFault : List ℕ → DomainTree → InputFault → Type 0
HasProblemFault bytes domain fault = HasFaultBy (problem_passes domain) bytes fault
