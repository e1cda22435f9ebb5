-- The sections of a problem: what stands in its `define` list after the problem's name.
use Rattle.std.specs.Prelude.{ℕ, Bool, true, false, ◌||◌, ◌&&◌, not, if◌then◌else◌, List, [], ◌∷◌}
use Rattle.std.specs.Prelude.{◌++◌, Option, codes}
use Rattle.std.specs.Option.{option_and_then, unwrap_or}
use Rattle.std.specs.Str.{bytes_eq}
use Rattle.sexpr_text.specs.declared.forms.Span.{Span}
use Rattle.sexpr_text.specs.declared.faults.FaultKind.{FaultKind}
use Rattle.sexpr_text.specs.declared.faults.FaultKind.TheVariants.{BadForm, GoalTwice, LeftOut}
use Rattle.sexpr_text.specs.Forest.{Forest, nothing, word, group}
use Rattle.sexpr_text.specs.Parts.{is_nothing, is_name, is_one, begins_with, after_word, first_group_with}
use Rattle.sexpr_text.specs.Flaws.{Flaw, flaw_at}
use Rattle.pddl_problem.specs.declared.sections.Heading.{Heading}
use Rattle.pddl_problem.specs.declared.sections.Heading.TheVariants.{Domain, Objects, Init, Goal}
use Rattle.pddl_problem.specs.declared.sections.Heading.TheVariants.{CtlGoal, PassedOver, Other}
use Rattle.pddl_problem.specs.declared.sections.Seen.{Seen}

-- the sections that are passed over
abbrev pub is_passed_over : List ℕ → Bool
is_passed_over w =
    bytes_eq w (codes ":requirements") || bytes_eq w (codes ":metric")
    || bytes_eq w (codes ":goal-reward")

-- what the word at a section's head says that the section is
abbrev pub heading_of : List ℕ → Heading
heading_of w =
    if bytes_eq w (codes ":domain") then Domain
    else if bytes_eq w (codes ":objects") then Objects
    else if bytes_eq w (codes ":init") then Init
    else if bytes_eq w (codes ":goal") then Goal
    else if bytes_eq w (codes ":ctl-goal") then CtlGoal
    else if is_passed_over w then PassedOver
    else Other

-- whether there is exactly one form, a name
abbrev pub is_one_name : Forest → Bool
is_one_name nothing = false
is_one_name (word span text rest) = is_name text && is_nothing rest
is_one_name (group span parts rest) = false

-- a flaw of this kind at a form, where the test says so
abbrev pub flaw_if : Bool → Span → FaultKind → List Flaw
flaw_if test span kind = if test then flaw_at span kind ∷ [] else []

-- what is wrong with a section, given which sections have come before it: a section that may come
-- once is BadForm where it comes again, but a goal of either kind is GoalTwice; a `:domain` has
-- exactly one item, a name, and a `:goal` and a `:ctl-goal` exactly one item, or they are BadForm;
-- every other section is left out. At one section the flaw with the lower code is listed alone
abbrev pub section_flaws : Seen → Span → Heading → List ℕ → Forest → List Flaw
section_flaws seen span Domain head rest =
    flaw_if (seen.domain || not (is_one_name rest)) span BadForm
section_flaws seen span Objects head rest = flaw_if seen.objects span BadForm
section_flaws seen span Init head rest = flaw_if seen.init span BadForm
section_flaws seen span Goal head rest =
    if is_one rest then flaw_if seen.goal span GoalTwice else flaw_at span BadForm ∷ []
section_flaws seen span CtlGoal head rest =
    if is_one rest then flaw_if seen.ctl span GoalTwice else flaw_at span BadForm ∷ []
section_flaws seen span PassedOver head rest = []
section_flaws seen span Other head rest = flaw_at span (LeftOut head) ∷ []

-- before the first section
abbrev pub none_seen : Seen
none_seen = record { domain = false; objects = false; init = false; goal = false; ctl = false }

-- which sections have come, after one more
abbrev pub saw : Seen → Heading → Seen
saw seen Domain = record seen { domain = true }
saw seen Objects = record seen { objects = true }
saw seen Init = record seen { init = true }
saw seen Goal = record seen { goal = true }
saw seen CtlGoal = record seen { ctl = true }
saw seen PassedOver = seen
saw seen Other = seen

-- the same of a list with these parts, which is BadForm where no word is at its head
abbrev pub list_flaws : Seen → Span → Forest → List Flaw
list_flaws seen span nothing = flaw_at span BadForm ∷ []
list_flaws seen span (group s parts rest) = flaw_at span BadForm ∷ []
list_flaws seen span (word s head rest) = section_flaws seen span (heading_of head) head rest

abbrev pub saw_list : Seen → Forest → Seen
saw_list seen nothing = seen
saw_list seen (group s parts rest) = seen
saw_list seen (word s head rest) = saw seen (heading_of head)

-- what is wrong with these items as sections, given which sections have come before them
abbrev pub sections_flaws : Seen → Forest → List Flaw
sections_flaws seen nothing = []
sections_flaws seen (word span text rest) = flaw_at span BadForm ∷ sections_flaws seen rest
sections_flaws seen (group span parts rest) =
    list_flaws seen span parts ++ sections_flaws (saw_list seen parts) rest

-- the items of the first section with this word at its head
abbrev pub section : List ℕ → Forest → Option Forest
section head items =
    option_and_then (λ s. after_word head s.1) (first_group_with (begins_with head) items)

-- the items of that section, none where there is no such section
abbrev pub items_of : List ℕ → Forest → Forest
items_of head items = unwrap_or (section head items) nothing
