-- What is wrong with recognised lists.
use Rattle.std.specs.Prelude.{ℕ, ◌+◌, ◌-◌, ◌%◌, ◌==◌, nat_le, Bool, true, false, not, if◌then◌else◌, List}
use Rattle.std.specs.Prelude.{[], ◌∷◌, ◌++◌, Option, Some, None}
use Rattle.std.specs.Option.{option_map_or}
use Rattle.sexpr_text.specs.declared.forms.Span.{Span}
use Rattle.sexpr_text.specs.declared.faults.FaultKind.{FaultKind}
use Rattle.sexpr_text.specs.declared.faults.FaultKind.TheVariants.{TooDeep, BadForm, BadWeight}
use Rattle.sexpr_text.specs.declared.faults.FaultKind.TheVariants.{MassOver}
use Rattle.pddl_ast.specs.Atoms.{count}
use Rattle.sexpr_text.specs.Faults.{most_open}
use Rattle.sexpr_text.specs.Flaws.{Flaw, flaw_at}
use Rattle.sexpr_text.specs.Forest.{Forest, nothing, word, group}
use Rattle.domain_read.specs.declared.weights.Fraction.{Fraction}
use Rattle.domain_read.specs.declared.weights.Mass.{Mass}
use Rattle.domain_read.specs.declared.weights.Mass.TheVariants.{Missing, Whole, Over}
use Rattle.domain_read.specs.declared.roles.Role.{Role}
use Rattle.domain_read.specs.declared.roles.Role.TheVariants.{Choice, Weight}
use Rattle.domain_read.specs.Weights.{weight, lcm, common_with, mass}
use Rattle.domain_read.specs.Roles.{after_word, after_group, inner_role, is_left_out, text_role}

-- whether their number is even
abbrev pub is_even : Forest → Bool
is_even row = count row % 2 == 0

-- what stands at a recognised list, by what follows its head, where so many more parentheses may be
-- open, its own too: it has no room for one more level; or these are no pairs of a weight and an
-- effect; or the weights' sum is above 1
abbrev pub mass_fault : Option Mass → Option FaultKind
mass_fault (Some Over) = Some MassOver
mass_fault _ = None

abbrev pub choice_fault : ℕ → Forest → Option FaultKind
choice_fault room row =
    if nat_le room 1 then Some TooDeep
    else if not (is_even row) then Some BadForm
    else mass_fault (mass row)

-- what stands at a group of which the parts have this role
abbrev pub list_fault : ℕ → Role → Forest → Option FaultKind
list_fault room (Choice missing) nothing = None
list_fault room (Choice missing) (group span parts rest) = None
list_fault room (Choice missing) (word span text rest) = choice_fault room rest
list_fault room role parts = None

-- whether nothing else is looked for in a list with this fault
abbrev pub is_closed : Option FaultKind → Bool
is_closed (Some BadForm) = true
is_closed _ = false

-- the flaw of a list, where it has one
abbrev pub flaw_of : Span → Option FaultKind → List Flaw
flaw_of span None = []
flaw_of span (Some kind) = flaw_at span kind ∷ []

-- what is wrong with a word of this role, where the denominators so far have the least common
-- multiple m: a weight is of another shape, or makes the multiple too great
abbrev pub weight_flaws : ℕ → Span → List ℕ → List Flaw
weight_flaws m span text =
    option_map_or (λ n. []) (common_with m (weight text)) (flaw_at span BadWeight ∷ [])

abbrev pub word_flaws : ℕ → Role → Span → List ℕ → List Flaw
word_flaws m Weight span text = weight_flaws m span text
word_flaws m role span text = []

-- the least common multiple after a word of this role
abbrev pub multiple_with : ℕ → Option Fraction → ℕ
multiple_with m None = m
multiple_with m (Some f) = lcm m f.under

abbrev pub multiple_after : ℕ → Role → List ℕ → ℕ
multiple_after m Weight text = multiple_with m (weight text)
multiple_after m role text = m

-- a list in the place of a weight is none
abbrev pub group_flaws : Role → Span → List Flaw
group_flaws Weight span = flaw_at span BadWeight ∷ []
group_flaws role span = []

-- everything that is wrong with the recognised lists of a row, in the order of the text. So many
-- more parentheses may be open at its forms, and its weights so far have the least common
-- denominator m. In a list with an odd number of forms after its head, and in a dropped effect,
-- nothing else is looked for
abbrev pub choice_flaws : ℕ → ℕ → Role → Forest → List Flaw
choice_flaws room m role nothing = []
choice_flaws room m role (word span text rest) =
    word_flaws m role span text
    ++ choice_flaws room (multiple_after m role text) (after_word role text) rest
choice_flaws room m role (group span parts rest) =
    (if is_left_out role then group_flaws role span
    else
    (let fault = list_fault room (inner_role role parts) parts in
    flaw_of span fault
    ++ (if is_closed fault then [] else choice_flaws (room - 1) 1 (inner_role role parts) parts)))
    ++ choice_flaws room m (after_group role parts) rest

-- those of a text's forms
abbrev pub text_flaws : Forest → List Flaw
text_flaws trees = choice_flaws most_open 1 (text_role trees) trees
