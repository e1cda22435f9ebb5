-- The sentence about a shape: what is printed, byte for byte.
use Rattle.std.specs.Prelude.{ℕ, zero, suc, ◌-◌, Bool, true, false, List, [], ◌∷◌, ◌++◌, codes, decimal, if◌then◌else◌, length, nat_le, nat_lt, take}
use Rattle.std.specs.List.{flat_map}
use Rattle.lint_shapes.specs.declared.shapes.OneOf.{OneOf}
use Rattle.mutex_groups.specs.Groups.{Group}
use Rattle.plan_rules.specs.Texts.{atom_text, name_at}
use Rattle.task_core.specs.Names.{Name}
use Rattle.task_core.specs.States.{truth}
use Rattle.task_core.specs.Tasks.{fluent_count, fluent_names}
use Rattle.task_core.specs.declared.states.State.{State}
use Rattle.task_core.specs.declared.tasks.Task.{Task}

abbrev pub alone_if : Bool → ℕ → List ℕ
alone_if true f = f ∷ []
alone_if false f = []

-- the members of a group below a bound, in rising order
abbrev pub members_below : Group → ℕ → List ℕ
members_below group zero = []
members_below group (suc f) = members_below group f ++ alone_if (group f) f

-- the longer list; the first where none is longer
abbrev pub longer : List ℕ → List ℕ → List ℕ
longer xs ys = if nat_lt (length xs) (length ys) then ys else xs

-- the members of the first group with the most members, where these are the members of an earlier one
abbrev pub widest_after : ℕ → List ℕ → List State → List ℕ
widest_after count widest [] = widest
widest_after count widest (group ∷ groups) =
    widest_after count (longer widest (members_below (truth group) count)) groups

abbrev pub widest : ℕ → List State → List ℕ
widest count groups = widest_after count [] groups

-- the name of a fluent after a space, as (at red hall)
abbrev pub member_text : List Name → ℕ → List ℕ
member_text names f = codes " " ++ atom_text (name_at names f)

-- so many members are named at most
abbrev pub most_named : ℕ
most_named = 8

-- how many members there are besides those that are named
abbrev pub more_text : ℕ → List ℕ
more_text count =
    if nat_le count most_named then []
    else codes " and " ++ decimal (count - most_named) ++ codes " more"

-- how many groups there are like this one, where it is not alone
abbrev pub such_text : ℕ → List ℕ
such_text groups =
    if nat_le groups 1 then [] else codes "; one of " ++ decimal groups ++ codes " such groups"

-- the sentence about a group with these members, which is one of so many
abbrev pub one_of_text : List Name → List ℕ → ℕ → List ℕ
one_of_text names members groups =
    codes "exactly one of these is true in every reachable state:"
    ++ flat_map (member_text names) (take most_named members)
    ++ more_text (length members) ++ such_text groups

-- the sentence about the groups of a shape: it names the first of those with the most members
abbrev pub shape_text : Task → OneOf → List ℕ
shape_text task one =
    one_of_text (fluent_names task) (widest (fluent_count task) one.groups.items)
    (length one.groups.items)
