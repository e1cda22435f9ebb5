-- What assignments of values make of a set of states.
use Rattle.std.specs.Prelude.{ℕ, ◌||◌, ◌&&◌, Bool, true, false, if◌then◌else◌}
use Rattle.std.specs.List.{fold, list_any}
use Rattle.dd_nodes.specs.NodeList.{with_value}
use Rattle.dd_nodes.specs.Subfunctions.{Function}
use Rattle.task_core.specs.Cubes.{Cube}
use Rattle.task_core.specs.Initial.{Entry}
use Rattle.task_core.specs.Vectors.{same_value}
use Rattle.task_core.specs.declared.literals.Lit.{Lit}

-- where a fluent has a value
abbrev pub has_value : ℕ → Bool → Function
has_value f value values = same_value value (values f)

-- the states of a set with one value assigned
abbrev pub assigned : ℕ → Bool → Function → Function
assigned f value set values =
    (set (with_value values f false) || set (with_value values f true)) && has_value f value values

-- the states of a set with the literals of one sign assigned
abbrev pub assigned_literal : Bool → Function → Lit → Function
assigned_literal positive set lit =
    if same_value lit.positive positive then assigned lit.fluent.0 positive set else set

abbrev pub assigned_signed : Bool → Cube → Function → Function
assigned_signed positive lits set = fold (assigned_literal positive) set lits

-- the states of a set with literals applied: deletes first, so that a fluent that is also added
-- becomes true
abbrev pub image : Cube → Function → Function
image lits set = assigned_signed true lits (assigned_signed false lits set)

-- the states of a set after an uncertain entry
abbrev pub entry_image : Function → Entry → Function
entry_image set entry values = list_any (λ lits. image lits set values) entry
