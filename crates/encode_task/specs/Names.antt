-- Private: what the changes of an outcome name.
use Rattle.std.specs.Prelude.{ℕ, Bool, ◌==◌, List, length, nat_le}
use Rattle.std.specs.List.{flat_map, list_any}
use Rattle.task_core.specs.Cubes.{Cube}
use Rattle.task_core.specs.declared.actions.Change.{Change}
use Rattle.task_core.specs.declared.actions.GroundAction.{GroundAction}

-- whether some literal is one of a fluent
abbrev pub names_fluent : ℕ → Cube → Bool
names_fluent f lits = list_any (λ lit. lit.fluent.0 == f) lits

-- the literals of changes
abbrev pub literals_of : List Change → Cube
literals_of changes = flat_map (λ change. change.lits.items) changes

-- whether an action has at most so many outcomes
abbrev pub has_outcomes_within : ℕ → GroundAction → Bool
has_outcomes_within most action = nat_le (length action.outcomes.items) most
