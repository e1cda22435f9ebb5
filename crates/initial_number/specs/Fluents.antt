-- Private: the fluents that literals and entries name.
use Rattle.std.specs.Prelude.{ℕ, ◌==◌, Bool}
use Rattle.std.specs.List.{list_any}
use Rattle.task_core.specs.Cubes.{Cube}
use Rattle.task_core.specs.Initial.{Entry}

-- whether some literal, or a literal of some alternative, names fluent f
abbrev pub lits_name : ℕ → Cube → Bool
lits_name f lits = list_any (λ lit. lit.fluent.0 == f) lits

abbrev pub entry_names : ℕ → Entry → Bool
entry_names f entry = list_any (lits_name f) entry

-- whether one names a marked fluent
abbrev pub lits_name_one : (ℕ → Bool) → Cube → Bool
lits_name_one marked lits = list_any (λ lit. marked lit.fluent.0) lits

abbrev pub entry_names_one : (ℕ → Bool) → Entry → Bool
entry_names_one marked entry = list_any (lits_name_one marked) entry
