-- The loop goes on while no alternative so far names a marked fluent.
use Rattle.std.proofs.Common.{◌≡◌, drop}
use Rattle.std.specs.List.{list_any}
use Rattle.task_core.specs.Initial.{entry_of}
use Rattle.task_core.specs.States.{truth}
use Rattle.initial_number.specs.Fluents.{entry_names_one, lits_name_one}
use Rattle.initial_number.proofs.fluents.names_marked.Given as goal

abbrev pub invariant-loop-alternative : goal.invariant-loop-alternative
invariant-loop-alternative l =
    list_any (λ alternative. lits_name_one (truth l.marks) alternative.lits.items) (drop l.alternative-index l.entry)
    ≡ entry_names_one (truth l.marks) (entry_of l.entry)
