-- The loop goes on while no literal so far names a marked fluent.
use Rattle.std.proofs.Common.{◌≡◌, drop}
use Rattle.task_core.specs.States.{truth}
use Rattle.initial_number.specs.Fluents.{lits_name_one}
use Rattle.initial_number.proofs.fluents.literals_name_marked.Given as goal

abbrev pub invariant-loop-lit : goal.invariant-loop-lit
invariant-loop-lit l = lits_name_one (truth l.marks) (drop l.lit-index l.lits) ≡ lits_name_one (truth l.marks) l.lits
