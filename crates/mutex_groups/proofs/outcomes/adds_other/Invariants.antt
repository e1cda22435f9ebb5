-- The loop goes on while no literal adds another member.
use Rattle.std.proofs.Common.{◌≡◌, drop}
use Rattle.task_core.specs.States.{truth}
use Rattle.mutex_groups.specs.Cases.{adds_other}
use Rattle.mutex_groups.proofs.outcomes.adds_other.Given as goal

abbrev pub invariant-loop-lit : goal.invariant-loop-lit
invariant-loop-lit l = adds_other (truth l.members) l.target.0 (drop l.lit-index l.lits) ≡ adds_other (truth l.members) l.target.0 l.lits
