-- The loop goes on while no literal adds a member.
use Rattle.std.proofs.Common.{◌≡◌, drop}
use Rattle.task_core.specs.States.{truth}
use Rattle.mutex_groups.specs.Cases.{adds_member}
use Rattle.mutex_groups.proofs.outcomes.added_member.Given as goal

abbrev pub invariant-loop-lit : goal.invariant-loop-lit
invariant-loop-lit l = adds_member (truth l.members) (drop l.lit-index l.lits) ≡ adds_member (truth l.members) l.lits
