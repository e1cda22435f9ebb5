-- The loop goes on while each literal so far holds in each state.
use Rattle.std.proofs.Common.{◌≡◌, drop}
use Rattle.std.specs.List.{list_all}
use Rattle.task_core.specs.Unchanged.{holds_in_each}
use Rattle.task_core.proofs.initial.all_hold.Given as goal

abbrev pub invariant-loop-lit : goal.invariant-loop-lit
invariant-loop-lit l = list_all (holds_in_each l.states) (drop l.lit-index l.lits) ≡ list_all (holds_in_each l.states) l.lits
