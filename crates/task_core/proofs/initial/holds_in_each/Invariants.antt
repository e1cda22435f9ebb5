-- The loop goes on while the literal holds in each state so far.
use Rattle.std.proofs.Common.{◌≡◌, drop}
use Rattle.task_core.specs.Unchanged.{holds_in_each}
use Rattle.task_core.proofs.initial.holds_in_each.Given as goal

abbrev pub invariant-loop-state : goal.invariant-loop-state
invariant-loop-state l = holds_in_each (drop l.state-index l.states) l.lit ≡ holds_in_each l.states l.lit
