-- The changes so far come about in every state.
use Rattle.std.proofs.Common.{take}
use Rattle.std.specs.List.{All}
use Rattle.task_core.specs.Conditions.{AlwaysHolds}
use Rattle.task_core.specs.declared.actions.Change.{Change}
use Rattle.exec_graph.proofs.effects.is_unconditional.Given as goal

abbrev pub invariant-loop-change : goal.invariant-loop-change
invariant-loop-change l = All (λ (change : Change). AlwaysHolds change.cond) (take l.change-index l.change-items)
