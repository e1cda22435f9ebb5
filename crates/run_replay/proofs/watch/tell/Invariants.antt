use Rattle.run_replay.specs.Watching.{IsTold}
use Rattle.std.specs.Prelude.{[], ◌∷◌}
use Rattle.run_replay.proofs.Places.{IsChangedUpTo}
use Rattle.run_replay.proofs.watch.tell.Given as goal

abbrev pub invariant-loop-monitor : goal.invariant-loop-monitor
invariant-loop-monitor g l = IsChangedUpTo (λ before after. IsTold (l.step ∷ [])
    ((goal.Monitor-dyn g (before.vtable, before.value)).shown before.value)
    ((goal.Monitor-dyn g (after.vtable, after.value)).shown after.value))
    l.monitor-index l.initial.monitor-items l.monitor-items
