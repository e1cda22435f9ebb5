use Rattle.std.proofs.Common.{◌≡◌, ◌^◌}
use Rattle.ground_task.specs.Capped.{capped}
use Rattle.ground_task.proofs.counts.power.Given as goal

abbrev pub invariant-loop-i : goal.invariant-loop-i
invariant-loop-i l = l.value ≡ capped (l.base ^ l._i)
