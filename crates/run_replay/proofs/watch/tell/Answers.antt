use Rattle.std.proofs.Common.{arith}
use Rattle.run_replay.proofs.Places.{all_changed}
use Rattle.run_replay.proofs.Telling.{are_told_as}
use Rattle.run_replay.proofs.watch.tell.Goals as goal

pub returns : goal.returns
returns g c =
    are_told_as _ _ _ _
    (all_changed _ c.loop-monitor.monitor-index _ _ _ c.loop-monitor.monitor-items c.deref_mut-monitor-items.ensures.value
    c.args.monitors.now.ok.0 c.loop-monitor.auto.monitor-items
    (omega (arith, c.loop-monitor-test.false)) c.loop-monitor.invariant)
