use Rattle.std.proofs.Common.{arith, sym}
use Rattle.run_replay.proofs.Counting.{none_yet, one_more}
use Rattle.run_replay.proofs.monitors.changes.Goals as goal

pub loop-f-init : goal.loop-f-init
loop-f-init c = record { counted = sym (none_yet c.args.before.now c.args.after.now); few = omega arith }

pub loop-f-preserved : goal.loop-f-preserved
loop-f-preserved c = grind (arith, one_more c.loop-f.f c.args.before.now c.args.after.now)
