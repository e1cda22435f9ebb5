use Rattle.std.proofs.Common.{append_assoc, arith}
use Rattle.task_gen.specs.Roads.{road}
use Rattle.task_gen.proofs.Spaced.{one_more_at}
use Rattle.task_gen.proofs.roads.push_roads.Goals as goal

pub loop-i-preserved : goal.loop-i-preserved
loop-i-preserved c =
    let more = one_more_at road 1 c.loop-i.i c.loop-i.auto.i in
    grind (arith, append_assoc, more, c.loop-i.invariant, c.in_ok-extend_from_slice.ensures.items, c.in_ok-push_road.ensures)
