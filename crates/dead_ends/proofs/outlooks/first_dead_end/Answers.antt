use Rattle.dead_ends.proofs.Firsts.{dead_here, plan_here}
use Rattle.dead_ends.proofs.Starts.{like_then}
use Rattle.dead_ends.proofs.outlooks.first_dead_end.Goals as goal

pub returns-in-DeadEnd-clause-dead : goal.returns-in-DeadEnd-clause-dead
returns-in-DeadEnd-clause-dead g c =
    dead_here c.args.wanted.now.class c.args.task.now c.loop-place.task c.args.states.now c.index-states-place.result c.loop-place.place c.in_ok-outlook_from.field-0
    c.loop-place.invariant.like c.loop-place-test.true c.index-states-place.is c.in_ok-outlook_from.ensures.outlook c.in-DeadEnd.is c.loop-place.invariant.first

pub loop-place-preserved : goal.loop-place-preserved
loop-place-preserved g c = record {
  like = like_then c.args.task.now c.loop-place.task c.outlook_from.new.task c.loop-place.invariant.like c.in_ok-outlook_from.ensures.like;
  first = plan_here c.args.wanted.now.class c.args.task.now c.loop-place.task c.args.states.now c.index-states-place.result c.loop-place.place c.in_ok-outlook_from.field-0
      c.loop-place.invariant.like c.loop-place-test.true c.index-states-place.is c.in_ok-outlook_from.ensures.outlook c.in-Plan.is c.loop-place.invariant.first;
}
