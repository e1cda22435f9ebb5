use Rattle.std.proofs.Common.{subst, take, arith}
use Rattle.exec_graph.specs.Values.{followers_at, graph_size, predecessors_at}
use Rattle.plan_check.specs.Marks.{ListsMarked}
use Rattle.plan_check.specs.Spreads.{edges_to}
use Rattle.plan_check.proofs.SpreadSteps.{none_led, reaches_more, reaches_none, spread_least, spread_one, spread_whole, spreading_none}
use Rattle.plan_check.proofs.spreading.spread.Goals as goal

pub loop-done-init : goal.loop-done-init
loop-done-init g c = record {
  spreading = spreading_none (graph_size c.args.along.now.graph.now) c.args.along.now.need (followers_at c.args.along.now.graph.now) (predecessors_at c.args.along.now.graph.now) c.args.along.now.guard.now c.args.marks.now.items c.in_ok-lacks.lacks.items c.in_ok-found.found.items
      c.requires.marks c.in_ok-lacks.ensures.count c.in_ok-lacks.ensures.each (subst (λ ms. ListsMarked ms c.in_ok-found.found.items) c.deref.ensures.value c.in_ok-found.ensures.listed) c.in_ok-found.ensures.different
      (none_led c.args.along.now.need c.args.along.now.graph.now c.requires.followers);
  reaches = reaches_none c.args.along.now.need (followers_at c.args.along.now.graph.now) c.args.along.now.guard.now c.args.marks.now.items;
  steps = omega arith;
}

pub loop-done-preserved : goal.loop-done-preserved
loop-done-preserved g c = record {
  spreading = c.in_ok-look_back.ensures.spreading;
  reaches = reaches_more c.args.along.now.need (followers_at c.args.along.now.graph.now) c.args.along.now.guard.now c.args.marks.now.items c.loop-done.marks.items c.look_back.new.marks.items c.loop-done.invariant.reaches c.in_ok-look_back.ensures.reaches;
  steps = omega (arith, c.in_ok-look_back.ensures.steps, c.loop-done.invariant.steps);
}

pub returns-clause-least : goal.returns-clause-least
returns-clause-least g c =
    spread_least (graph_size c.args.along.now.graph.now) c.args.along.now.need (followers_at c.args.along.now.graph.now) (predecessors_at c.args.along.now.graph.now) c.args.along.now.guard.now c.args.marks.now.items c.loop-done.marks.items c.loop-done.front.lacks.items c.loop-done.front.found.items c.loop-done.done
    c.requires.turned c.loop-done.invariant.spreading (omega (arith, c.len.ensures)) c.loop-done.invariant.reaches

pub returns-clause-steps : goal.returns-clause-steps
returns-clause-steps g c = let most = spread_whole (graph_size c.args.along.now.graph.now) c.args.along.now.need (followers_at c.args.along.now.graph.now) (predecessors_at c.args.along.now.graph.now) c.args.along.now.guard.now c.loop-done.marks.items c.loop-done.front.lacks.items c.loop-done.front.found.items (edges_to (predecessors_at c.args.along.now.graph.now) (take c.loop-done.done c.loop-done.front.found.items)) c.requires.turned c.loop-done.invariant.spreading c.loop-done.done in omega (arith, most, c.loop-done.invariant.steps)

pub returns-in_err-look_back-clause-steps : goal.returns-in_err-look_back-clause-steps
returns-in_err-look_back-clause-steps g c =
    let most = spread_one (graph_size c.args.along.now.graph.now) c.args.along.now.need (followers_at c.args.along.now.graph.now) (predecessors_at c.args.along.now.graph.now) c.args.along.now.guard.now c.loop-done.marks.items c.loop-done.front.lacks.items c.loop-done.front.found.items (edges_to (predecessors_at c.args.along.now.graph.now) (take c.loop-done.done c.loop-done.front.found.items)) c.requires.turned c.loop-done.invariant.spreading c.loop-done.done (omega (arith, c.len.ensures)) in
    omega (arith, most, c.loop-done.invariant.steps, c.look_back.ensures.most)
