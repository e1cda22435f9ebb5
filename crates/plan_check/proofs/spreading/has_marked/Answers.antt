use Rattle.std.proofs.Common.{length, sym, ◌∙◌, arith}
use Rattle.exec_graph.specs.Values.{followers_at, graph_size}
use Rattle.plan_check.specs.Labels.{mark_at}
use Rattle.plan_check.proofs.LedSteps.{one_ended, one_found, one_passed, place_below}
use Rattle.plan_check.proofs.spreading.has_marked.Goals as goal

pub is_marked-requires : goal.is_marked-requires
is_marked-requires g c =
    place_below (graph_size c.args.graph.now) (length c.args.marks.now) (followers_at c.args.graph.now) c.requires.inside c.args.number c.loop-k.k c.next_at-follower.result c.requires.number (sym c.requires.marks)
    (omega (arith, c.loop-k-test.true, c.next_len-k-end.ensures)) (c.next_at-follower.ensures.next)

pub loop-k-preserved : goal.loop-k-preserved
loop-k-preserved g c = record {
  led = one_passed (mark_at c.args.marks.now) (followers_at c.args.graph.now c.args.number) c.loop-k.k c.next_at-follower.result (omega (arith, c.loop-k-test.true, c.next_len-k-end.ensures)) (c.next_at-follower.ensures.next) c.loop-k.invariant.led (sym c.is_marked.ensures ∙ c.if-is_marked.false);
  steps = omega (arith, c.loop-k.invariant.steps, c.next_at-follower.ensures.step);
  inside = omega (arith, c.loop-k-test.true, c.next_len-k-end.ensures);
}

pub returns-then-is_marked-clause-led : goal.returns-then-is_marked-clause-led
returns-then-is_marked-clause-led g c = one_found (mark_at c.args.marks.now) (followers_at c.args.graph.now c.args.number) c.loop-k.k c.next_at-follower.result (omega (arith, c.loop-k-test.true, c.next_len-k-end.ensures)) (c.next_at-follower.ensures.next) c.loop-k.invariant.led (sym c.is_marked.ensures ∙ c.if-is_marked.true)

pub returns-then-is_marked-clause-steps : goal.returns-then-is_marked-clause-steps
returns-then-is_marked-clause-steps g c = omega (arith, c.loop-k-test.true, c.next_len-k-end.ensures, c.loop-k.invariant.steps, c.next_at-follower.ensures.step)

pub returns-clause-led : goal.returns-clause-led
returns-clause-led g c = one_ended (mark_at c.args.marks.now) (followers_at c.args.graph.now c.args.number) c.loop-k.k c.loop-k.invariant.led (omega (arith, c.loop-k-test.false, c.next_len-k-end.ensures))

pub returns-clause-steps : goal.returns-clause-steps
returns-clause-steps g c = omega (arith, c.loop-k.invariant.steps, c.loop-k.invariant.inside)
