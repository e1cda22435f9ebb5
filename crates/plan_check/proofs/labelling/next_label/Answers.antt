use Rattle.std.proofs.Common.{◌+◌, length, ap, ◌∙◌, arith}
use Rattle.std.proofs.lemmas.List.{length_push}
use Rattle.exec_graph.specs.Values.{followers_at, graph_size}
use Rattle.plan_check.specs.Labels.{is_led, mark_at}
use Rattle.plan_check.proofs.LabelFacts.{mark_push}
use Rattle.plan_check.proofs.Sums.{sum_next, sum_rises}
use Rattle.plan_check.proofs.labelling.next_label.Goals as goal

pub is_led-requires-clause-number : goal.is_led-requires-clause-number
is_led-requires-clause-number g c = omega (arith, c.len-i-end.ensures.size 0)

pub loop-i-preserved : goal.loop-i-preserved
loop-i-preserved g c =
    record {
      count = ap length c.in_ok-push.ensures.items ∙ (length_push c.loop-i.marks.items c.is_led.result ∙ ap (λ k. k + 1) c.loop-i.invariant.count);
      each = λ k l. ap (λ ms. mark_at ms k) c.in_ok-push.ensures.items
          ∙ mark_push c.loop-i.marks.items c.is_led.result (λ j. is_led c.args.need (mark_at c.args.label.now) (followers_at c.args.graph.now j)) c.loop-i.i c.loop-i.invariant.count c.loop-i.invariant.each
          c.is_led.ensures.led k l;
      steps = let more = sum_next (λ j. length (followers_at c.args.graph.now j)) c.loop-i.i in omega (arith, more, c.is_led.ensures.steps, c.loop-i.invariant.steps);
    }

pub returns-clause-steps : goal.returns-clause-steps
returns-clause-steps g c =
    let most = sum_rises (λ j. length (followers_at c.args.graph.now j)) c.loop-i.i (graph_size c.args.graph.now) (omega (arith, c.len-i-end.ensures.size 0)) in
    omega (arith, most, c.loop-i.invariant.steps)

pub returns-in_err-push-clause-steps : goal.returns-in_err-push-clause-steps
returns-in_err-push-clause-steps g c =
    let more = sum_next (λ j. length (followers_at c.args.graph.now j)) c.loop-i.i in
    let most = sum_rises (λ j. length (followers_at c.args.graph.now j)) (c.loop-i.i + 1) (graph_size c.args.graph.now) (omega (arith, c.len-i-end.ensures.size 0)) in
    omega (arith, more, most, c.is_led.ensures.steps, c.loop-i.invariant.steps)
