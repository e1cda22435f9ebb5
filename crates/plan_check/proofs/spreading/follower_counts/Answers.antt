use Rattle.std.proofs.Common.{◌+◌, length, slice_index_or, ap, ◌∙◌}
use Rattle.std.proofs.lemmas.List.{length_push}
use Rattle.exec_graph.specs.Values.{followers_at}
use Rattle.plan_check.proofs.SpreadSteps.{count_push}
use Rattle.plan_check.proofs.spreading.follower_counts.Goals as goal

pub loop-i-preserved : goal.loop-i-preserved
loop-i-preserved c =
    record {
      count = ap length c.in_ok-push.ensures.items ∙ (length_push c.loop-i.counts.items c.next_len.result ∙ ap (λ k. k + 1) c.loop-i.invariant.count);
      each = λ k l. ap (λ xs. slice_index_or xs k 0) c.in_ok-push.ensures.items
          ∙ count_push c.loop-i.counts.items c.next_len.result (λ j. length (followers_at c.args.graph.now j)) c.loop-i.i c.loop-i.invariant.count c.loop-i.invariant.each
          (c.next_len.ensures) k l;
    }
