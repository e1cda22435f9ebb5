use Rattle.std.proofs.Common.{[], ◌∷◌, length-append, ap, ◌∙◌, ◌+◌, length}
use Rattle.ground_instances.specs.Entering.{list_of}
use Rattle.ground_instances.proofs.EnteringLemmas.{still_empty}
use Rattle.ground_instances.proofs.objects.lists_by_top.Goals as goal

pub loop-preserved : goal.loop-preserved
loop-preserved c = record {
  lists =
      ap (λ xs. length xs) c.in_ok-push.ensures.items ∙ length-append c.loop.lists.items (c.new.result ∷ [])
      ∙ ap (λ n. n + 1) c.loop.invariant.lists;
  empty = λ t. ap (λ ls. list_of ls t) c.in_ok-push.ensures.items ∙ still_empty c.loop.lists.items c.new.result c.new.ensures.items c.loop.invariant.empty t;
}
