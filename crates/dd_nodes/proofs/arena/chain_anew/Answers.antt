-- No cell is chained while all buckets are empty.
use Rattle.std.proofs.Common.{◌∙◌, length, get_or, ap, refl}
use Rattle.std.proofs.lemmas.List.{length-replicate}
use Rattle.dd_nodes.proofs.Chains.{none_chained, zeros_at}
use Rattle.dd_nodes.proofs.arena.chain_anew.Goals as goal

pub loop-place-init : goal.loop-place-init
loop-place-init c = record {
  nodes = refl;
  size = refl;
  count = ap length c.make_zeros.ensures.zeros ∙ length-replicate c.args.count 0;
  chained = none_chained (length c.make_zeros.new.numbers.items) c.args.cells.now.items c.make_zeros.new.numbers.items
      (λ b. ap (λ l. get_or l b 0) c.make_zeros.ensures.zeros ∙ zeros_at c.args.count b);
  room = refl;
  bucket_room = c.make_zeros.ensures.room;
}
