-- One place more is undone.
use Rattle.std.proofs.Common.{◌∙◌, refl, arith}
use Rattle.dd_sets.proofs.OrderedLemmas.{turned_more}
use Rattle.dd_sets.proofs.order.turned_round.Goals as goal

pub loop-place-preserved : goal.loop-place-preserved
loop-place-preserved c = record {
  count = c.write.ensures.count ∙ c.loop-place.invariant.count;
  undone = turned_more c.args.numbers.now c.loop-place.turned.items c.write.new.numbers.items c.loop-place.place _ (omega arith) refl
      c.loop-place.invariant.count c.write.ensures.written c.loop-place.invariant.undone;
}
