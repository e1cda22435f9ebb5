-- A place that has another number.
use Rattle.std.proofs.Common.{◌≡◌, ◌∙◌, sym, arith, IsTrue}
use Rattle.std.proofs.lemmas.Grind.{get_or_default_zero}
use Rattle.dd_sets.proofs.order.leaves_places.Goals as goal

pub returns-then-numbers-place : goal.returns-then-numbers-place
returns-then-numbers-place c = (
  λ never. cc,
  λ own. absurd (c.if-numbers-place.true (sym (get_or_default_zero c.args.numbers.now c.loop-place.place c.loop-place.place (omega arith)) ∙ own c.loop-place.place)),
)
