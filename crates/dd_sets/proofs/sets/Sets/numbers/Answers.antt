-- At the end of the loop all entries are done, by the order that the sets have.
use Rattle.std.proofs.Common.{ap, subst, ◌∙◌}
use Rattle.std.proofs.lemmas.List.{take_all}
use Rattle.dd_sets.specs.LiveSets.{LiveSets}
use Rattle.dd_sets.specs.Orders.{AreInverse}
use Rattle.dd_sets.specs.Stores.{refs_of}
use Rattle.dd_sets.proofs.sets.Sets.numbers.Goals as goal

pub returns : goal.returns
returns c = record {
  variables = c.self.inside.order.variables;
  inverse = subst (λ (s : LiveSets). AreInverse s.vars s.order c.self.inside.order.variables) c.self.view_is c.self.invariant.1.inverse;
  are = c.loop-entry.invariant ∙ ap (refs_of c.self.inside.order.variables c.args.self.now) (take_all c.loop-entry.entry-index c.args.map.now c.loop-entry-test.false);
}
