-- What the tries leave, and then the new slot.
use Rattle.std.proofs.Common.{ap}
use Rattle.dd_sets.specs.LiveSets.{LiveSets}
use Rattle.dd_sets.proofs.MadeLemmas.{makes_then}
use Rattle.dd_sets.proofs.TryLemmas.{stored}
use Rattle.dd_sets.proofs.sets.Sets.answer.Goals as goal

pub returns-clause-added : goal.returns-clause-added
returns-clause-added c = (stored c.args.operation c.in_ok-number.ensures c.self.view_is c.self.invariant.0 c.store.ensures).added

pub returns-clause-kept : goal.returns-clause-kept
returns-clause-kept c = (stored c.args.operation c.in_ok-number.ensures c.self.view_is c.self.invariant.0 c.store.ensures).kept

pub returns-clause-made : goal.returns-clause-made
returns-clause-made c = makes_then _ c.try_twice.new.self _ _ c.in_ok-number.ensures.made (ap (λ (s : LiveSets). s.nodes) c.self.view_is)
