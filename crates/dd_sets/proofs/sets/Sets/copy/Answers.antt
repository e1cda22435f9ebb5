-- The number of a live slot in a new one.
use Rattle.std.proofs.Common.{[], ap}
use Rattle.dd_sets.specs.LiveSets.{LiveSets}
use Rattle.dd_sets.proofs.MadeLemmas.{makes_none}
use Rattle.dd_sets.proofs.SlotLemmas.{placed, number_set, number_in_table}
use Rattle.dd_sets.proofs.sets.Sets.copy.Goals as goal

pub invariant_of-self : goal.invariant_of-self
invariant_of-self c = (
  (placed c.store.ensures c.self.view_is c.self.invariant.0 (number_set c.self.view_is c.args.a.0 c.number-number.result c.number-number.ensures.number)
      (number_in_table c.self.view_is c.number-number.ensures.in_table)).sound,
  c.self.invariant.1,
)

pub returns-clause-added : goal.returns-clause-added
returns-clause-added c = (placed c.store.ensures c.self.view_is c.self.invariant.0 (number_set c.self.view_is c.args.a.0 c.number-number.result c.number-number.ensures.number)
    (number_in_table c.self.view_is c.number-number.ensures.in_table)).added

pub returns-clause-kept : goal.returns-clause-kept
returns-clause-kept c = (placed c.store.ensures c.self.view_is c.self.invariant.0 (number_set c.self.view_is c.args.a.0 c.number-number.result c.number-number.ensures.number)
    (number_in_table c.self.view_is c.number-number.ensures.in_table)).kept

pub returns-clause-refused : goal.returns-clause-refused
returns-clause-refused c = (placed c.store.ensures c.self.view_is c.self.invariant.0 (number_set c.self.view_is c.args.a.0 c.number-number.result c.number-number.ensures.number)
    (number_in_table c.self.view_is c.number-number.ensures.in_table)).refused

pub returns-clause-sound : goal.returns-clause-sound
returns-clause-sound c = (placed c.store.ensures c.self.view_is c.self.invariant.0 (number_set c.self.view_is c.args.a.0 c.number-number.result c.number-number.ensures.number)
    (number_in_table c.self.view_is c.number-number.ensures.in_table)).sound

pub returns-clause-made : goal.returns-clause-made
returns-clause-made c = makes_none _ _ [] (ap (λ (s : LiveSets). s.nodes) c.self.view_is)
