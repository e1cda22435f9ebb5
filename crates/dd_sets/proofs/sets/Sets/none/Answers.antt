-- A constant's number is in every table.
use Rattle.std.proofs.Common.{arith, [], ap}
use Rattle.dd_nodes.proofs.NodeLemmas.{function_false}
use Rattle.dd_sets.specs.LiveSets.{LiveSets}
use Rattle.dd_sets.specs.Orders.{at_place}
use Rattle.dd_sets.proofs.MadeLemmas.{makes_none}
use Rattle.dd_sets.proofs.SlotLemmas.{placed}
use Rattle.dd_sets.proofs.sets.Sets.none.Goals as goal

pub invariant_of-self : goal.invariant_of-self
invariant_of-self c = ((placed c.store.ensures c.self.view_is c.self.invariant.0 (λ i values. function_false c.self.inside.ops.nodes (λ v. values (at_place c.self.inside.order.fluents v)) i) (omega arith)).sound, c.self.invariant.1)

pub returns-clause-added : goal.returns-clause-added
returns-clause-added c = (placed c.store.ensures c.self.view_is c.self.invariant.0 (λ i values. function_false c.self.inside.ops.nodes (λ v. values (at_place c.self.inside.order.fluents v)) i) (omega arith)).added

pub returns-clause-kept : goal.returns-clause-kept
returns-clause-kept c = (placed c.store.ensures c.self.view_is c.self.invariant.0 (λ i values. function_false c.self.inside.ops.nodes (λ v. values (at_place c.self.inside.order.fluents v)) i) (omega arith)).kept

pub returns-clause-refused : goal.returns-clause-refused
returns-clause-refused c = (placed c.store.ensures c.self.view_is c.self.invariant.0 (λ i values. function_false c.self.inside.ops.nodes (λ v. values (at_place c.self.inside.order.fluents v)) i) (omega arith)).refused

pub returns-clause-sound : goal.returns-clause-sound
returns-clause-sound c = (placed c.store.ensures c.self.view_is c.self.invariant.0 (λ i values. function_false c.self.inside.ops.nodes (λ v. values (at_place c.self.inside.order.fluents v)) i) (omega arith)).sound

pub returns-clause-made : goal.returns-clause-made
returns-clause-made c = makes_none _ _ [] (ap (λ (s : LiveSets). s.nodes) c.self.view_is)
