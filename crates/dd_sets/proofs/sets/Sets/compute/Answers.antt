-- Each operation on slots is that on their numbers.
use Rattle.std.proofs.Common.{refl, ◌∙◌, sym, ap, subst}
use Rattle.dd_nodes.specs.NodeList.{function}
use Rattle.dd_ops.specs.Operations.{variable, not_of, and_of, or_of, minus_of, cofactor_of}
use Rattle.dd_sets.specs.LiveSets.{set_of}
use Rattle.dd_sets.specs.Orders.{read}
use Rattle.dd_sets.specs.Stores.{view_of, AreRefs}
use Rattle.dd_sets.specs.Tries.{Computes, IsReady}
use Rattle.dd_sets.specs.declared.operation.Operation.{Operation}
use Rattle.dd_sets.specs.declared.operation.Operation.TheVariants.{Variable, Not, And, Or, Minus, Cofactor, Subst}
use Rattle.dd_sets.proofs.MadeLemmas.{pieces_made}
use Rattle.dd_sets.proofs.OrderLemmas.{read_cofactor, read_variable}
use Rattle.dd_sets.proofs.SetLemmas.{refs_ready, subst_made}
use Rattle.dd_sets.proofs.SlotLemmas.{number_set}
use Rattle.dd_sets.proofs.TryLemmas.{computed, computed_one}
use Rattle.dd_sets.proofs.sets.Sets.compute.Goals as goal

pub returns-in-Variable-clause-computes : goal.returns-in-Variable-clause-computes
returns-in-Variable-clause-computes c = computed_one c.var.ensures.answers c.var.ensures.grows c.self.view_is (Variable c.in-Variable.f) c.in-Variable.is
    (ap (λ v. read c.self.inside.order.fluents (variable v)) c.variable.ensures ∙ read_variable c.self.inside.order.fluents c.self.inside.order.variables c.self.invariant.1.inverse c.in-Variable.f.0) refl

pub returns-in-Not-clause-computes : goal.returns-in-Not-clause-computes
returns-in-Not-clause-computes c = computed_one c.not.ensures.answers c.not.ensures.grows c.self.view_is (Not c.in-Not.a) c.in-Not.is
    (λ i. not_of (number_set c.self.view_is c.in-Not.a.0 c.number-f.result c.number-f.ensures.number i)) refl

pub returns-in-And-clause-computes : goal.returns-in-And-clause-computes
returns-in-And-clause-computes c = computed_one c.and.ensures.answers c.and.ensures.grows c.self.view_is (And c.in-And.a c.in-And.b) c.in-And.is
    (λ i. and_of (number_set c.self.view_is c.in-And.a.0 c.number-f-in-And.result c.number-f-in-And.ensures.number i) (number_set c.self.view_is c.in-And.b.0 c.number-g.result c.number-g.ensures.number i)) refl

pub returns-in-Or-clause-computes : goal.returns-in-Or-clause-computes
returns-in-Or-clause-computes c = computed_one c.or.ensures.answers c.or.ensures.grows c.self.view_is (Or c.in-Or.a c.in-Or.b) c.in-Or.is
    (λ i. or_of (number_set c.self.view_is c.in-Or.a.0 c.number-f-in-Or.result c.number-f-in-Or.ensures.number i) (number_set c.self.view_is c.in-Or.b.0 c.number-g-in-Or.result c.number-g-in-Or.ensures.number i)) refl

pub returns-in-Minus-clause-computes : goal.returns-in-Minus-clause-computes
returns-in-Minus-clause-computes c = computed_one c.minus.ensures.answers c.minus.ensures.grows c.self.view_is (Minus c.in-Minus.a c.in-Minus.b) c.in-Minus.is
    (λ i. minus_of (number_set c.self.view_is c.in-Minus.a.0 c.number-f-in-Minus.result c.number-f-in-Minus.ensures.number i) (number_set c.self.view_is c.in-Minus.b.0 c.number-g-in-Minus.result c.number-g-in-Minus.ensures.number i)) refl

pub returns-in-Cofactor-clause-computes : goal.returns-in-Cofactor-clause-computes
returns-in-Cofactor-clause-computes c = computed_one c.cofactor.ensures.answers c.cofactor.ensures.grows c.self.view_is (Cofactor c.in-Cofactor.a c.in-Cofactor.f c.in-Cofactor.value) c.in-Cofactor.is
    (ap (λ v. read c.self.inside.order.fluents (cofactor_of (function c.self.inside.ops.nodes c.number-number.result.0) v c.in-Cofactor.value)) c.variable-in-Cofactor.ensures
    ∙ read_cofactor c.self.inside.order.fluents c.self.inside.order.variables c.self.invariant.1.inverse c.in-Cofactor.f.0 c.in-Cofactor.value (function c.self.inside.ops.nodes c.number-number.result.0)
    ∙ (λ i. cofactor_of (number_set c.self.view_is c.in-Cofactor.a.0 c.number-number.result c.number-number.ensures.number i) c.in-Cofactor.f.0 c.in-Cofactor.value)) refl

pub subst-requires-clause-map_in_table : goal.subst-requires-clause-map_in_table
subst-requires-clause-map_in_table c =
    refs_ready c.self.view_is c.self.invariant.0 c.in-Subst.map.now (subst (λ (o : Operation). IsReady c.args.self.now o) c.in-Subst.is c.requires).1 c.deref.result.now (subst (AreRefs c.args.self.now c.in-Subst.map.now) (sym c.deref.ensures.value) c.in-Ok.ensures)

pub returns-in-Ok-clause-computes : goal.returns-in-Ok-clause-computes
returns-in-Ok-clause-computes c =
    subst (λ (o : Operation). Computes c.args.self.now (view_of c.self.inside.order.fluents c.subst.new.self c.self.inside.slots.slots) o c.subst.result) (sym c.in-Subst.is)
    (computed c.subst.ensures.answers c.subst.ensures.grows c.self.view_is (Subst c.in-Subst.a c.in-Subst.map)
    (subst_made c.self.view_is c.in-Subst.map.now c.deref.result.now (subst (AreRefs c.args.self.now c.in-Subst.map.now) (sym c.deref.ensures.value) c.in-Ok.ensures) (function c.self.inside.ops.nodes c.number-number-in-Subst.result.0) (set_of c.args.self.now c.in-Subst.a.0) (number_set c.self.view_is c.in-Subst.a.0 c.number-number-in-Subst.result c.number-number-in-Subst.ensures.number))
    (pieces_made c.self.view_is c.in-Subst.map.now c.deref.result.now (subst (AreRefs c.args.self.now c.in-Subst.map.now) (sym c.deref.ensures.value) c.in-Ok.ensures) c.number-number-in-Subst.result.0 (set_of c.args.self.now c.in-Subst.a.0)
    (number_set c.self.view_is c.in-Subst.a.0 c.number-number-in-Subst.result c.number-number-in-Subst.ensures.number)))
