use Rattle.std.proofs.Common.{◌≡◌, suc, ◌+◌, ◌∷◌, ◌||◌, drop, map, ap, sym, ◌∙◌, add-one}
use Rattle.std.proofs.Math.Seq.{drop-cons}
use Rattle.pddl_ast.specs.Values.{atom_value}
use Rattle.pddl_system.specs.GroundAtoms.{is_among}
use Rattle.ground_instances.specs.Atoms.{atom_tree}
use Rattle.ground_instances.proofs.SameAtoms.{fact_step}
use Rattle.ground_instances.proofs.changed.fact_set.Goals as goal

pub loop-fact-preserved : goal.loop-fact-preserved
loop-fact-preserved c = λ a.
    let items = c.deref-fact-items.result.now in
    let i = c.loop-fact.fact-index in
    let fact = c.fact-item.result in
    let objects : c.in_ok-from_slice.field-0.items ≡ fact.objects.items = c.in_ok-from_slice.ensures.ok ∙ c.deref.ensures in
    let here : map atom_value (drop i items) ≡ atom_value fact ∷ map atom_value (drop (i + 1) items) =
    ap (map atom_value) (drop-cons items i fact c.loop-fact-test.true)
    ∙ ap (λ f. atom_value f ∷ map atom_value (drop (suc i) items)) (sym c.fact-item.is)
    ∙ ap (λ k. atom_value fact ∷ map atom_value (drop k items)) (sym (add-one i)) in
    fact_step c.loop-fact.facts.keys c.insert.new.self.keys _ (atom_value fact) a (map atom_value (drop (i + 1) items)) _ c.in_ok-insert.ensures.keys
    (λ j. record { predicate = fact.predicate; objects = objects j })
    (ap (λ xs. is_among (map atom_tree c.loop-fact.facts.keys) a || is_among xs a) (sym here) ∙ c.loop-fact.invariant a)
