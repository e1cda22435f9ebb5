use Rattle.std.proofs.Common.{◌≡◌, arith, subst}
use Rattle.std.proofs.lemmas.List.{nil_from_length}
use Rattle.ground_instances.specs.Tables.{objects_at}
use Rattle.ground_instances.proofs.Numbered.{length_bindings}
use Rattle.pddl_system.specs.Objects.{bindings}
use Rattle.pddl_system.specs.Sizes.{binding_count}
use Rattle.never_executed.proofs.facts.cause_by_facts.Goals as goal

pub returns-then-count-eq0 : goal.returns-then-count-eq0
returns-then-count-eq0 c =
    let types = c.args.schema.now.parameters.items in
    let objects = objects_at c.args.looked.now.setting.now.objects in
    let counted : c.in_ok-count.count ≡ binding_count objects types = subst (λ ts. c.in_ok-count.count ≡ binding_count objects ts) c.deref.ensures.value c.in_ok-count.ensures.count in
    nil_from_length (bindings objects types) (omega (arith, c.if-count-eq0.true, counted, length_bindings objects types))
