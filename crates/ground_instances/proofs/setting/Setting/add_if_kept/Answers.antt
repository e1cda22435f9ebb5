use Rattle.std.proofs.Common.{◌∙◌, ap, sym, refl}
use Rattle.pddl_system.specs.ThreeValues.{may_hold}
use Rattle.ground_instances.proofs.KeptLemmas.{append_kept, not_no}
use Rattle.ground_instances.proofs.setting.Setting.add_if_kept.Goals as goal

pub returns-clause-added : goal.returns-clause-added
returns-clause-added c = λ _.
    append_kept c.args.action.now.number c.args.objects.now.items c.args.kept.now.items c.push.new.self.items _ _
    (ap may_hold (sym c.in_ok-value.ensures.value) ∙ not_no c.in_ok-value.field-0 (sym c.eq.ensures ∙ c.if-eq.false))
    c.in_ok-push.ensures.items refl (c.in_ok-from_slice.ensures.ok ∙ c.deref.ensures.value ∙ c.in_ok-value.ensures.scope)
