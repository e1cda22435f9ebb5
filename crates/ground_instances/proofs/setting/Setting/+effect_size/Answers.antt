use Rattle.std.proofs.Common.{◌∙◌, ap, sym}
use Rattle.ground_instances.specs.Counts.{shown}
use Rattle.ground_instances.specs.Tables.{setting_in}
use Rattle.ground_instances.proofs.Counts.{each_binding}
use Rattle.ground_instances.proofs.TreeValues.{value_Each}
use Rattle.pddl_ast.specs.Values.{effect_value}
use Rattle.pddl_system.specs.Sizes.{binding_count, effect_size}
use Rattle.ground_instances.proofs.setting.Setting.+effect_size.Goals as goal

pub returns-in-Each : goal.returns-in-Each
returns-in-Each t c =
    let objects = (setting_in c.args.self.now).objects in
    each_binding (binding_count objects c.in-Each.types.items) (effect_size objects (effect_value c.in-Each.part.value))
    c.binding_count.result c.effect_size-in-Each.result c.product.result c.total-in-Each.result
    (c.binding_count.ensures ∙ ap (λ types. shown (binding_count objects types)) c.deref-in-Each.ensures.value)
    (c.effect_size-in-Each.ensures ∙ ap (λ part. shown (effect_size objects (effect_value part))) c.deref-in-Each-2.ensures)
    c.product.ensures c.total-in-Each.ensures
    ∙ ap (λ tree. shown (effect_size objects tree)) (sym (ap effect_value c.in-Each.is ∙ value_Each c.in-Each.types c.in-Each.part))
