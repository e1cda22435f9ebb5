use Rattle.std.proofs.Common.{◌∙◌, ap, sym, inl, inr}
use Rattle.ground_instances.specs.Counts.{shown}
use Rattle.ground_instances.specs.Tables.{setting_in}
use Rattle.ground_instances.proofs.Counts.{each_binding}
use Rattle.ground_instances.proofs.TreeValues.{value_Exists, value_Forall}
use Rattle.pddl_ast.specs.Values.{formula_value}
use Rattle.pddl_system.specs.Sizes.{binding_count, formula_size}
use Rattle.ground_instances.proofs.setting.Setting.+formula_size.Goals as goal

pub returns-in-Exists : goal.returns-in-Exists
returns-in-Exists t c =
    let objects = (setting_in c.args.self.now).objects in
    let size = each_binding (binding_count objects c.in-Exists.types.items) (formula_size objects (formula_value c.in-Exists.part.value))
    c.binding_count.result c.formula_size-in-Exists.result c.product.result c.total-in-Exists.result
    (c.binding_count.ensures ∙ ap (λ types. shown (binding_count objects types)) c.deref-in-Exists.ensures.value)
    (c.formula_size-in-Exists.ensures ∙ ap (λ part. shown (formula_size objects (formula_value part))) c.deref-in-Exists-2.ensures)
    c.product.ensures c.total-in-Exists.ensures in
    elim c.in-Exists.is [
      | inl is ↦ size ∙ ap (λ tree. shown (formula_size objects tree)) (sym (ap formula_value is ∙ value_Exists c.in-Exists.types c.in-Exists.part))
      | inr is ↦ size ∙ ap (λ tree. shown (formula_size objects tree)) (sym (ap formula_value is ∙ value_Forall c.in-Exists.types c.in-Exists.part))
    ]
