use Rattle.std.proofs.Common.{ap, sym, ◌∙◌, arith}
use Rattle.ground_instances.specs.Tables.{setting_in}
use Rattle.pddl_ast.specs.Values.{effect_value}
use Rattle.pddl_system.specs.Sizes.{binding_count, outcome_count}
use Rattle.ground_task.specs.Capped.{capped}
use Rattle.ground_task.proofs.Capping.{power_of}
use Rattle.ground_task.proofs.CountLemmas.{product_end, product_more, sum_end}
use Rattle.ground_task.proofs.EffectLemmas.{is_Both, is_OneOf, is_Each}
use Rattle.ground_task.proofs.counts.+outcome_count.Goals as goal

pub loop-part-preserved : goal.loop-part-preserved
loop-part-preserved t c = (
  omega (arith, c.product-count.ensures),
  product_more (setting_in c.args.setting.now).objects c.deref-part-items.result.now c.loop-part.part-index c.loop-part.count c.outcome_count.result c.product-count.result _ c.part-item.result c.loop-part-test.true c.part-item.is c.outcome_count.ensures c.product-count.ensures c.loop-part.invariant.1,
)

pub returns-after-loop-part : goal.returns-after-loop-part
returns-after-loop-part t c =
    let objects = (setting_in c.args.setting.now).objects in
    product_end objects c.deref-part-items.result.now c.loop-part.part-index c.loop-part.count c.loop-part-test.false c.loop-part.invariant.0 c.loop-part.invariant.1
    ∙ ap (λ e. capped (outcome_count objects e)) (sym (is_Both c.args.effect.now c.in-Both.parts _ c.in-Both.is c.deref-part-items.ensures.value))

pub returns-after-loop-part-2 : goal.returns-after-loop-part-2
returns-after-loop-part-2 t c =
    let objects = (setting_in c.args.setting.now).objects in
    sum_end objects c.deref-part-items-in-OneOf.result.now c.loop-part-2.part-index c.loop-part-2.count c.loop-part-2-test.false c.loop-part-2.invariant.0 c.loop-part-2.invariant.1
    ∙ ap (λ e. capped (outcome_count objects e)) (sym (is_OneOf c.args.effect.now c.in-OneOf.parts _ c.in-OneOf.is c.deref-part-items-in-OneOf.ensures.value))

pub returns-in-Each : goal.returns-in-Each
returns-in-Each t c =
    let objects = (setting_in c.args.setting.now).objects in
    power_of (outcome_count objects (effect_value c.deref-in-Each.result.now)) (binding_count objects c.deref-in-Each-2.result.now) c.outcome_count-in-Each.result c.binding_count.result c.power.result c.outcome_count-in-Each.ensures c.binding_count.ensures c.power.ensures
    ∙ ap (λ e. capped (outcome_count objects e)) (sym (is_Each c.args.effect.now c.in-Each.types c.in-Each.part _ _ c.in-Each.is c.deref-in-Each-2.ensures.value c.deref-in-Each.ensures))
