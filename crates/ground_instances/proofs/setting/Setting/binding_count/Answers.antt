use Rattle.std.proofs.Common.{◌≡◌, ◌*◌, ◌≤◌, ◌∙◌, ap, sym, subst, length, get_or}
use Rattle.ground_instances.specs.Counts.{shown}
use Rattle.ground_instances.specs.Tables.{setting_in}
use Rattle.ground_instances.proofs.Counts.{count_step, shown_within}
use Rattle.ground_instances.proofs.setting.Setting.binding_count.Goals as goal

pub loop-type_id-preserved : goal.loop-type_id-preserved
loop-type_id-preserved c =
    let next : c.product-count.result ≡ shown (c.loop-type_id.count * length ((setting_in c.args.self.now).objects (get_or c.args.types.now c.loop-type_id.type_id-index 0))) = c.product-count.ensures ∙ ap (λ xs. shown (c.loop-type_id.count * length xs)) c.objects_of.ensures in
    record {
      within = subst (λ k. k ≤ 1000001) (sym next) (shown_within _);
      product = count_step (setting_in c.args.self.now).objects c.args.types.now c.loop-type_id.type_id-index c.loop-type_id.count c.product-count.result c.loop-type_id-test.true next ∙ c.loop-type_id.invariant.product;
    }
