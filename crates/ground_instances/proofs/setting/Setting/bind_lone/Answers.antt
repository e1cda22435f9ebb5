use Rattle.std.proofs.Common.{◌≡◌, suc, length, get_or, ap, sym, ◌∙◌, arith}
use Rattle.ground_instances.specs.Tables.{setting_in}
use Rattle.ground_instances.proofs.UnderLemmas.{begun_more, length-one, lone_rows, one_of}
use Rattle.ground_instances.proofs.setting.Setting.bind_lone.Goals as goal

pub loop-place-preserved : goal.loop-place-preserved
loop-place-preserved c =
    let at = setting_in c.args.self.now in
    let types = c.args.types.now in
    let first = c.loop-place.scope.items in
    let chosen = c.objects_of-objects.result.now in
    let place : length first ≡ c.loop-place.place = c.loop-place.invariant.place in
    let pushed = c.in_ok-push.ensures.items in
    record {
      place = (let l : length c.push.new.self.items ≡ suc (length first) = ap (λ xs. length xs) pushed ∙ length-one first (get_or chosen 0 0) in omega (arith, l, place));
      kept = begun_more c.args.scope.now.items first c.push.new.self.items c.loop-place.invariant.kept (one_of first (get_or chosen 0 0) c.push.new.self.items pushed);
      rows = lone_rows at types first chosen c.push.new.self.items (omega (arith, place, c.loop-place-test.true))
          (c.objects_of-objects.ensures ∙ ap (λ k. at.objects (get_or types k 0)) (sym place)) (omega (arith, c.if-objects-ne1.false)) pushed ∙ c.loop-place.invariant.rows;
    }
