use Rattle.std.proofs.Common.{◌≡◌, ◌*◌, ◌^◌, min, ap, sym, ◌∙◌, add-one, arith}
use Rattle.std.proofs.Math.Nat.{pow-suc}
use Rattle.ground_task.specs.Capped.{capped}
use Rattle.ground_task.proofs.Capping.{bounded_power, capped_factor}
use Rattle.ground_task.proofs.counts.power.Goals as goal

pub loop-i-preserved : goal.loop-i-preserved
loop-i-preserved c =
    c.product-value.ensures
    ∙ ap (λ n. capped (n * c.args.base)) c.loop-i.invariant
    ∙ capped_factor (c.args.base ^ c.loop-i._i) c.args.base
    ∙ ap capped (sym (pow-suc c.args.base c.loop-i._i) ∙ ap (λ n. c.args.base ^ n) (sym (add-one c.loop-i._i)))

pub returns : goal.returns
returns c =
    let n : c.loop-i._i ≡ min c.args.exponent 65 = omega arith in
    c.loop-i.invariant ∙ ap (λ k. capped (c.args.base ^ k)) n ∙ bounded_power c.args.base c.args.exponent
