use Rattle.std.proofs.Common.{◌≡◌, ℕ, nat_lt, ap, ◌∙◌, arith}
use Rattle.std.specs.List.{filter, range_with_len}
use Rattle.plan_witness.specs.Ways.{at, far}
use Rattle.plan_witness.proofs.Onwards.{filter_more}
use Rattle.plan_witness.proofs.onward.reached_numbers.Goals as goal

pub loop-i-preserved : goal.loop-i-preserved
loop-i-preserved c =
    let test = λ (k : ℕ). nat_lt (at c.args.ways.now.lengths.items k) far in
    filter_more test c.loop-i.i (nat_lt c.length_at.result far) c.loop-i.numbers.items c.push_if.new.numbers.items c.loop-i.invariant
    (ap (λ k. nat_lt k far) c.length_at.ensures) c.in_ok-push_if.ensures

pub returns : goal.returns
returns c =
    let test = λ (k : ℕ). nat_lt (at c.args.ways.now.lengths.items k) far in
    let end : c.loop-i.i ≡ _ = omega (arith, c.loop-i-test.false, c.len-i-end.ensures.len) in
    c.loop-i.invariant ∙ ap (λ k. filter test (range_with_len 0 k)) end
