use Rattle.std.proofs.Common.{◌<◌, ◌+◌, ◌^◌, ℕ, List, length, ap, sym, ◌∙◌, subst, arith}
use Rattle.std.proofs.lemmas.List.{length_push}
use Rattle.plan_witness.specs.Ways.{at}
use Rattle.plan_witness.proofs.Ranks.{at_pushed}
use Rattle.plan_witness.proofs.levels.wide_ranks.Goals as goal

pub loop-i-preserved : goal.loop-i-preserved
loop-i-preserved c =
    let old = c.loop-i.wide.items in
    record {
      count = ap length c.in_ok-push.ensures.items ∙ (length_push old _ ∙ ap (λ k. k + 1) c.loop-i.invariant.count);
      small = subst (λ (xs : List ℕ). (i : ℕ) → at xs i < 2 ^ 32) (sym c.in_ok-push.ensures.items) (at_pushed (λ x. x < 2 ^ 32) old _ (omega arith) (omega arith) c.loop-i.invariant.small);
    }
