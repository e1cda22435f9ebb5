use Rattle.std.proofs.Common.{◌↔◌, ◌+◌, ℕ, length, sym, ap, ◌∙◌, subst}
use Rattle.std.proofs.lemmas.List.{length_push}
use Rattle.std.specs.List.{Contains}
use Rattle.plan_check.specs.Walks.{IsMarked}
use Rattle.plan_check.proofs.MarkFacts.{marked_push}
use Rattle.goal_witness.specs.Zones.{next_in}
use Rattle.goal_witness.proofs.rounds.follower_marks.Goals as goal

pub loop-i-preserved : goal.loop-i-preserved
loop-i-preserved g c =
    let old = c.loop-i.marks.items in
    let x = c.follows_in.result in
    let P = (λ (k : ℕ). Contains (next_in c.args.zone.now.graph.now c.args.zone.now.inside.now c.args.number) k) in
    record {
      count = ap length c.in_ok-push.ensures.items ∙ (length_push old x ∙ ap (λ k. k + 1) c.loop-i.invariant.count);
      marked = λ k l.
          subst (λ ms. IsMarked ms k ↔ P k) (sym c.in_ok-push.ensures.items)
          (marked_push old x P c.loop-i.i c.loop-i.invariant.count c.loop-i.invariant.marked c.follows_in.ensures k l);
    }
