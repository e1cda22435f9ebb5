use Rattle.std.proofs.Common.{◌≡◌, ◌↔◌, ◌+◌, ℕ, length, sym, ap, ◌∙◌, subst, arith}
use Rattle.std.proofs.lemmas.List.{length_push}
use Rattle.task_core.specs.States.{vector}
use Rattle.plan_check.specs.Walks.{IsMarked}
use Rattle.plan_check.proofs.MarkFacts.{marked_push}
use Rattle.plan_witness.specs.Marked.{place_at}
use Rattle.plan_witness.proofs.onward.marks_of.Goals as goal

pub loop-i-preserved : goal.loop-i-preserved
loop-i-preserved c =
    let old = c.loop-i.marks.items in
    let x = c.is_place.result in
    record {
      count = ap length c.in_ok-push.ensures.items ∙ (length_push old x ∙ ap (λ k. k + 1) c.loop-i.invariant.count);
      marked = λ n within inside k l.
          let P = (λ (j : ℕ). place_at n c.args.graph.now j ≡ record { state = vector n c.args.state.now; context = c.args.context }) in
          subst (λ ms. IsMarked ms k ↔ P k) (sym c.in_ok-push.ensures.items)
          (marked_push old x P c.loop-i.i c.loop-i.invariant.count (λ j b. c.loop-i.invariant.marked n within inside j b) (c.is_place.ensures n within inside) k l);
    }

pub returns-clause-marked : goal.returns-clause-marked
returns-clause-marked c = λ n within inside i l. c.loop-i.invariant.marked n within inside i (omega (arith, l, c.len-i-end.ensures.len, c.loop-i-test.false))
