use Rattle.std.proofs.Common.{◌≡◌, ◌↔◌, ◌+◌, ℕ, true, length, sym, ap, ◌∙◌, subst}
use Rattle.std.proofs.lemmas.List.{length_push}
use Rattle.task_core.specs.Tasks.{fluent_count, system_of}
use Rattle.plan_rules.specs.Rules.{plain_of}
use Rattle.exec_graph.specs.Executions.{IsStuckAt}
use Rattle.plan_check.specs.Walks.{IsMarked}
use Rattle.plan_check.proofs.MarkFacts.{marked_push}
use Rattle.plan_witness.specs.Marked.{place_at}
use Rattle.plan_witness.proofs.Meanings.{at_place}
use Rattle.plan_witness.proofs.stuck.stuck_marks.Goals as goal

pub loop-i-preserved : goal.loop-i-preserved
loop-i-preserved c =
    let n = fluent_count c.args.task.now in
    let Q = IsStuckAt (system_of c.args.task.now) (plain_of c.args.plan.now) in
    let P = λ (k : ℕ). Q (place_at n c.args.graph.now k) in
    let old = c.loop-i.marks.items in
    let x = c.is_stuck_at.result in
    record {
      count = ap length c.in_ok-push.ensures.items ∙ (length_push old x ∙ ap (λ k. k + 1) c.loop-i.invariant.count);
      marked = λ k l.
          subst (λ ms. IsMarked ms k ↔ P k) (sym c.in_ok-push.ensures.items)
          (marked_push old x P c.loop-i.i c.loop-i.invariant.count c.loop-i.invariant.marked
          (subst (λ y. (x ≡ true) ↔ Q y) (sym (at_place n c.args.graph.now c.loop-i.i _ _ (c.state.ensures.state n) (c.context.ensures n))) c.is_stuck_at.ensures)
          k l);
    }

pub is_stuck_at-requires-clause-within : goal.is_stuck_at-requires-clause-within
is_stuck_at-requires-clause-within c = c.state.ensures.within (fluent_count c.args.task.now) c.requires.within
