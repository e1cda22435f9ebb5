use Rattle.std.proofs.Common.{◌+◌, ◌↔◌, length, eqb, sym, ap, ◌∙◌, subst, arith}
use Rattle.std.proofs.lemmas.Bool.{false≢true, eqb-true}
use Rattle.std.proofs.lemmas.List.{nil_from_length, length_push}
use Rattle.exec_graph.specs.Values.{followers_at}
use Rattle.plan_check.specs.Plain.{IsGoalEnd}
use Rattle.plan_check.specs.Walks.{IsMarked}
use Rattle.plan_check.proofs.MarkFacts.{marked_push}
use Rattle.plan_check.proofs.ends.goal_ends.Goals as goal
use Rattle.plan_check.proofs.ends.goal_ends.Goals.{then-is_end, else-is_end}

pub is_end-requires : goal.is_end-requires
is_end-requires c = omega (arith, c.len-i-end.ensures.size 0)

pub is_goal-requires-clause-number : goal.is_goal-requires-clause-number
is_goal-requires-clause-number c = omega (arith, c.len-i-end.ensures.size 0)

pub loop-i-preserved : goal.loop-i-preserved
loop-i-preserved c =
    record {
      count = ap length c.in_ok-push.ensures.items ∙ (length_push c.loop-i.marks.items c.if-is_end.push ∙ ap (λ k. k + 1) c.loop-i.invariant.count);
      marked = λ n k below l.
          subst (λ ms. IsMarked ms k ↔ IsGoalEnd n c.args.goal.now c.args.graph.now k) (sym c.in_ok-push.ensures.items)
          (marked_push c.loop-i.marks.items c.if-is_end.push (IsGoalEnd n c.args.goal.now c.args.graph.now) c.loop-i.i c.loop-i.invariant.count
          (λ j m. c.loop-i.invariant.marked n j below m)
          (elim c.if-is_end.branch [
            | then-is_end w ↦ ((λ t. record { end = nil_from_length (followers_at c.args.graph.now c.loop-i.i) (eqb-true (length (followers_at c.args.graph.now c.loop-i.i)) 0 (sym c.is_end.ensures ∙ w.if-is_end.true)); inside = sym (w.is_goal.ensures n below) ∙ (sym w.push-is ∙ t) }), (λ g. w.push-is ∙ (w.is_goal.ensures n below ∙ g.inside)))
            | else-is_end w ↦ ((λ t. absurd (false≢true (sym w.if-is_end.false ∙ (sym w.push-is ∙ t)))), (λ g. absurd (false≢true (sym w.if-is_end.false ∙ (c.is_end.ensures ∙ ap (λ xs. eqb (length xs) 0) g.end)))))
          ])
          k l);
    }

pub returns-clause-count : goal.returns-clause-count
returns-clause-count c = omega (arith, c.len-i-end.ensures.size 0)

pub returns-clause-marked : goal.returns-clause-marked
returns-clause-marked c = λ n i below l. c.loop-i.invariant.marked n i below (omega (arith, c.len-i-end.ensures.size 0))
