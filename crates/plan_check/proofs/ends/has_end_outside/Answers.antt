use Rattle.std.proofs.Common.{◌≡◌, true, [], length, eqb, sym, ap, ◌∙◌, arith}
use borrow.Author.Count.{below_more}
use Rattle.std.proofs.lemmas.Bool.{false≢true, eqb-true}
use Rattle.std.proofs.lemmas.List.{nil_from_length}
use Rattle.exec_graph.specs.Values.{followers_at}
use Rattle.plan_check.specs.Plain.{is_goal_at}
use Rattle.plan_check.proofs.ends.has_end_outside.Goals as goal
use Rattle.plan_check.proofs.ends.has_end_outside.Goals.{else-is_end-via-then-is_end+else-not-is_goal, else-is_end-via-else-is_end}

pub is_end-requires : goal.is_end-requires
is_end-requires c = omega (arith, c.len-i-end.ensures.size 0)

pub is_goal-requires-clause-number : goal.is_goal-requires-clause-number
is_goal-requires-clause-number c = omega (arith, c.len-i-end.ensures.size 0)

pub returns-then-not-is_goal : goal.returns-then-not-is_goal
returns-then-not-is_goal c = λ n below.
    record {
      number = c.loop-i.i;
      below = omega (arith, c.len-i-end.ensures.size 0);
      end = nil_from_length (followers_at c.args.graph.now c.loop-i.i) (eqb-true (length (followers_at c.args.graph.now c.loop-i.i)) 0 (sym c.is_end.ensures ∙ c.if-is_end.true));
      outside = sym (c.is_goal.ensures n below) ∙ c.if-not-is_goal.true;
    }

pub loop-i-preserved : goal.loop-i-preserved
loop-i-preserved c = λ n k below l.
    below_more (λ j. followers_at c.args.graph.now j ≡ [] → is_goal_at n c.args.goal.now c.args.graph.now j ≡ true) c.loop-i.i
    (λ j m. c.loop-i.invariant n j below m)
    (elim c.else-is_end.branch [
      | else-is_end-via-then-is_end+else-not-is_goal w ↦ λ _. sym (w.is_goal.ensures n below) ∙ w.if-not-is_goal.false
      | else-is_end-via-else-is_end w ↦ λ e. absurd (false≢true (sym w.if-is_end.false ∙ (c.is_end.ensures ∙ ap (λ xs. eqb (length xs) 0) e)))
    ])
    k l

pub returns : goal.returns
returns c = λ n below i l e. c.loop-i.invariant n i below (omega (arith, c.len-i-end.ensures.size 0)) e
