use Rattle.std.proofs.Common.{◌≡◌, true, sym, ◌∙◌, arith}
use borrow.Author.Count.{below_more}
use Rattle.std.proofs.lemmas.Bool.{false≢true}
use Rattle.plan_check.specs.Plain.{is_initial_at}
use Rattle.plan_check.specs.Walks.{IsMarked}
use Rattle.goal_witness.proofs.witnesses.first_missing.Goals as goal
use Rattle.goal_witness.proofs.witnesses.first_missing.Goals.{else-initial-via-then-initial+else-not-is_marked, else-initial-via-else-initial}

pub returns-then-not-is_marked-clause-initial : goal.returns-then-not-is_marked-clause-initial
returns-then-not-is_marked-clause-initial c = sym (c.initial.ensures 0) ∙ c.if-initial.true

pub loop-i-preserved : goal.loop-i-preserved
loop-i-preserved c =
    below_more (λ k. is_initial_at c.args.graph.now k ≡ true → IsMarked c.args.marks.now k) c.loop-i.i c.loop-i.invariant
    (elim c.else-initial.branch [
      | else-initial-via-then-initial+else-not-is_marked w ↦ λ _. sym w.is_marked.ensures ∙ w.if-not-is_marked.false
      | else-initial-via-else-initial w ↦ λ e. absurd (false≢true (sym w.if-initial.false ∙ (c.initial.ensures 0 ∙ e)))
    ])

pub returns-clause-none : goal.returns-clause-none
returns-clause-none c = λ i l e. c.loop-i.invariant i (omega (arith, c.len-i-end.ensures.size 0)) e
