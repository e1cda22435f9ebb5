use Rattle.std.proofs.Common.{sym, ◌∙◌, arith}
use borrow.Author.Count.{below_more}
use Rattle.std.proofs.lemmas.Bool.{false≢true}
use Rattle.task_core.specs.States.{vector}
use Rattle.task_core.specs.Tasks.{fluent_count, system_of}
use Rattle.plan_rules.specs.Rules.{context_rule_of}
use Rattle.plan_witness.specs.Ends.{IsLostAt}
use Rattle.plan_witness.proofs.Counting.{outcome_exec}
use Rattle.plan_witness.proofs.Taken.{number_outcome, outcome_number}
use Rattle.plan_witness.proofs.stuck.lost_outcome.Goals as goal

pub returns-then-not-is_exec-clause-none : goal.returns-then-not-is_exec-clause-none
returns-then-not-is_exec-clause-none c = λ l.
    absurd (false≢true (sym c.if-not-is_exec.true ∙ c.is_exec.ensures.executable.1 (outcome_exec (system_of c.args.task.now) _ _ _ l.outcome)))

pub returns-then-is_lost_at-clause-below : goal.returns-then-is_lost_at-clause-below
returns-then-is_lost_at-clause-below c = omega (arith, c.loop-outcome-test.true, c.outcome_count-outcome-end.ensures)

pub returns-then-is_lost_at-clause-loses : goal.returns-then-is_lost_at-clause-loses
returns-then-is_lost_at-clause-loses c =
    let l = c.is_lost_at.ensures.0 c.if-is_lost_at.true in
    record { after = l.after; outcome = number_outcome c.args.task.now _ _ _ c.loop-outcome.outcome (omega (arith, c.loop-outcome-test.true, c.outcome_count-outcome-end.ensures)) l.leads; lost = l.lost }

pub loop-outcome-preserved : goal.loop-outcome-preserved
loop-outcome-preserved c =
    below_more (λ k. IsLostAt (system_of c.args.task.now) (context_rule_of c.args.rule.now) (vector (fluent_count c.args.task.now) c.args.state.now) k → ⊥) c.loop-outcome.outcome c.loop-outcome.invariant
    (λ l. false≢true (sym c.if-is_lost_at.false ∙ c.is_lost_at.ensures.1 l))

pub returns-clause-none : goal.returns-clause-none
returns-clause-none c = λ l.
    let w = outcome_number c.args.task.now _ _ _ l.outcome in
    absurd (c.loop-outcome.invariant w.0 (let b = w.1 in omega (arith, b, c.loop-outcome-test.false, c.outcome_count-outcome-end.ensures)) (record { after = l.after; leads = w.2; lost = l.lost }))
