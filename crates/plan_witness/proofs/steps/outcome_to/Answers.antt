use Rattle.std.proofs.Common.{◌≡◌, Some, sym, ◌∙◌, arith}
use borrow.Author.Count.{below_more}
use Rattle.std.proofs.lemmas.Bool.{false≢true}
use Rattle.task_core.specs.States.{vector}
use Rattle.task_core.specs.Tasks.{fluent_count, system_of}
use Rattle.plan_witness.proofs.Taken.{equal_vectors, if_state_is, if_state_same, outcome_inside, outcome_number, vectors_equal}
use Rattle.plan_witness.proofs.steps.outcome_to.Goals as goal

pub returns-then-not-in_space-clause-none : goal.returns-then-not-in_space-clause-none
returns-then-not-in_space-clause-none c = λ h.
    false≢true (sym c.if-not-in_space.true ∙ c.in_space.ensures.value ∙ outcome_inside c.args.task.now _ _ _ h)

pub returns-then-eq-clause-leads : goal.returns-then-eq-clause-leads
returns-then-eq-clause-leads c =
    let n = fluent_count c.args.task.now in
    c.step.ensures.numbered c.requires.executable
    ∙ if_state_is c.args.task.now (vector n c.step.result) (vector n c.args.to.now)
    (equal_vectors n c.step.result c.args.to.now c.step.ensures.within c.requires.to (sym c.eq.ensures ∙ c.if-eq.true))
    (sym c.in_space.ensures.value ∙ c.if-not-in_space.false)

pub loop-outcome-preserved : goal.loop-outcome-preserved
loop-outcome-preserved c =
    let n = fluent_count c.args.task.now in
    let sys = system_of c.args.task.now in
    let v = vector n c.args.from.now in
    below_more (λ k. sys.after v c.args.action.0 k ≡ Some (vector n c.args.to.now) → ⊥) c.loop-outcome.outcome c.loop-outcome.invariant
    (λ e. false≢true (sym c.if-eq.false ∙ c.eq.ensures
    ∙ vectors_equal n c.step.result c.args.to.now c.step.ensures.within c.requires.to
    (if_state_same c.args.task.now (vector n c.step.result) (vector n c.args.to.now) (sym (c.step.ensures.numbered c.requires.executable) ∙ e))))

pub returns-clause-none : goal.returns-clause-none
returns-clause-none c = λ h.
    let n = fluent_count c.args.task.now in
    let w = outcome_number c.args.task.now (vector n c.args.from.now) c.args.action.0 (vector n c.args.to.now) h in
    c.loop-outcome.invariant w.0 (let l = w.1 in omega (arith, l, c.loop-outcome-test.false, c.outcome_count-outcome-end.ensures)) w.2
