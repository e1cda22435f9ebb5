use Rattle.std.proofs.Common.{refl}
use Rattle.list_laws.proofs.Elements.{all_reached, one_reached}
use Rattle.relaxed_reach.specs.Literals.{has}
use Rattle.task_core.specs.States.{truth}
use Rattle.task_core.specs.declared.actions.Outcome.{Outcome}
use Rattle.mutex_groups.specs.Cases.{Moves}
use Rattle.mutex_groups.proofs.judging.outcomes_move.Goals as goal

pub loop-outcome-preserved : goal.loop-outcome-preserved
loop-outcome-preserved c =
    let case = c.args.case.now in
    one_reached (λ (o : Outcome). Moves (truth case.members.now) (has case.literals.now) case.fluent.0 o.changes.items) c.args.outcomes.now c.loop-outcome.outcome-index c.outcome-item.result
    c.loop-outcome-test.true c.outcome-item.is c.loop-outcome.invariant (c.outcome_moves.ensures c.if-not-outcome_moves.false)

pub returns : goal.returns
returns c = λ _.
    let case = c.args.case.now in
    all_reached (λ (o : Outcome). Moves (truth case.members.now) (has case.literals.now) case.fluent.0 o.changes.items) c.args.outcomes.now c.args.outcomes.now c.loop-outcome.outcome-index
    c.loop-outcome-test.false refl c.loop-outcome.invariant
