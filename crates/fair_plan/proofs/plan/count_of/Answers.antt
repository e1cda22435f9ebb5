use Rattle.std.proofs.Common.{arith, subst}
use Rattle.ctl_syntax.specs.declared.context_goals.ContextGoal.{ContextGoal}
use Rattle.fair_plan.specs.Goals.{IsFairGoalOver}
use Rattle.fair_plan.proofs.plan.count_of.Goals as goal

pub stages_of-requires : goal.stages_of-requires
stages_of-requires c =
    let r = c.requires in
    let over = subst (λ (g : ContextGoal). IsFairGoalOver r.0 g) c.in-Until.is r.1 in
    let few = over.few in
    let e = c.as_slice.ensures.value in
    rw e few

pub visits_of-requires : goal.visits_of-requires
visits_of-requires c =
    let r = c.requires in
    let over = subst (λ (g : ContextGoal). IsFairGoalOver r.0 g) c.in-Patrol.is r.1 in
    let few = over.few in
    let e = c.as_slice-in-Patrol.ensures.value in
    rw e (omega (arith, few))
