use Rattle.std.proofs.Common.{◌∙◌, ap, arith, subst}
use Rattle.ctl_syntax.specs.declared.context_goals.ContextGoal.{ContextGoal}
use Rattle.fair_plan.specs.Goals.{IsFairGoalOver}
use Rattle.fair_plan.proofs.takers.take_goal.Goals as goal
use Rattle.ctl_syntax.specs.GoalSizes.{count_of}

pub take_chain-requires-clause-chain : goal.take_chain-requires-clause-chain
take_chain-requires-clause-chain c = subst (λ (g : ContextGoal). IsFairGoalOver c.args.enc.now.sets.vars g) c.in-Until.is c.requires.goal

pub take_chain-requires-clause-count : goal.take_chain-requires-clause-count
take_chain-requires-clause-count c = c.requires.count ∙ ap (λ (g : ContextGoal). count_of g) c.in-Until.is

pub returns-in-Until : goal.returns-in-Until
returns-in-Until c origin there = c.take_chain.ensures origin there

pub take_patrol-requires-clause-count : goal.take_patrol-requires-clause-count
take_patrol-requires-clause-count c =
    let over = subst (λ (g : ContextGoal). IsFairGoalOver c.args.enc.now.sets.vars g) c.in-Patrol.is c.requires.goal in
    let few = over.few in
    let e = c.requires.count ∙ ap (λ (g : ContextGoal). count_of g) c.in-Patrol.is in
    omega (arith, few, e)

pub returns-in-Patrol : goal.returns-in-Patrol
returns-in-Patrol c origin there = c.take_patrol.ensures origin there
