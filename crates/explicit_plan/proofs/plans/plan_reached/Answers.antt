use Rattle.explicit_plan.proofs.Goals.{goal_small}
use Rattle.explicit_plan.proofs.plans.plan_reached.Goals as goal

pub find-found-requires : goal.find-found-requires
find-found-requires c = goal_small c.args.task.now c.in-Some.goal c.in-Some.is
