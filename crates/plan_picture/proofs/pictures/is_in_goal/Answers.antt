use Rattle.plan_picture.proofs.Goals.{goal_below, goal_is}
use Rattle.plan_picture.proofs.pictures.is_in_goal.Goals as goal

pub holds_in_state-requires : goal.holds_in_state-requires
holds_in_state-requires c = goal_below c.args.task.now c.in-Some.goal c.in-Some.is

pub returns-in-Some : goal.returns-in-Some
returns-in-Some c = goal_is c.args.task.now c.in-Some.goal c.args.state.now c.holds_in_state.result c.in-Some.is c.holds_in_state.ensures
