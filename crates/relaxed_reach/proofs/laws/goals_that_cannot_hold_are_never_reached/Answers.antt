use Rattle.relaxed_reach.proofs.Soundness.{goal_missed}
use Rattle.relaxed_reach.proofs.laws.goals_that_cannot_hold_are_never_reached.Goals as goal

pub returns : goal.returns
returns c = λ set relaxed. goal_missed c.args.task.now set relaxed
