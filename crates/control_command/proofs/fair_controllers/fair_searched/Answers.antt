use Rattle.control_command.proofs.FairAnswers.{goal_over}
use Rattle.control_command.proofs.fair_controllers.fair_searched.Goals as goal

pub search_fairly-requires-clause-goal : goal.search_fairly-requires-clause-goal
search_fairly-requires-clause-goal c =
    let here = c.requires.of_goal in
    goal_over _ c.args.task.now.goal.now c.requires.few here.stands.counts.some here.names here.shallow
