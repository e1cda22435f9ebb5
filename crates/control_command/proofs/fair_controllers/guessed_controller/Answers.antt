use Rattle.control_command.proofs.FairAnswers.{guessed_for}
use Rattle.control_command.proofs.fair_controllers.guessed_controller.Goals as goal

pub returns-in-Ok : goal.returns-in-Ok
returns-in-Ok c = guessed_for c.fair_goals_are_true.ensures.alike c.args.sought.now c.args.task.now c.requires c.in-Ok.found c.in-Ok.ensures.shown
