use Rattle.lint_command.specs.ReadValues.{spelled_by}
use Rattle.relaxed_reach.specs.Literals.{has}
use Rattle.lint_command.proofs.Added.{on_both}
use Rattle.lint_command.proofs.in_task.add_task_notices.Goals as goal

pub returns : goal.returns
returns c =
    on_both (spelled_by c.args.read.now) c.args.task.now (has c.reached_literals-literals.result) c.reached_literals-literals.ensures c.add_goal_told.result _ _ _
    c.in_ok-add_never_told.ensures c.add_goal_told.ensures
