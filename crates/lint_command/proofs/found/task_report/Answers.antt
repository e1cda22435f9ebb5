use Rattle.std.proofs.Common.{refl}
use Rattle.lint_command.proofs.found.task_report.Goals as goal

pub returns : goal.returns
returns c =
    let added = c.in_ok-add_task_notices.ensures in
    record {
      task = c.args.task.now;
      grounded = c.requires.task;
      of_texts = _;
      in_texts = c.requires.notices;
      of_task = added.added;
      in_task = added.told;
      notices = added.after_is;
      hints = c.in_ok-hints.ensures;
      limit = refl;
    }
