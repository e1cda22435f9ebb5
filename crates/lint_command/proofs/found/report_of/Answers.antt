use Rattle.std.proofs.Common.{map}
use Rattle.lint_notices.specs.Values.{notice_value}
use Rattle.lint_command.specs.ReadValues.{spelled_by}
use Rattle.lint_command.proofs.Reports.{if_grounded, if_limited}
use Rattle.lint_command.proofs.found.report_of.Goals as goal

pub returns-in-Ok : goal.returns-in-Ok
returns-in-Ok c = if_grounded c.task_report.result (spelled_by c.args.read.now) c.task_report.ensures

pub returns-in-Err : goal.returns-in-Err
returns-in-Err c =
    if_limited c.limited_report.result (spelled_by c.args.read.now) (map notice_value c.in_ok-notices.notices.items) c.in-Err.error c.in_ok-notices.ensures c.in-Err.ensures.limit c.limited_report.ensures
