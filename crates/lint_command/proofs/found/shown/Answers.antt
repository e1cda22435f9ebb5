use Rattle.std.proofs.Common.{◌∙◌, ap, inr}
use Rattle.command_base.specs.Words.{Bytes}
use Rattle.lint_notices.specs.Values.{report_value}
use Rattle.lint_command.specs.Mistakes.{answer_as}
use Rattle.lint_command.proofs.found.shown.Goals as goal

pub returns : goal.returns
returns c =
    let report = report_value c.in_ok-report.report in
    inr (report, c.in_ok-report.ensures, c.answer_with.ensures ∙ ap (λ (t : Bytes). answer_as t report.notices) c.in_ok-text.ensures)
