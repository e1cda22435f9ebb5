-- Private: what the code's own types stand for.
use Rattle.std.specs.Prelude.{ℕ, List, map, string_bytes}
use Rattle.std.specs.Option.{option_map}
use Rattle.lint_notices.specs.Notices.{PlainNotice, PlainReport, PlainSource}
use Rattle.lint_notices.specs.TaskNotices.{PlainNever, PlainWritten}
use Rattle.lint_notices.specs.Texts.{PlainFileNames}
use Rattle.lint_notices.specs.declared.messages.Source.{Source}
use Rattle.lint_notices.specs.declared.notices.FileNames.{FileNames}
use Rattle.lint_notices.specs.declared.notices.LimitName.{LimitName}
use Rattle.lint_notices.specs.declared.notices.Notice.{Notice}
use Rattle.lint_notices.specs.declared.notices.Report.{Report}
use Rattle.lint_notices.specs.declared.task_messages.Written.{Written}
use Rattle.never_executed.specs.declared.finding.NeverRun.{NeverRun}
use Rattle.sexpr_text.specs.Forest.{forest_of}

abbrev pub notice_value : Notice → PlainNotice
notice_value notice = record {
  in_problem = notice.in_problem;
  place = notice.place;
  kind = notice.kind.now;
  message = string_bytes notice.message;
}

abbrev pub name_of : LimitName → List ℕ
name_of limit = limit.name.now

abbrev pub report_value : Report → PlainReport
report_value report = record {
  notices = map notice_value report.notices.items;
  hints = map notice_value report.hints.items;
  limit = option_map name_of report.limit;
}

abbrev pub source_value : Source → PlainSource
source_value source = record {
  in_problem = source.in_problem;
  text = source.text.now;
  types = source.types.now;
}

abbrev pub names_value : FileNames → PlainFileNames
names_value names = record {
  domain = names.domain.now;
  problem = names.problem.now;
}

abbrev pub written_value : Written → PlainWritten
written_value written = record {
  text = written.text.now;
  sections = forest_of written.sections.now;
}

abbrev pub never_value : NeverRun → PlainNever
never_value never = record { name = never.schema.now.name; cause = never.cause }
