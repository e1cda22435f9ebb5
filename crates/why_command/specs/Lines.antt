-- Private: parts of the line where there is a plan.
use Rattle.std.specs.Prelude.{◌++◌, codes}
use Rattle.command_base.specs.Words.{Bytes, PlanKind, PlanWords, kind_word}
use Rattle.plan_rules.specs.Texts.{line_feed}

-- the problem's file, and the end of the line
abbrev pub problem_end : PlanWords → Bytes
problem_end asked = codes " " ++ asked.problem ++ line_feed

-- both files, and the end of the line
abbrev pub files_end : PlanWords → Bytes
files_end asked = codes " " ++ asked.domain ++ problem_end asked

-- what comes before both files
abbrev pub question : PlanKind → Bytes
question kind = codes "a plan exists: mbp plan " ++ kind_word kind
