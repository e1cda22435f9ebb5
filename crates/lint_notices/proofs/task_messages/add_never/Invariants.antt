use Rattle.std.proofs.Common.{◌≡◌, ◌++◌, map, take}
use Rattle.lint_notices.specs.TaskNotices.{never_notice}
use Rattle.lint_notices.specs.Values.{never_value, notice_value, written_value}
use Rattle.lint_notices.proofs.task_messages.add_never.Given as goal

abbrev pub invariant-loop-never : goal.invariant-loop-never
invariant-loop-never l =
    map notice_value l.notices.items
    ≡ map notice_value l.fn.notices.items ++ map (never_notice (written_value l.domain)) (map never_value (take l.never-index l.found))
