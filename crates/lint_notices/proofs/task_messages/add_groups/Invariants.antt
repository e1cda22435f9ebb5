use Rattle.std.proofs.Common.{◌≡◌, ◌++◌, map, string_bytes, take}
use Rattle.lint_notices.specs.TaskNotices.{group_notice}
use Rattle.lint_notices.specs.Values.{notice_value}
use Rattle.lint_notices.proofs.task_messages.add_groups.Given as goal

abbrev pub invariant-loop-sentence : goal.invariant-loop-sentence
invariant-loop-sentence l =
    map notice_value l.notices.items
    ≡ map notice_value l.fn.notices.items ++ map (group_notice l.place) (map string_bytes (take l.sentence-index l.sentences))
