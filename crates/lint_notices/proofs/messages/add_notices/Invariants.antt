use Rattle.std.proofs.Common.{◌≡◌, ◌++◌, map, take}
use Rattle.lint_notices.specs.Notices.{notice_of}
use Rattle.lint_notices.specs.Values.{notice_value, source_value}
use Rattle.lint_notices.proofs.messages.add_notices.Given as goal

abbrev pub invariant-loop-mistake : goal.invariant-loop-mistake
invariant-loop-mistake l =
    map notice_value l.notices.items ≡ map notice_value l.fn.notices.items ++ map (notice_of (source_value l.source)) (take l.mistake-index l.mistakes)
