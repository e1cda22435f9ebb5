-- Private: the answer that a run is told by.
use Rattle.command_base.specs.Answers.{Answer, affirmed, denied}
use Rattle.command_base.specs.Words.{Bytes}
use Rattle.trace.specs.RecordedRuns.{Stop, most_made, no_outcome, not_executable, plan_ends}
use Rattle.trace.specs.RecordedRuns.{record_ends}

-- Private: the answer with this text for a run that stops so
abbrev pub answer_at : Bytes → Stop → Answer
answer_at text (plan_ends parts) = affirmed text
answer_at text (record_ends rule action) = affirmed text
answer_at text most_made = affirmed text
answer_at text (no_outcome rule action word outcomes) = denied text
answer_at text (not_executable rule action parts) = denied text
