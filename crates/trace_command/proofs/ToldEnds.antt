-- What is shown of a run that stops.
use Rattle.std.proofs.Common.{◌≡◌, Option, ℕ, List, None, Some, sym, ap}
use Rattle.command_base.specs.Words.{Bytes}
use Rattle.plan_rules.specs.Rules.{ContextRule}
use Rattle.trace.specs.RecordedRuns.{IsStop, Stop, most_made, no_outcome, not_executable, plan_ends, record_ends}
use Rattle.run_replay.specs.Traces.{Ending}
use Rattle.task_core.specs.Vectors.{Vector}
use Rattle.task_core.specs.declared.tasks.Task.{Task}
use Rattle.trace_command.specs.Told.{told_answer}
use Rattle.trace_command.specs.Values.{answer_at}

-- the answer is the one for the end of the trace
pub told_at : (task : Task) (rules : List ContextRule) (v : Vector) (c : Option ℕ) (ending : Ending) (text : Bytes) (stop : Stop) → IsStop task rules v c ending stop
    → answer_at text stop ≡ told_answer text ending
told_at task rules v c ending text (plan_ends None) is = sym (ap (told_answer text) is.0)
told_at task rules v c ending text (plan_ends (Some parts)) is = sym (ap (told_answer text) is.0)
told_at task rules v c ending text (record_ends rule action) is = sym (ap (told_answer text) is.0)
told_at task rules v c ending text most_made is = sym (ap (told_answer text) is)
told_at task rules v c ending text (no_outcome rule action word outcomes) is = sym (ap (told_answer text) is.1)
told_at task rules v c ending text (not_executable rule action parts) is = sym (ap (told_answer text) is.1)
