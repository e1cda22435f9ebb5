-- What the code's types stand for, over n fluents.
use Rattle.std.specs.Prelude.{ℕ, List, None, Some, map}
use Rattle.run_replay.specs.Runs.{step_value}
use Rattle.trace.specs.RecordedRuns.{PlainRecorded, RuledStep, Stop}
use Rattle.trace.specs.RecordedRuns.{most_made, no_outcome, not_executable, plan_ends, record_ends}
use Rattle.trace.specs.declared.runs.MadeStep.{MadeStep}
use Rattle.trace.specs.declared.runs.RecordedRun.{RecordedRun}
use Rattle.trace.specs.declared.stops.Stop.{Stop as CodeStop}
use Rattle.trace.specs.declared.stops.Stop.TheVariants.{MostMade, NoOutcome, NotExecutable, PlanEnds}
use Rattle.trace.specs.declared.stops.Stop.TheVariants.{RecordEnds}

abbrev pub made_value : ℕ → MadeStep → RuledStep
made_value n made =
    record { rule = made.rule; step = step_value n made.step; context = made.context }

abbrev pub mades_value : ℕ → List MadeStep → List RuledStep
mades_value n = map (made_value n)

abbrev pub stop_value : CodeStop → Stop
stop_value (PlanEnds None) = plan_ends None
stop_value (PlanEnds (Some parts)) = plan_ends (Some (map (λ part. part.now) parts.items))
stop_value (RecordEnds counting) = record_ends counting.rule counting.action.0
stop_value MostMade = most_made
stop_value (NoOutcome counting word outcomes) =
    no_outcome counting.rule counting.action.0 word outcomes
stop_value (NotExecutable counting parts) =
    not_executable counting.rule counting.action.0 (map (λ part. part.now) parts.items)

abbrev pub run_value : ℕ → RecordedRun → PlainRecorded
run_value n run = record { steps = mades_value n run.steps.items; stop = stop_value run.stop }
