use Rattle.std.specs.Prelude.{◌≡◌, ◌++◌, take, string_bytes}
use Rattle.std.specs.List.{flat_map}
use Rattle.run_replay.specs.Runs.{steps_value}
use Rattle.run_replay.specs.TraceTexts.{step_line}
use Rattle.task_core.specs.Tasks.{action_names, fluent_count}
use Rattle.run_replay.proofs.text.push_steps.Given as goal

-- the lines of the steps so far
abbrev pub invariant-loop-step : goal.invariant-loop-step
invariant-loop-step l =
    string_bytes l.out ≡ string_bytes l.fn.out ++ flat_map (step_line (action_names l.task)) (steps_value (fluent_count l.task) (take l.step-index l.steps))
