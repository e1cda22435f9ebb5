-- The text so far, and the lines of the steps that are left, are together the whole.
use Rattle.std.proofs.Common.{◌≡◌, ◌++◌, ◌+◌, drop, string_bytes}
use Rattle.dead_ends.specs.Texts.{steps_text}
use Rattle.plan_witness.specs.Values.{steps_value}
use Rattle.task_core.specs.States.{vector}
use Rattle.task_core.specs.Tasks.{action_names, fluent_count, fluent_names}
use Rattle.dead_ends.proofs.texts.push_steps.Given as goal

abbrev pub invariant-loop-index : goal.invariant-loop-index
invariant-loop-index l =
    let n = fluent_count l.task in
    string_bytes l.out
    ++ steps_text (fluent_names l.task) (action_names l.task) (l.index + 1) (vector n l.before) (steps_value n (drop l.index l.run.steps.items))
    ≡ string_bytes l.fn.out
    ++ steps_text (fluent_names l.task) (action_names l.task) 1 (vector n l.run.start) (steps_value n l.run.steps.items)
