-- The text so far, and the lines of the steps that are left, are together the whole.
use Rattle.std.proofs.Common.{◌≡◌, ◌++◌, ◌+◌, drop, string_bytes}
use Rattle.counterexamples.specs.Texts.{steps_text}
use Rattle.counterexamples.specs.Values.{source_value}
use Rattle.plan_witness.specs.Values.{steps_value}
use Rattle.task_core.specs.States.{vector}
use Rattle.task_core.specs.Tasks.{fluent_count}
use Rattle.counterexamples.proofs.texts.push_steps.Given as goal

abbrev pub invariant-loop-index : goal.invariant-loop-index
invariant-loop-index l =
    let n = fluent_count l.source.task.now in
    string_bytes l.out
    ++ steps_text (source_value l.source) (l.index + 1) (vector n l.before) (steps_value n (drop l.index l.run.steps.items))
    ≡ string_bytes l.fn.out
    ++ steps_text (source_value l.source) 1 (vector n l.run.start) (steps_value n l.run.steps.items)
