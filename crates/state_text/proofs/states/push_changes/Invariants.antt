-- The lines of the fluents so far.
use Rattle.std.proofs.Common.{◌≡◌, ◌++◌, string_bytes}
use Rattle.plan_rules.specs.Texts.{name_at}
use Rattle.task_core.specs.States.{vector}
use Rattle.task_core.specs.Tasks.{fluent_count, fluent_names}
use Rattle.task_core.specs.Vectors.{value_of}
use Rattle.state_text.specs.Texts.{below, change_line}
use Rattle.state_text.proofs.states.push_changes.Given as goal

abbrev pub invariant-loop-number : goal.invariant-loop-number
invariant-loop-number l =
    let n = fluent_count l.task in
    string_bytes l.out ≡ string_bytes l.fn.out
    ++ below (λ i. change_line (name_at (fluent_names l.task) i) (value_of (vector n l.before) i) (value_of (vector n l.after) i)) l.number
