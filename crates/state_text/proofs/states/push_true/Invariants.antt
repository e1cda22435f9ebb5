-- The words of the fluents so far.
use Rattle.std.proofs.Common.{◌≡◌, ◌++◌, string_bytes}
use Rattle.plan_rules.specs.Texts.{name_at}
use Rattle.task_core.specs.States.{vector}
use Rattle.task_core.specs.Tasks.{fluent_count, fluent_names}
use Rattle.task_core.specs.Vectors.{value_of}
use Rattle.state_text.specs.Texts.{below, true_word}
use Rattle.state_text.proofs.states.push_true.Given as goal

abbrev pub invariant-loop-number : goal.invariant-loop-number
invariant-loop-number l =
    string_bytes l.out ≡ string_bytes l.fn.out
    ++ below (λ i. true_word (name_at (fluent_names l.task) i) (value_of (vector (fluent_count l.task) l.state) i)) l.number
