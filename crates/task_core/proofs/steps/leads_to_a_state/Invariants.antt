-- The loop goes on while no outcome so far leads to a state.
use Rattle.std.proofs.Common.{◌≡◌, drop}
use Rattle.std.specs.List.{list_any}
use Rattle.task_core.specs.Actions.{after}
use Rattle.task_core.specs.States.{vector}
use Rattle.task_core.specs.Tasks.{fluent_count, in_space, states_after}
use Rattle.task_core.proofs.steps.leads_to_a_state.Given as goal

abbrev pub invariant-loop-outcome : goal.invariant-loop-outcome
invariant-loop-outcome l =
    list_any (λ o. in_space l.task (after (fluent_count l.task) o (vector (fluent_count l.task) l.state))) (drop l.outcome-index l.outcome-items)
    ≡ list_any (in_space l.task) (states_after l.task (vector (fluent_count l.task) l.state) l.fn.action.0)
