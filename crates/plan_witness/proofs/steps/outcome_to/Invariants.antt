-- No outcome so far leads there.
use Rattle.std.proofs.Common.{◌≡◌, ◌<◌, ℕ, Some}
use Rattle.task_core.specs.States.{vector}
use Rattle.task_core.specs.Tasks.{fluent_count, system_of}
use Rattle.plan_witness.proofs.steps.outcome_to.Given as goal

abbrev pub invariant-loop-outcome : goal.invariant-loop-outcome
invariant-loop-outcome l = (k : ℕ) → k < l.outcome
    → (system_of l.task).after (vector (fluent_count l.task) l.from) l.action.0 k ≡ Some (vector (fluent_count l.task) l.to) → ⊥
