-- No outcome so far leads to a state for which there is no next context.
use Rattle.std.proofs.Common.{◌<◌, ℕ}
use Rattle.task_core.specs.States.{vector}
use Rattle.task_core.specs.Tasks.{fluent_count, system_of}
use Rattle.plan_rules.specs.Rules.{context_rule_of}
use Rattle.plan_witness.specs.Ends.{IsLostAt}
use Rattle.plan_witness.proofs.stuck.lost_outcome.Given as goal

abbrev pub invariant-loop-outcome : goal.invariant-loop-outcome
invariant-loop-outcome l = (k : ℕ) → k < l.outcome → IsLostAt (system_of l.task) (context_rule_of l.rule) (vector (fluent_count l.task) l.state) k → ⊥
