-- No rule so far counts.
use Rattle.std.proofs.Common.{◌≡◌, ◌<◌, ℕ, false, map}
use Rattle.std.specs.Prelude.{slice_get, Some}
use Rattle.task_core.specs.States.{vector}
use Rattle.task_core.specs.Tasks.{fluent_count}
use Rattle.plan_rules.specs.Rules.{ContextRule, context_rule_of}
use Rattle.plan_witness.specs.Runs.{is_for}
use Rattle.plan_witness.proofs.rules.counting_rule.Given as goal

abbrev pub invariant-loop-number : goal.invariant-loop-number
invariant-loop-number l = (k : ℕ) (other : ContextRule) → k < l.number → slice_get (map context_rule_of l.rules) k ≡ Some other
    → is_for (record { state = vector (fluent_count l.task) l.state; context = l.context }) other ≡ false
