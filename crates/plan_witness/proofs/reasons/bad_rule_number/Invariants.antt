-- No rule so far matches and can't be followed.
use Rattle.std.proofs.Common.{◌≡◌, ◌<◌, ℕ, true, map, slice_get, Some}
use Rattle.task_core.specs.Cubes.{matches}
use Rattle.task_core.specs.States.{vector}
use Rattle.task_core.specs.Systems.{Exec}
use Rattle.task_core.specs.Tasks.{fluent_count, system_of}
use Rattle.plan_rules.specs.Rules.{PlanRule, rule_of}
use Rattle.plan_witness.proofs.reasons.bad_rule_number.Given as goal

abbrev pub invariant-loop-number : goal.invariant-loop-number
invariant-loop-number l = (k : ℕ) (rule : PlanRule) → k < l.number → slice_get (map rule_of l.rules) k ≡ Some rule
    → matches rule.cube (vector (fluent_count l.task) l.state) ≡ true
    → Exec (system_of l.task) (vector (fluent_count l.task) l.state) rule.action
