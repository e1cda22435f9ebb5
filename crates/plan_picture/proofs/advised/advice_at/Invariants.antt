-- No rule so far counts.
use Rattle.std.proofs.Common.{◌≡◌, drop, map}
use Rattle.plan_rules.specs.Denoted.{rule_at}
use Rattle.plan_rules.specs.Rules.{context_rule_of}
use Rattle.task_core.specs.States.{vector}
use Rattle.task_core.specs.Tasks.{fluent_count}
use Rattle.plan_picture.proofs.advised.advice_at.Given as goal

abbrev pub invariant-loop-rule : goal.invariant-loop-rule
invariant-loop-rule l =
    rule_at (map context_rule_of (drop l.rule-index l.rules)) (vector (fluent_count l.task) l.place.state) l.place.context
    ≡ rule_at (map context_rule_of l.rules) (vector (fluent_count l.task) l.place.state) l.place.context
