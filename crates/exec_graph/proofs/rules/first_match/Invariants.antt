-- No rule so far matches.
use Rattle.std.proofs.Common.{◌≡◌, drop, map}
use Rattle.plan_rules.specs.Rules.{context_rule_of}
use Rattle.task_core.specs.States.{vector}
use Rattle.task_core.specs.Tasks.{fluent_count}
use Rattle.exec_graph.specs.Counting.{first_matching}
use Rattle.exec_graph.proofs.rules.first_match.Given as goal

abbrev pub invariant-loop-rule : goal.invariant-loop-rule
invariant-loop-rule l =
    first_matching (vector (fluent_count l.task) l.state) (map context_rule_of (map (λ rule. rule.now) (drop l.rule-index l.rules)))
    ≡ first_matching (vector (fluent_count l.task) l.state) (map context_rule_of (map (λ rule. rule.now) l.rules))
