use Rattle.std.proofs.Common.{◌≡◌, ◌≤◌, drop, map, max}
use Rattle.plan_rules.specs.Rules.{context_rule_of}
use Rattle.controller_rules.specs.Serving.{greatest_named}
use Rattle.controller_rules.proofs.serving.greatest_named.Given as goal

abbrev pub invariant-loop-rule : goal.invariant-loop-rule
invariant-loop-rule l = record {
  some : 1 ≤ l.greatest;
  whole : max l.greatest (greatest_named (map context_rule_of (drop l.rule-index l.rules))) ≡ greatest_named (map context_rule_of l.rules);
}
