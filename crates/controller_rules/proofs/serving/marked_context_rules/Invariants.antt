use Rattle.std.proofs.Common.{◌≡◌, map, take}
use Rattle.plan_rules.specs.Rules.{context_rule_of}
use Rattle.controller_rules.specs.Checks.{run_value}
use Rattle.controller_rules.specs.Serving.{marked}
use Rattle.controller_rules.proofs.serving.marked_context_rules.Given as goal

abbrev pub invariant-loop-number : goal.invariant-loop-number
invariant-loop-number l = map context_rule_of l.kept.items ≡ marked (take l.number l.marks) (map run_value (take l.number l.rules))
