use Rattle.std.proofs.Common.{All, map, take}
use Rattle.plan_document.specs.Faithful.{IsToldRule}
use Rattle.plan_rules.specs.Rules.{context_rule_of}
use Rattle.plan_document.proofs.told.are_told.Given as goal

abbrev pub invariant-loop-rule : goal.invariant-loop-rule
invariant-loop-rule l = All IsToldRule (map context_rule_of (take l.rule-index l.rules))
