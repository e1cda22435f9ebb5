use Rattle.std.proofs.Common.{All, map, take}
use Rattle.plan_document.specs.Faithful.{IsInOrder}
use Rattle.plan_rules.specs.Rules.{PlanRule, rule_of}
use Rattle.plan_document.proofs.told.are_in_order.Given as goal

abbrev pub invariant-loop-rule : goal.invariant-loop-rule
invariant-loop-rule l = All (λ (rule : PlanRule). IsInOrder rule.cube) (map rule_of (take l.rule-index l.rules))
