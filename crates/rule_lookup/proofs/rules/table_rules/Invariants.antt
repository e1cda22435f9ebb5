use Rattle.std.specs.Prelude.{◌≡◌, All, map, take}
use Rattle.plan_rules.specs.Rules.{rule_of}
use Rattle.rule_lookup.specs.GuideRules.{IsNextIndexed, rule_value}
use Rattle.rule_lookup.specs.RunRules.{in_one_context}
use Rattle.rule_lookup.proofs.rules.table_rules.Given as goal

-- the rules so far
abbrev pub invariant-loop-rule : goal.invariant-loop-rule
invariant-loop-rule l = record {
  values : map rule_value l.made.items ≡ map in_one_context (map rule_of (take l.rule-index l.rules));
  indexed : All (λ rule. IsNextIndexed rule.onward) l.made.items;
}
