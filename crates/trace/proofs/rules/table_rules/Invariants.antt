use Rattle.std.specs.Prelude.{◌≡◌, map, take}
use Rattle.plan_rules.specs.Rules.{rule_of}
use Rattle.rule_lookup.specs.RunRules.{in_one_context}
use Rattle.trace.specs.Indexed.{run_rule_value}
use Rattle.trace.proofs.rules.table_rules.Given as goal

-- the rules so far
abbrev pub invariant-loop-rule : goal.invariant-loop-rule
invariant-loop-rule l = map run_rule_value l.made.items ≡ map in_one_context (map rule_of (take l.rule-index l.rules))
