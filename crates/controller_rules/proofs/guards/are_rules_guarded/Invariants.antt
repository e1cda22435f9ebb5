use Rattle.std.proofs.Common.{map, take}
use Rattle.std.specs.Prelude.{All}
use Rattle.rule_lookup.specs.RunRules.{in_one_context}
use Rattle.plan_rules.specs.Rules.{rule_of}
use Rattle.controller_rules.specs.Guards.{IsGuardedRule}
use Rattle.controller_rules.proofs.guards.are_rules_guarded.Given as goal

abbrev pub invariant-loop-rule : goal.invariant-loop-rule
invariant-loop-rule l = All (IsGuardedRule l.task) (map in_one_context (map rule_of (take l.rule-index l.rules)))
