use Rattle.std.proofs.Common.{◌≡◌, map, take}
use Rattle.plan_rules.specs.Rules.{context_rule_of}
use Rattle.rule_picture.specs.Rules.{seen_in_automaton}
use Rattle.rule_picture.specs.Values.{seen_values}
use Rattle.rule_picture.proofs.rules.rules_of_automaton.Given as goal

abbrev pub invariant-loop-rule : goal.invariant-loop-rule
invariant-loop-rule l = seen_values l.seen.items ≡ map seen_in_automaton (map context_rule_of (take l.rule-index l.rules))
