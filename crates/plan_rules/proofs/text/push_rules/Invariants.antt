use Rattle.std.proofs.Common.{◌≡◌, ◌++◌, map, take, string_bytes}
use Rattle.std.specs.List.{flat_map}
use Rattle.task_core.specs.Names.{name_bytes, name_of}
use Rattle.plan_rules.specs.Rules.{rule_of}
use Rattle.plan_rules.specs.Texts.{rule_text}
use Rattle.plan_rules.proofs.text.push_rules.Given as goal

abbrev pub invariant-loop-rule : goal.invariant-loop-rule
invariant-loop-rule l =
    string_bytes l.out ≡ string_bytes l.fn.out ++ flat_map (rule_text (map name_bytes l.fluents) (map name_of l.actions)) (map rule_of (take l.rule-index l.rules))
