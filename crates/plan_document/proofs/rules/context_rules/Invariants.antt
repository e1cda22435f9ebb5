use Rattle.std.proofs.Common.{◌≡◌, map, take}
use Rattle.plan_document.specs.Documents.{context_rule_data}
use Rattle.plan_rules.specs.Rules.{context_rule_of}
use Rattle.serde_json.specs.View.{view}
use Rattle.task_core.specs.Names.{name_bytes}
use Rattle.plan_document.proofs.rules.context_rules.Given as goal

abbrev pub invariant-loop-rule : goal.invariant-loop-rule
invariant-loop-rule l =
    map view l.list.items ≡ map (context_rule_data (map name_bytes l.fluents) l.actions) (map context_rule_of (take l.rule-index l.rules))
