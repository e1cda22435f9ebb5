use Rattle.std.proofs.Common.{◌≡◌, map, take}
use Rattle.plan_page.specs.Pages.{table_rule_data}
use Rattle.plan_rules.specs.Rules.{rule_of}
use Rattle.serde_json.specs.View.{view}
use Rattle.plan_page.proofs.plans.table_rules.Given as goal

abbrev pub invariant-loop-rule : goal.invariant-loop-rule
invariant-loop-rule l = map view l.list.items ≡ map table_rule_data (map rule_of (take l.rule-index l.rules))
