use Rattle.std.proofs.Common.{◌≡◌, map, take}
use Rattle.plan_page.specs.Pages.{context_rule_data}
use Rattle.plan_rules.specs.Rules.{context_rule_of}
use Rattle.serde_json.specs.View.{view}
use Rattle.plan_page.proofs.plans.context_rules.Given as goal

abbrev pub invariant-loop-rule : goal.invariant-loop-rule
invariant-loop-rule l = map view l.list.items ≡ map context_rule_data (map context_rule_of (take l.rule-index l.rules))
