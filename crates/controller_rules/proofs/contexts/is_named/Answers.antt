use Rattle.std.proofs.Common.{sym}
use Rattle.plan_rules.specs.Rules.{context_rule_of}
use Rattle.list_laws.proofs.Elements.{Contains-map}
use Rattle.controller_rules.proofs.contexts.is_named.Goals as goal

pub returns-then-names : goal.returns-then-names
returns-then-names c = λ _. (
  context_rule_of c.rule-item.result,
  Contains-map context_rule_of c.args.rules.now c.rule-item.result (c.loop-rule.rule-index, c.loop-rule-test.true, sym c.rule-item.is),
  c.names.ensures c.if-names.true,
)
