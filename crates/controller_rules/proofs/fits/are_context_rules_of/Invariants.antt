use Rattle.std.proofs.Common.{map, take}
use Rattle.std.specs.Prelude.{All}
use Rattle.plan_rules.specs.Plans.{IsContextRuleOf}
use Rattle.plan_rules.specs.Rules.{context_rule_of}
use Rattle.controller_rules.proofs.fits.are_context_rules_of.Given as goal

abbrev pub invariant-loop-rule : goal.invariant-loop-rule
invariant-loop-rule l = All (IsContextRuleOf l.fluents l.actions l.contexts) (map context_rule_of (take l.rule-index l.rules))
