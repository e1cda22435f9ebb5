use Rattle.std.proofs.Common.{refl, sym, ◌∙◌}
use Rattle.std.proofs.lemmas.Bool.{false≢true}
use Rattle.plan_document.specs.Faithful.{IsToldRule}
use Rattle.plan_rules.specs.Rules.{context_rule_of}
use Rattle.plan_rules.proofs.MappedItems.{mapped_item}
use Rattle.plan_document.proofs.Mapped.{all_taken, one_more}
use Rattle.plan_document.proofs.told.are_told.Goals as goal

pub returns-then-not-is_told : goal.returns-then-not-is_told
returns-then-not-is_told c = (
  λ is. absurd (false≢true is),
  λ all.
      sym c.if-not-is_told.true ∙ c.is_told.ensures.1
      (mapped_item IsToldRule context_rule_of c.args.rules.now c.loop-rule.rule-index c.rule-item.result all c.loop-rule-test.true c.rule-item.is),
)

pub loop-rule-preserved : goal.loop-rule-preserved
loop-rule-preserved c =
    one_more IsToldRule context_rule_of c.args.rules.now c.loop-rule.rule-index c.rule-item.result c.loop-rule-test.true c.rule-item.is c.loop-rule.invariant
    (c.is_told.ensures.0 c.if-not-is_told.false)

pub returns : goal.returns
returns c = (λ _. all_taken IsToldRule context_rule_of c.args.rules.now c.loop-rule.rule-index c.loop-rule-test.false c.loop-rule.invariant, λ _. refl)
