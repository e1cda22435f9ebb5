use Rattle.std.proofs.Common.{refl, sym, subst, ◌∙◌}
use Rattle.std.proofs.lemmas.Bool.{false≢true}
use Rattle.plan_document.specs.Faithful.{IsInOrder}
use Rattle.plan_rules.specs.Rules.{PlanRule, rule_of}
use Rattle.plan_rules.proofs.MappedItems.{mapped_item}
use Rattle.plan_document.proofs.Mapped.{all_taken, one_more}
use Rattle.plan_document.proofs.told.are_in_order.Goals as goal

pub returns-then-not-is_in_order : goal.returns-then-not-is_in_order
returns-then-not-is_in_order c = (
  λ is. absurd (false≢true is),
  λ all.
      let here : IsInOrder c.rule-item.result.cube.items =
      mapped_item (λ (rule : PlanRule). IsInOrder rule.cube) rule_of c.args.rules.now c.loop-rule.rule-index c.rule-item.result all c.loop-rule-test.true c.rule-item.is in
      sym c.if-not-is_in_order.true ∙ c.is_in_order.ensures.1 (subst IsInOrder (sym c.deref.ensures.value) here),
)

pub loop-rule-preserved : goal.loop-rule-preserved
loop-rule-preserved c =
    one_more (λ (rule : PlanRule). IsInOrder rule.cube) rule_of c.args.rules.now c.loop-rule.rule-index c.rule-item.result c.loop-rule-test.true c.rule-item.is c.loop-rule.invariant
    (subst IsInOrder c.deref.ensures.value (c.is_in_order.ensures.0 c.if-not-is_in_order.false))

pub returns : goal.returns
returns c = (λ _. all_taken (λ (rule : PlanRule). IsInOrder rule.cube) rule_of c.args.rules.now c.loop-rule.rule-index c.loop-rule-test.false c.loop-rule.invariant, λ _. refl)
