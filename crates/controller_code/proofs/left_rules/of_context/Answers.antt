-- A rule more on both sides, if it is one of the context.
use Rattle.std.proofs.Common.{◌∙◌, ap, Vec}
use Rattle.std.specs.declared.alloc.Global.{Global}
use Rattle.controller_code.specs.declared.left_rules.LeftRule.{LeftRule}
use Rattle.controller_code.proofs.Moves.{context_more, context_other}
use Rattle.controller_code.proofs.left_rules.of_context.Goals as goal
use Rattle.controller_code.proofs.left_rules.of_context.Goals.{then-rule-context+in_ok-copy_of+in_ok-push, else-rule-context}

pub loop-rule-preserved : goal.loop-rule-preserved
loop-rule-preserved c v = elim c.if-rule-context.branch [
  | then-rule-context+in_ok-copy_of+in_ok-push w ↦
      context_more c.args.rules.now c.loop-rule.rule-index c.rule-item.result c.loop-rule-test.true c.rule-item.is c.args.context w.if-rule-context.true
      c.loop-rule.left.items c.if-rule-context.left.items w.in_ok-copy_of.field-0 w.move_in.result (w.in_ok-copy_of.ensures ∙ w.deref.ensures.value) w.move_in.ensures
      (ap (λ (x : Vec LeftRule Global). x.items) w.left-is ∙ w.in_ok-push.ensures.items) v (c.loop-rule.invariant v)
  | else-rule-context w ↦
      context_other c.args.rules.now c.loop-rule.rule-index c.rule-item.result c.loop-rule-test.true c.rule-item.is c.args.context w.if-rule-context.false
      c.loop-rule.left.items c.if-rule-context.left.items (ap (λ (x : Vec LeftRule Global). x.items) w.left-is) v (c.loop-rule.invariant v)
]
