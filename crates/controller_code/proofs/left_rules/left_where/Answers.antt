-- A rule more on both sides, unless it asks for the other value.
use Rattle.std.proofs.Common.{◌∙◌, ap, sym, Vec}
use Rattle.std.specs.declared.alloc.Global.{Global}
use Rattle.task_core.specs.Cubes.{Cube, matches}
use Rattle.controller_code.specs.declared.left_rules.LeftRule.{LeftRule}
use Rattle.controller_code.proofs.Moves.{left_more, left_other}
use Rattle.controller_code.proofs.left_rules.left_where.Goals as goal
use Rattle.controller_code.proofs.left_rules.left_where.Goals.{then-not-asks_other+in_ok-without+in_ok-push, else-not-asks_other}

pub loop-rule-preserved : goal.loop-rule-preserved
loop-rule-preserved c v is = elim c.if-not-asks_other.branch [
  | then-not-asks_other+in_ok-without+in_ok-push w ↦
      left_more c.args.rules.now c.loop-rule.rule-index c.rule-item.result c.loop-rule-test.true c.rule-item.is
      c.loop-rule.left.items c.if-not-asks_other.left.items w.in_ok-without.field-0 v
      (w.in_ok-without.ensures v is ∙ ap (λ (cube : Cube). matches cube v) w.deref-then-not-asks_other.ensures.value)
      (ap (λ (x : Vec LeftRule Global). x.items) w.left-is ∙ w.in_ok-push.ensures.items) (c.loop-rule.invariant v is)
  | else-not-asks_other w ↦
      left_other c.args.rules.now c.loop-rule.rule-index c.rule-item.result c.loop-rule-test.true c.rule-item.is
      c.loop-rule.left.items c.if-not-asks_other.left.items v
      (ap (λ (cube : Cube). matches cube v) (sym c.deref.ensures.value) ∙ c.asks_other.ensures w.if-not-asks_other.false v is)
      (ap (λ (x : Vec LeftRule Global). x.items) w.left-is) (c.loop-rule.invariant v is)
]
