use Rattle.std.proofs.Common.{◌≡◌, ℕ, List, append_assoc, arith, length}
use Rattle.task_core.specs.Names.{Name, name_bytes}
use Rattle.task_core.specs.States.{truth, vector}
use Rattle.task_core.specs.Vectors.{value_of}
use Rattle.task_core.proofs.TaskSystem.{value_of-vector}
use Rattle.plan_picture.proofs.Numbered.{numbered_more}
use Rattle.rule_picture.specs.Texts.{change_line}
use Rattle.rule_picture.proofs.text.push_changes.Goals as goal

pub loop-i-preserved : goal.loop-i-preserved
loop-i-preserved c =
    let n = length c.args.fluents.now in
    let part : ℕ → Name → List ℕ = λ i name. change_line name (value_of (vector n c.args.old.now) i) (value_of (vector n c.args.new.now) i) in
    let more = numbered_more part name_bytes c.args.fluents.now c.loop-i.i c.index-fluents-i.result c.loop-i-test.true in
    let was : value_of (vector n c.args.old.now) c.loop-i.i ≡ truth c.args.old.now c.loop-i.i = value_of-vector n c.args.old.now c.loop-i.i c.loop-i-test.true in
    let is : value_of (vector n c.args.new.now) c.loop-i.i ≡ truth c.args.new.now c.loop-i.i = value_of-vector n c.args.new.now c.loop-i.i c.loop-i-test.true in
    grind (arith, append_assoc, more, was, is, c.loop-i.invariant, c.in_ok-push_change.ensures, c.index-fluents-i.is)
