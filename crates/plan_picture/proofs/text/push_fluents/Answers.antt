use Rattle.std.proofs.Common.{◌≡◌, ℕ, List, append_assoc, arith, length}
use Rattle.std.specs.Prelude.{Vec}
use Rattle.std.specs.declared.alloc.Global.{Global}
use Rattle.task_core.specs.States.{truth, vector}
use Rattle.task_core.specs.Vectors.{value_of}
use Rattle.task_core.proofs.TaskSystem.{value_of-vector}
use Rattle.plan_picture.specs.Texts.{fluent_line}
use Rattle.plan_picture.proofs.Numbered.{numbered_more}
use Rattle.plan_picture.proofs.text.push_fluents.Goals as goal

pub loop-i-preserved : goal.loop-i-preserved
loop-i-preserved c =
    let n = length c.args.labels.now in
    let part : ℕ → List ℕ → List ℕ = λ i label. fluent_line label (value_of (vector n c.args.state.now) i) in
    let bytes : Vec ℕ Global → List ℕ = λ label. label.items in
    let more = numbered_more part bytes c.args.labels.now c.loop-i.i c.index-labels-i.result c.loop-i-test.true in
    let same : value_of (vector n c.args.state.now) c.loop-i.i ≡ truth c.args.state.now c.loop-i.i = value_of-vector n c.args.state.now c.loop-i.i c.loop-i-test.true in
    grind (arith, append_assoc, more, same, c.loop-i.invariant, c.get.ensures, c.in_ok-push_fluent.ensures, c.index-labels-i.is)
