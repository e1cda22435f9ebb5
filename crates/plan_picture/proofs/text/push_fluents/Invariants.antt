use Rattle.std.proofs.Common.{◌≡◌, ◌++◌, length, take}
use Rattle.task_core.specs.States.{vector}
use Rattle.task_core.specs.Vectors.{value_of}
use Rattle.plan_picture.specs.Labels.{bytes_of}
use Rattle.plan_picture.specs.Texts.{fluent_line, numbered}
use Rattle.plan_picture.proofs.text.push_fluents.Given as goal

abbrev pub invariant-loop-i : goal.invariant-loop-i
invariant-loop-i l =
    l.out.items ≡ l.fn.out.items
    ++ numbered (λ i label. fluent_line label (value_of (vector (length l.labels) l.state) i)) 0 (bytes_of (take l.i l.labels))
