use Rattle.std.proofs.Common.{◌≡◌, ◌++◌, take}
use Rattle.plan_picture.specs.Labels.{lines_from}
use Rattle.plan_picture.specs.Texts.{numbered}
use Rattle.plan_picture.proofs.text.push_steps.Given as goal

abbrev pub invariant-loop-i : goal.invariant-loop-i
invariant-loop-i l = l.out.items ≡ l.fn.out.items ++ numbered (lines_from l.shown) 0 (take l.i l.nodes)
