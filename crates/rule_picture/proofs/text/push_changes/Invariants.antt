use Rattle.std.proofs.Common.{◌≡◌, ◌++◌, length, map, take}
use Rattle.task_core.specs.Names.{name_bytes}
use Rattle.task_core.specs.States.{vector}
use Rattle.task_core.specs.Vectors.{value_of}
use Rattle.plan_picture.specs.Texts.{numbered}
use Rattle.rule_picture.specs.Texts.{change_line}
use Rattle.rule_picture.proofs.text.push_changes.Given as goal

abbrev pub invariant-loop-i : goal.invariant-loop-i
invariant-loop-i l =
    l.out.items ≡ l.fn.out.items
    ++ numbered (λ i name. change_line name (value_of (vector (length l.fluents) l.old) i) (value_of (vector (length l.fluents) l.new) i)) 0 (map name_bytes (take l.i l.fluents))
