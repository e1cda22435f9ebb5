use Rattle.std.proofs.Common.{◌≡◌, ◌++◌, map, take}
use Rattle.task_core.specs.Names.{name_bytes}
use Rattle.rule_picture.specs.Texts.{cube_lines}
use Rattle.rule_picture.proofs.text.push_cube.Given as goal

abbrev pub invariant-loop-lit : goal.invariant-loop-lit
invariant-loop-lit l = l.out.items ≡ l.fn.out.items ++ cube_lines (map name_bytes l.fluents) (take l.lit-index l.cube)
