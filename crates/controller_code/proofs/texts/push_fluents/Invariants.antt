-- The lines so far.
use Rattle.std.specs.Prelude.{◌≡◌, ◌++◌, map, take}
use Rattle.std.specs.List.{flat_map}
use Rattle.task_core.specs.Names.{name_bytes}
use Rattle.controller_code.specs.Texts.{name_line}
use Rattle.controller_code.proofs.texts.push_fluents.Given as goal

abbrev pub invariant-loop-fluent : goal.invariant-loop-fluent
invariant-loop-fluent l = l.out.items ≡ l.fn.out.items ++ flat_map (name_line l.language) (map name_bytes (take l.fluent-index l.fluents))
