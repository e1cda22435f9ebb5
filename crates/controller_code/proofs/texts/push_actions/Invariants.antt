-- The lines so far.
use Rattle.std.specs.Prelude.{◌≡◌, ◌++◌, map, take}
use Rattle.std.specs.List.{flat_map}
use Rattle.task_core.specs.Names.{name_of}
use Rattle.controller_code.specs.Texts.{name_line}
use Rattle.controller_code.proofs.texts.push_actions.Given as goal

abbrev pub invariant-loop-action : goal.invariant-loop-action
invariant-loop-action l = l.out.items ≡ l.fn.out.items ++ flat_map (name_line l.language) (map name_of (take l.action-index l.actions))
