-- The lines so far, and those of the changes that are left, are together the whole.
use Rattle.std.specs.Prelude.{◌≡◌, ◌++◌, drop, map}
use Rattle.std.specs.List.{flat_map}
use Rattle.controller_code.specs.Texts.{counted_line}
use Rattle.controller_code.specs.Rows.{change_row}
use Rattle.controller_code.proofs.rows.push_changes.Given as goal

abbrev pub invariant-loop-change : goal.invariant-loop-change
invariant-loop-change l =
    l.out.items ++ flat_map counted_line (map (change_row l.action l.number) (drop l.change-index l.changes))
    ≡ l.fn.out.items ++ flat_map counted_line (map (change_row l.action l.number) l.changes)
