-- The lines so far, and those of the actions that are left, are together the whole.
use Rattle.std.specs.Prelude.{◌≡◌, ◌++◌, drop, map}
use Rattle.std.specs.List.{flat_map}
use Rattle.controller_code.specs.Texts.{counted_line}
use Rattle.controller_code.specs.Rows.{action_rows}
use Rattle.controller_code.proofs.rows.push_actions.Given as goal

abbrev pub invariant-loop-place : goal.invariant-loop-place
invariant-loop-place l =
    l.out.items ++ flat_map counted_line (action_rows l.place (drop l.place l.actions))
    ≡ l.fn.out.items ++ flat_map counted_line (action_rows 0 l.actions)
