-- The lines so far, and those of the steps that are left, are together the whole.
use Rattle.std.specs.Prelude.{◌≡◌, ◌++◌, drop, map}
use Rattle.std.specs.List.{flat_map}
use Rattle.controller_code.specs.Rows.{step_row}
use Rattle.controller_code.specs.Tables.{row_line}
use Rattle.controller_code.proofs.rows.push_steps.Given as goal

abbrev pub invariant-loop-step : goal.invariant-loop-step
invariant-loop-step l =
    l.out.items ++ flat_map row_line (map step_row (drop l.step-index l.steps))
    ≡ l.fn.out.items ++ flat_map row_line (map step_row l.steps)
