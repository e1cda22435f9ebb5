-- The lines so far, and those of the outcomes that are left, are together the whole.
use Rattle.std.specs.Prelude.{◌≡◌, ◌++◌, drop, map}
use Rattle.std.specs.List.{flat_map}
use Rattle.controller_code.specs.Texts.{counted_line}
use Rattle.controller_code.specs.Rows.{outcome_rows}
use Rattle.controller_code.proofs.rows.push_outcomes.Given as goal

abbrev pub invariant-loop-place : goal.invariant-loop-place
invariant-loop-place l =
    l.out.items ++ flat_map counted_line (outcome_rows l.action l.place (drop l.place l.outcomes))
    ≡ l.fn.out.items ++ flat_map counted_line (outcome_rows l.action 0 l.outcomes)
