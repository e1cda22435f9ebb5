-- The lines so far, and those of the starts that are left, are together the whole.
use Rattle.std.specs.Prelude.{◌≡◌, ◌++◌, drop, map}
use Rattle.std.specs.List.{flat_map}
use Rattle.std.specs.Prelude.{◌∷◌, []}
use Rattle.controller_code.specs.Tables.{row_line}
use Rattle.controller_code.proofs.rows.push_starts.Given as goal

abbrev pub invariant-loop-start : goal.invariant-loop-start
invariant-loop-start l =
    l.out.items ++ flat_map row_line (map (λ start. start ∷ []) (drop l.start-index l.starts))
    ≡ l.fn.out.items ++ flat_map row_line (map (λ start. start ∷ []) l.starts)
