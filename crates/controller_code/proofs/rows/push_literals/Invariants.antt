-- The numbers so far, and those of the literals that are left, are together the whole.
use Rattle.std.specs.Prelude.{◌≡◌, ◌++◌, drop, map}
use Rattle.controller_code.specs.Rows.{literal_number}
use Rattle.controller_code.proofs.rows.push_literals.Given as goal

abbrev pub invariant-loop-literal : goal.invariant-loop-literal
invariant-loop-literal l =
    l.row.items ++ map literal_number (drop l.literal-index l.literals)
    ≡ l.fn.row.items ++ map literal_number l.literals
