-- The numbers so far.
use Rattle.std.specs.Prelude.{◌≡◌, ◌++◌, take}
use Rattle.std.specs.List.{flat_map}
use Rattle.controller_code.specs.Tables.{number_text}
use Rattle.controller_code.proofs.numbers.push_entries.Given as goal

abbrev pub invariant-loop-number : goal.invariant-loop-number
invariant-loop-number l =
    l.out.items ≡ l.fn.out.items ++ flat_map number_text (take l.number-index l.row)
