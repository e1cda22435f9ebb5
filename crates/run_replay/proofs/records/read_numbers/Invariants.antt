use Rattle.std.specs.Prelude.{◌≡◌, ◌++◌, drop}
use Rattle.sexpr_text.specs.Forest.{forest_of}
use Rattle.run_replay.specs.Records.{numbers_flaws, numbers_of}
use Rattle.run_replay.proofs.records.read_numbers.Given as goal

-- the numbers so far and those of the rest are all; and what is wrong stands in the rest
abbrev pub invariant-loop-form : goal.invariant-loop-form
invariant-loop-form l = record {
  read : l.numbers.items ++ numbers_of (forest_of (drop l.form-index l.row)) ≡ numbers_of (forest_of l.row);
  sound : numbers_flaws (forest_of (drop l.form-index l.row)) ≡ numbers_flaws (forest_of l.row);
}
