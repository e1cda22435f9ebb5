-- The types so far, and those that are left, are together all.
use Rattle.std.proofs.Common.{◌≡◌, ◌++◌, drop}
use Rattle.std.specs.List.{flat_map}
use Rattle.lint_shapes.specs.Formulas.{counted_in, counted_types}
use Rattle.lint_shapes.proofs.formulas.counted_types.Given as goal

abbrev pub invariant-loop-slot : goal.invariant-loop-slot
invariant-loop-slot l = l.types.items ++ flat_map counted_in (drop l.slot-index l.slot-items) ≡ counted_types l.part
