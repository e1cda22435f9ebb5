-- The terms so far, and those that are left, are together all.
use Rattle.std.proofs.Common.{◌≡◌, ◌++◌, drop, map}
use Rattle.lint_shapes.specs.Formulas.{term_of}
use Rattle.lint_shapes.proofs.formulas.part_atom.Given as goal

abbrev pub invariant-loop-slot : goal.invariant-loop-slot
invariant-loop-slot l = l.terms.items ++ map (term_of l.counted) (drop l.slot-index l.slot-items) ≡ map (term_of l.counted) l.part.slots.items
