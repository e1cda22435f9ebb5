-- What is added, and what the parts that are left say, are together the whole.
use Rattle.std.proofs.Common.{◌≡◌, ◌++◌, drop, map}
use Rattle.std.specs.List.{flat_map}
use Rattle.pddl_ast.specs.Values.{formula_value}
use Rattle.lint_shapes.specs.Formulas.{alone_in}
use Rattle.lint_shapes.proofs.formulas.push_alone.Given as goal

abbrev pub invariant-loop-part : goal.invariant-loop-part
invariant-loop-part l = map formula_value l.all.items ++ flat_map (alone_in l.free) (drop l.part-index l.parts) ≡ map formula_value l.fn.all.items ++ flat_map (alone_in l.free) l.parts
