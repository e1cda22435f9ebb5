-- What is added, and what the types that are left say, are together the whole.
use Rattle.std.proofs.Common.{◌≡◌, ◌++◌, drop, map}
use Rattle.pddl_ast.specs.Values.{formula_value}
use Rattle.lint_shapes.specs.Formulas.{alone, alone_in}
use Rattle.lint_shapes.proofs.formulas.push_alone_in.Given as goal

abbrev pub invariant-loop-type_id : goal.invariant-loop-type_id
invariant-loop-type_id l = map formula_value l.all.items ++ map (alone l.free l.part) (drop l.type_id-index l.type_id-items) ≡ map formula_value l.fn.all.items ++ alone_in l.free l.part
