use Rattle.std.proofs.Common.{◌≡◌, ◌++◌, drop, map}
use Rattle.sexpr_text.specs.Forest.{forest_of}
use Rattle.sexpr_text.specs.Parts.{flaws_of_groups, each_group}
use Rattle.pddl_ast.specs.Values.{literal_value}
use Rattle.pddl_ast.specs.Environment.{known_value}
use Rattle.pddl_problem.specs.Init.{part_flaws, part_literal}
use Rattle.pddl_problem.proofs.init.read_parts.Given as goal

abbrev pub invariant-loop-form : goal.invariant-loop-form
invariant-loop-form l =
    (flaws_of_groups (part_flaws (known_value l.known)) (forest_of l.row) ≡ flaws_of_groups (part_flaws (known_value l.known)) (forest_of (drop l.form-index l.row)))
    × (each_group (part_literal (known_value l.known)) (forest_of l.row)
    ≡ map literal_value l.literals.items ++ each_group (part_literal (known_value l.known)) (forest_of (drop l.form-index l.row)))
