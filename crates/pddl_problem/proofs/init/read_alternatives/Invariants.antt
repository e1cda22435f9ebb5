use Rattle.std.proofs.Common.{◌≡◌, ◌++◌, drop, map}
use Rattle.sexpr_text.specs.Forest.{forest_of}
use Rattle.sexpr_text.specs.Parts.{flaws_of_groups, each_group}
use Rattle.pddl_problem.specs.Values.{alternative_value}
use Rattle.pddl_ast.specs.Environment.{known_value}
use Rattle.pddl_problem.specs.Init.{alternative_flaws, alternative}
use Rattle.pddl_problem.proofs.init.read_alternatives.Given as goal

abbrev pub invariant-loop-form : goal.invariant-loop-form
invariant-loop-form l =
    (flaws_of_groups (alternative_flaws (known_value l.known)) (forest_of l.row) ≡ flaws_of_groups (alternative_flaws (known_value l.known)) (forest_of (drop l.form-index l.row)))
    × (each_group (alternative (known_value l.known)) (forest_of l.row)
    ≡ map alternative_value l.alternatives.items ++ each_group (alternative (known_value l.known)) (forest_of (drop l.form-index l.row)))
