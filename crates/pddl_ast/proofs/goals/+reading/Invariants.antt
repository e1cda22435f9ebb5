use Rattle.std.proofs.Common.{◌≡◌, ◌+◌, ◌*◌, ◌++◌, drop, map}
use Rattle.sexpr_text.specs.Forest.{forest_of}
use Rattle.pddl_ast.specs.Goals as goals
use Rattle.pddl_ast.specs.Environment.{known_value}
use Rattle.pddl_ast.specs.Values.{temporal_value}
use Rattle.pddl_ast.proofs.Weights.{weight}
use Rattle.pddl_ast.proofs.goals.+reading.Given as goal

abbrev pub invariant-read_temporals-loop-form : goal.invariant-read_temporals-loop-form
invariant-read_temporals-loop-form l =
    (goals.temporals_flaws (known_value l.known) (forest_of l.row)
    ≡ goals.temporals_flaws (known_value l.known) (forest_of (drop l.form-index l.row)))
    × (goals.temporals_of (known_value l.known) (forest_of l.row)
    ≡ map temporal_value l.parts.items ++ goals.temporals_of (known_value l.known) (forest_of (drop l.form-index l.row)))

abbrev pub decreases-read_temporal : goal.decreases-read_temporal
decreases-read_temporal l = 2 * weight (forest_of l.parts.now)

abbrev pub decreases-read_temporals : goal.decreases-read_temporals
decreases-read_temporals l = 2 * weight (forest_of l.row.now)

abbrev pub decreases-read_exactly : goal.decreases-read_exactly
decreases-read_exactly l = 2 * weight (forest_of l.row.now) + 1
