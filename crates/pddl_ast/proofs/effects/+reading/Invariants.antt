use Rattle.std.proofs.Common.{◌≡◌, ◌++◌, drop, map}
use Rattle.sexpr_text.specs.Forest.{forest_of}
use Rattle.pddl_ast.specs.Effects as effect
use Rattle.pddl_ast.specs.Environment.{known_value}
use Rattle.pddl_ast.specs.Values.{effect_value}
use Rattle.pddl_ast.proofs.Weights.{weight}
use Rattle.pddl_ast.proofs.effects.+reading.Given as goal

abbrev pub invariant-read_effects-loop-form : goal.invariant-read_effects-loop-form
invariant-read_effects-loop-form l =
    (l.scope ≡ l.fn.scope)
    × (effect.effects_flaws (known_value l.known) (forest_of l.row) l.fn.scope
    ≡ effect.effects_flaws (known_value l.known) (forest_of (drop l.form-index l.row)) l.fn.scope)
    × (effect.effects_of (known_value l.known) (forest_of l.row) l.fn.scope
    ≡ map effect_value l.effects.items ++ effect.effects_of (known_value l.known) (forest_of (drop l.form-index l.row)) l.fn.scope)

abbrev pub decreases-read_effect : goal.decreases-read_effect
decreases-read_effect l = weight (forest_of l.parts.now)

abbrev pub decreases-read_effects : goal.decreases-read_effects
decreases-read_effects l = weight (forest_of l.row.now)

abbrev pub decreases-read_when : goal.decreases-read_when
decreases-read_when l = weight (forest_of l.rest.now)

abbrev pub decreases-read_each : goal.decreases-read_each
decreases-read_each l = weight (forest_of l.rest.now)
