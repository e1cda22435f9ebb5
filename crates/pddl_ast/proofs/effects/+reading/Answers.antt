use Rattle.std.proofs.Common.{ap, arith, ◌<◌}
use Rattle.pddl_ast.proofs.Weights.{weight, weight_item}
use Rattle.sexpr_text.specs.Forest.{forest_of}
use Rattle.pddl_ast.proofs.effects.+reading.Goals as goal

pub read_effect-read_effects-requires : goal.read_effect-read_effects-requires
read_effect-read_effects-requires t c = (omega (arith, ap weight c.in-Word.ensures), tt {0})

pub read_effect-read_effects-requires-in-Oneof : goal.read_effect-read_effects-requires-in-Oneof
read_effect-read_effects-requires-in-Oneof t c = (omega (arith, ap weight c.in-Word.ensures), tt {0})

pub read_effect-read_when-requires : goal.read_effect-read_when-requires
read_effect-read_when-requires t c = (omega (arith, ap weight c.in-Word.ensures), tt {0})

pub read_effect-read_each-requires : goal.read_effect-read_each-requires
read_effect-read_each-requires t c = (omega (arith, ap weight c.in-Word.ensures), tt {0})

pub read_when-read_effects-requires : goal.read_when-read_effects-requires
read_when-read_effects-requires t c = (omega (arith, ap weight c.in-Group.ensures), tt {0})

pub read_each-read_effects-requires : goal.read_each-read_effects-requires
read_each-read_effects-requires t c = (omega (arith, ap weight c.in-Group.ensures), tt {0})

pub read_effects-read_effect-requires : goal.read_effects-read_effect-requires
read_effects-read_effect-requires t c =
    (let h : weight (forest_of c.in-Group.parts.now) < weight (forest_of c.args.row.now) = weight_item c.args.row.now c.loop-form.form-index c.form-item.result c.in-Group.span (forest_of c.in-Group.parts.now) c.loop-form-test.true c.form-item.is c.in-Group.ensures in omega arith, tt {0})
