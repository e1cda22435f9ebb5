use Rattle.std.proofs.Common.{arith, ◌<◌}
use Rattle.sexpr_text.specs.Forest.{forest_of}
use Rattle.pddl_ast.proofs.Weights.{weight, weight_item}
use Rattle.lint_mistakes.proofs.idle.+deletes.Goals as goal

pub deletes-requires : goal.deletes-requires
deletes-requires t c =
    (let h : weight (forest_of c.in-Group.parts.now) < weight (forest_of c.args.row.now) = weight_item c.args.row.now c.loop-form.form-index c.form-item.result c.in-Group._span (forest_of c.in-Group.parts.now) c.loop-form-test.true c.form-item.is c.in-Group.ensures in omega arith, tt {0})
