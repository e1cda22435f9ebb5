use Rattle.std.proofs.Common.{◌<◌, arith}
use Rattle.sexpr_text.specs.Forest.{forest_of}
use Rattle.pddl_ast.proofs.Weights.{weight as size, weight_item as size_item}
use Rattle.domain_read.proofs.checks.+check_row.Goals as goal

pub check_row-requires : goal.check_row-requires
check_row-requires t c =
    (let h : size (forest_of c.in-Group.parts.now) < size (forest_of c.args.row.now) = size_item c.args.row.now c.loop-form.form-index c.form-item.result c.in-Group.span (forest_of c.in-Group.parts.now) c.loop-form-test.true c.form-item.is c.in-Group.ensures in omega arith, tt {0})
