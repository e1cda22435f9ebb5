use Rattle.std.proofs.Common.{ap, arith, ◌<◌}
use Rattle.pddl_ast.proofs.Weights.{weight, weight_item}
use Rattle.sexpr_text.specs.Forest.{forest_of}
use Rattle.pddl_ast.proofs.formulas.+reading.Goals as goal

pub read_formula-read_formulas-requires : goal.read_formula-read_formulas-requires
read_formula-read_formulas-requires t c = (omega (arith, ap weight c.in-Word.ensures), tt {0})

pub read_formula-read_formulas-requires-in-Or : goal.read_formula-read_formulas-requires-in-Or
read_formula-read_formulas-requires-in-Or t c = (omega (arith, ap weight c.in-Word.ensures), tt {0})

pub read_formula-read_formulas-requires-in-Not : goal.read_formula-read_formulas-requires-in-Not
read_formula-read_formulas-requires-in-Not t c = (omega (arith, ap weight c.in-Word.ensures), tt {0})

pub read_formula-read_formulas-requires-in-Imply : goal.read_formula-read_formulas-requires-in-Imply
read_formula-read_formulas-requires-in-Imply t c = (omega (arith, ap weight c.in-Word.ensures), tt {0})

pub read_formula-read_quantifier-requires : goal.read_formula-read_quantifier-requires
read_formula-read_quantifier-requires t c = (omega (arith, ap weight c.in-Word.ensures), tt {0})

pub read_formula-read_quantifier-requires-in-Forall : goal.read_formula-read_quantifier-requires-in-Forall
read_formula-read_quantifier-requires-in-Forall t c = (omega (arith, ap weight c.in-Word.ensures), tt {0})

pub read_formulas-read_formula-requires : goal.read_formulas-read_formula-requires
read_formulas-read_formula-requires t c =
    (let h : weight (forest_of c.in-Group.parts.now) < weight (forest_of c.args.row.now) = weight_item c.args.row.now c.loop-form.form-index c.form-item.result c.in-Group.span (forest_of c.in-Group.parts.now) c.loop-form-test.true c.form-item.is c.in-Group.ensures in omega arith, tt {0})

pub read_quantifier-read_formulas-requires : goal.read_quantifier-read_formulas-requires
read_quantifier-read_formulas-requires t c = (omega (arith, ap weight c.in-Group.ensures), tt {0})
