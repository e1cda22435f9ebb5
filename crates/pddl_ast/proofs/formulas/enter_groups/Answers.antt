use Rattle.pddl_ast.proofs.NameLemmas.{names_push}
use Rattle.pddl_ast.proofs.formulas.enter_groups.Goals as goal

pub loop-group-preserved : goal.loop-group-preserved
loop-group-preserved c = cc (names_push c.args.scope.now c.loop-group.yielded c.in-Some.group, c.loop-group.invariant, c.in_ok-enter_names.ensures)
