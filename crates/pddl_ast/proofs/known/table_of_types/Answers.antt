use Rattle.pddl_ast.proofs.Distinct.{table_step, here}
use Rattle.pddl_ast.proofs.known.table_of_types.Goals as goal

pub loop-name-preserved : goal.loop-name-preserved
loop-name-preserved c =
    table_step c.args.types.now c.loop-name.table c.add.new.self c.loop-name.name-index c.name-item.result c.loop-name-test.true c.requires
    (here c.args.types.now c.loop-name.name-index c.name-item.result c.loop-name-test.true c.name-item.is) c.loop-name.invariant c.in_ok-add.ensures.names
