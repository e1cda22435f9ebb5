use Rattle.std.proofs.Common.{arith, length}
use Rattle.context_plan.proofs.FitSteps.{widest}
use Rattle.context_plan.specs.Chains.{until_sets}
use Rattle.control_command.proofs.Tables.{table_found, width_for}
use Rattle.control_command.proofs.context_searches.follow_stages.Goals as goal

pub follow_board-requires-clause-table : goal.follow_board-requires-clause-table
follow_board-requires-clause-table c =
    let task = c.args.task.now in
    let bounds = widest task c.args.chain.now in
    table_found task c.args.enc.now c.until_takers.new.enc c.requires.made (length c.args.chain.now.stages.items) c.len-stages.result (until_sets c.args.chain.now) bounds.fluents
    c.in_ok-board.field-0 c.in-Some.board c.in-Some.is (omega (arith, c.args.chain.now.stages.ok.0, c.len-stages.ensures)) (c.in_ok-board.ensures.table c.requires.made (width_for task) bounds)
