use Rattle.task_core.proofs.TaskSystem.{exec_within_256, is_at}
use Rattle.counterexamples.proofs.FalseParts.{found_precondition}
use Rattle.counterexamples.proofs.endings.false_precondition.Goals as goal

pub false_parts-requires : goal.false_parts-requires
false_parts-requires c = exec_within_256 c.args.task.now c.args.action.0 c.index-ground.result.now c.requires c.index-ground.ensures

pub returns : goal.returns
returns c =
    found_precondition c.false_parts.result c.args.task.now c.args.action.0 c.index-ground.result.now c.args.state.now
    (is_at c.args.task.now c.args.action.0 c.index-ground.result.now c.requires c.index-ground.ensures) c.false_parts.ensures.each c.false_parts.ensures.some
