use Rattle.std.proofs.Common.{◌∙◌, sym}
use Rattle.task_core.proofs.TaskSystem.{allowed_value, exec_within_256}
use Rattle.task_core.proofs.steps.is_allowed.Goals as goal

pub cond_holds-requires : goal.cond_holds-requires
cond_holds-requires c = exec_within_256 c.args.task.now c.args.action.0 c.index.result.now c.requires.in_range c.index.ensures

pub returns-then-in_space : goal.returns-then-in_space
returns-then-in_space c =
    c.cond_holds.ensures.value
    ∙ allowed_value c.args.task.now c.args.action.0 c.index.result.now c.requires.in_range c.index.ensures c.args.state.now
    (sym c.in_space.ensures.value ∙ c.if-in_space.true)
