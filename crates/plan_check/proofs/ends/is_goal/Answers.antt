use Rattle.std.proofs.Common.{◌∙◌}
use Rattle.exec_graph.specs.Values.{state_at}
use Rattle.plan_check.proofs.GraphVerdicts.{goal_value}
use Rattle.plan_check.proofs.ends.is_goal.Goals as goal

pub returns : goal.returns
returns c = λ n below.
    c.cond_holds.ensures.value
    ∙ goal_value n c.args.goal.now c.state.result.now (state_at n c.args.graph.now c.args.number) below (c.state.ensures.state n)
