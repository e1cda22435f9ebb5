use Rattle.std.proofs.Common.{◌≡◌, ◌<◌, false, true, get_or, subst}
use Rattle.exec_graph.specs.Values.{graph_size, plain_graph}
use Rattle.task_core.specs.Tasks.{fluent_count}
use Rattle.controller_rules.specs.Checks.{plain_rules}
use Rattle.controller_rules.proofs.Graphs.{agree_more, serves_more}
use Rattle.controller_rules.proofs.served.agree_everywhere.Goals as goal

pub returns-then-not-agree_in-clause-served : goal.returns-then-not-agree_in-clause-served
returns-then-not-agree_in-clause-served c = λ k marked.
    let n = fluent_count c.args.task.now in
    let number = c.loop-number.number in
    let below : number < graph_size c.args.graph.now = subst (λ m. number < m) c.len-number-end.ensures.len c.loop-number-test.true in
    serves_more n (plain_rules c.args.run.now) (plain_graph n c.args.graph.now) number c.state-state.result.now c.context-context.result
    (c.state-state.ensures.state n) (c.context-context.ensures n) k (get_or c.loop-number.served k false ≡ true) below (c.loop-number.invariant.served k)
    (c.agree_in.ensures.served k marked)

pub loop-number-preserved : goal.loop-number-preserved
loop-number-preserved c =
    let n = fluent_count c.args.task.now in
    let number = c.loop-number.number in
    let below : number < graph_size c.args.graph.now = subst (λ m. number < m) c.len-number-end.ensures.len c.loop-number-test.true in
    record {
      agree = agree_more n (plain_rules c.args.run.now) (plain_graph n c.args.graph.now) number c.state-state.result.now c.context-context.result
          (c.state-state.ensures.state n) (c.context-context.ensures n) c.loop-number.invariant.agree (c.agree_in.ensures.one_move c.if-not-agree_in.false);
      served = λ k marked.
          serves_more n (plain_rules c.args.run.now) (plain_graph n c.args.graph.now) number c.state-state.result.now c.context-context.result
          (c.state-state.ensures.state n) (c.context-context.ensures n) k (get_or c.loop-number.served k false ≡ true) below (c.loop-number.invariant.served k)
          (c.agree_in.ensures.served k marked);
    }
