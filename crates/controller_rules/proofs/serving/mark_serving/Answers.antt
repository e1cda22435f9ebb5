use Rattle.std.proofs.Common.{◌≡◌, ◌∙◌, ◌<◌, ◌≤◌, false, true, get_or, subst, sym}
use Rattle.std.proofs.lemmas.List.{length-map}
use Rattle.exec_graph.specs.Values.{graph_size, plain_graph}
use Rattle.task_core.specs.Tasks.{fluent_count}
use Rattle.controller_rules.specs.Checks.{plain_rules, run_value}
use Rattle.controller_rules.proofs.Graphs.{serves_more}
use Rattle.controller_rules.proofs.Marking.{marks_say, serving_more}
use Rattle.controller_rules.proofs.serving.mark_serving.Goals as goal

pub loop-number-preserved : goal.loop-number-preserved
loop-number-preserved c =
    let n = fluent_count c.args.task.now in
    let number = c.loop-number.number in
    let below : number < graph_size c.args.graph.now = subst (λ m. number < m) c.len-number-end.ensures.len c.loop-number-test.true in
    record {
      one_each = c.mark_first.ensures.one_each;
      marked = λ k is.
          serves_more n (plain_rules c.args.run.now) (plain_graph n c.args.graph.now) number c.state-state.result.now c.context-context.result
          (c.state-state.ensures.state n) (c.context-context.ensures n) k (get_or c.loop-number.marks k false ≡ true) below (c.loop-number.invariant.marked k)
          (c.mark_first.ensures.only k is);
      serving = λ i k less first.
          serving_more n (plain_rules c.args.run.now) (plain_graph n c.args.graph.now) number c.state-state.result.now c.context-context.result
          (c.state-state.ensures.state n) (c.context-context.ensures n) c.loop-number.marks c.mark_first.new.marks
          (λ i k. c.loop-number.invariant.serving i k) (λ k. c.mark_first.ensures.kept k) (λ k. c.mark_first.ensures.first k) i k less first;
    }

pub returns : goal.returns
returns c =
    let n = fluent_count c.args.task.now in
    marks_say (plain_rules c.args.run.now) (plain_graph n c.args.graph.now) c.loop-number.marks c.loop-number.number
    (c.loop-number.invariant.one_each ∙ sym (length-map c.args.run.now.rules.items run_value))
    (subst (λ m. m ≤ c.loop-number.number) c.len-number-end.ensures.len c.loop-number-test.false)
    c.loop-number.invariant.marked c.loop-number.invariant.serving
