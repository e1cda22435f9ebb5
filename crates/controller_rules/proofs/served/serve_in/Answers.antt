use Rattle.std.proofs.Common.{rules, ◌≡◌, ◌<◌, ◌∙◌, ap, false, get_or, length, subst, sym}
use Rattle.exec_graph.specs.Values.{plain_graph}
use Rattle.task_core.specs.Tasks.{fluent_count, system_of}
use Rattle.controller_rules.specs.Checks.{plain_rules}
use Rattle.controller_rules.proofs.Graphs.{has_no_dead_rule, has_one_move, marks_are, rule_inside}
use Rattle.controller_rules.proofs.served.serve_in.Goals as goal

pub returns-clause-one_move : goal.returns-clause-one_move
returns-clause-one_move c = λ plan _ same is.
    has_one_move (system_of c.args.task.now) plan (plain_graph (fluent_count c.args.task.now) c.args.graph.now) (plain_rules c.args.run.now) same is
    (c.agree_everywhere.ensures.one_move c.if-not-agree_everywhere.false)

pub returns-clause-no_dead_rule : goal.returns-clause-no_dead_rule
returns-clause-no_dead_rule c = λ plan all same is.
    let kept : length c.agree_everywhere.new.served ≡ c.in_ok-served.served.len = search rules in
    let whole : c.deref.result.now ≡ c.agree_everywhere.new.served = c.deref.ensures.value ∙ marks_are c.in_ok-served.served.len c.agree_everywhere.new.served _ kept in
    let long : length c.deref.result.now ≡ length c.args.run.now.rules.items = search rules in
    has_no_dead_rule (system_of c.args.task.now) plan (plain_graph (fluent_count c.args.task.now) c.args.graph.now) (plain_rules c.args.run.now) same is
    (λ k inside.
    let there : k < length c.deref.result.now = subst (λ m. k < m) (sym long) (rule_inside c.args.run.now k inside) in
    c.agree_everywhere.ensures.served k (ap (λ marks. get_or marks k false) (sym whole) ∙ c.are_all.ensures all k there))
