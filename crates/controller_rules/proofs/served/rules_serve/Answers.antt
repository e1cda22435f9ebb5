use Rattle.std.proofs.Common.{rules, ◌≡◌}
use Rattle.std.proofs.lemmas.Result.{IfOk-weaker}
use Rattle.std.specs.Bool.{IsTrue}
use Rattle.exec_graph.specs.Graphs.{IsGraphOf}
use Rattle.exec_graph.specs.Values.{plain_graph}
use Rattle.rule_lookup.specs.RunRules.{run_rules}
use Rattle.plan_rules.specs.Rules.{PlainPlan, plain_of}
use Rattle.task_core.specs.Tasks.{fluent_count, system_of}
use Rattle.controller_rules.specs.AsRun.{HasNoDeadRule, HasOneMove}
use Rattle.controller_rules.specs.Checks.{plain_rules}
use Rattle.controller_rules.proofs.served.rules_serve.Goals as goal

pub returns-in-Some-clause-one_move : goal.returns-in-Some-clause-one_move
returns-in-Some-clause-one_move c =
    let sys = system_of c.args.task.now in
    let graph = plain_graph (fluent_count c.args.task.now) c.args.graph.now in
    let same : plain_rules c.in-Some.run' ≡ run_rules (plain_of c.args.plan.now) = search rules in
    IfOk-weaker c.serve_in.result (λ serve. (plan : PlainPlan) → IsTrue serve → plain_rules c.in-Some.run' ≡ run_rules plan → IsGraphOf sys plan graph → HasOneMove sys plan)
    (λ serve. IsTrue serve → HasOneMove sys (plain_of c.args.plan.now))
    (λ serve h is. h (plain_of c.args.plan.now) is same c.requires.graph) c.serve_in.ensures.one_move

pub returns-in-Some-clause-no_dead_rule : goal.returns-in-Some-clause-no_dead_rule
returns-in-Some-clause-no_dead_rule c =
    let sys = system_of c.args.task.now in
    let graph = plain_graph (fluent_count c.args.task.now) c.args.graph.now in
    let same : plain_rules c.in-Some.run' ≡ run_rules (plain_of c.args.plan.now) = search rules in
    IfOk-weaker c.serve_in.result (λ serve. (plan : PlainPlan) → IsTrue serve → plain_rules c.in-Some.run' ≡ run_rules plan → IsGraphOf sys plan graph → HasNoDeadRule sys plan)
    (λ serve. IsTrue serve → HasNoDeadRule sys (plain_of c.args.plan.now))
    (λ serve h is. h (plain_of c.args.plan.now) is same c.requires.graph) c.serve_in.ensures.no_dead_rule
