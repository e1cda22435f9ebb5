use Rattle.std.proofs.Common.{subst}
use Rattle.std.specs.Prelude.{IfSome, IfNone}
use Rattle.task_core.specs.Tasks.{fluent_count, system_of}
use Rattle.exec_graph.specs.Values.{followers_at, graph_size}
use Rattle.plan_check.specs.Walks.{ComesRound, IsLongestWalk}
use Rattle.plan_check.proofs.GraphVerdicts.{comes_round, ends_inside, ends_outside, goal_below, strong_ends, strong_round, strong_yes}
use Rattle.plan_check.proofs.classes.check_strong.Goals as goal

pub returns-then-has_end_outside-clause-verdict : goal.returns-then-has_end_outside-clause-verdict
returns-then-has_end_outside-clause-verdict g c = λ task word rules is h follow.
    strong_ends (system_of task) rules follow
    (ends_outside task c.args.goal.now is c.args.graph.now word rules h (c.if-has_end_outside.ensures (fluent_count task) (goal_below task c.args.goal.now is)))

pub returns-in-Some-clause-verdict : goal.returns-in-Some-clause-verdict
returns-in-Some-clause-verdict g c = λ task word rules is h follow.
    strong_yes task c.args.goal.now is c.args.graph.now word rules h follow
    (ends_inside task c.args.goal.now is c.args.graph.now word rules h (c.if-has_end_outside.ensures (fluent_count task) (goal_below task c.args.goal.now is)))
    c.in-Some.longest
    (subst (λ o. IfSome o (IsLongestWalk (graph_size c.args.graph.now) (followers_at c.args.graph.now))) c.in-Some.is c.in_ok-longest.ensures.longest)

pub returns-in-None-clause-verdict : goal.returns-in-None-clause-verdict
returns-in-None-clause-verdict g c = λ task word rules is h follow.
    strong_round (system_of task) rules follow
    (ends_inside task c.args.goal.now is c.args.graph.now word rules h (c.if-has_end_outside.ensures (fluent_count task) (goal_below task c.args.goal.now is)))
    (comes_round task c.args.goal.now is c.args.graph.now word rules h
    (subst (λ o. IfNone o (ComesRound (graph_size c.args.graph.now) (followers_at c.args.graph.now))) c.in-None.is c.in_ok-longest.ensures.round))
