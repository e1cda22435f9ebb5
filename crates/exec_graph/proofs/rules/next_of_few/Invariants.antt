-- No rule so far matches.
use Rattle.std.proofs.Common.{map}
use Rattle.plan_rules.specs.Rules.{rule_of}
use Rattle.task_core.specs.States.{vector}
use Rattle.task_core.specs.Tasks.{fluent_count}
use Rattle.exec_graph.specs.ByContext.{MatchNone}
use Rattle.exec_graph.proofs.rules.next_of_few.Given as goal

abbrev pub invariant-loop-place : goal.invariant-loop-place
invariant-loop-place l =
    MatchNone (vector (fluent_count l.task) l.state) (map rule_of l.rules) l.fn.from l.place
