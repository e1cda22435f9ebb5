use Rattle.std.proofs.Common.{◌≡◌, ℕ, true, false, get_or}
use Rattle.exec_graph.specs.Values.{plain_graph}
use Rattle.task_core.specs.Tasks.{fluent_count}
use Rattle.controller_rules.specs.Checks.{AgreeBelow, ServesIn, plain_rules}
use Rattle.controller_rules.proofs.served.agree_everywhere.Given as goal

abbrev pub invariant-loop-number : goal.invariant-loop-number
invariant-loop-number l = record {
  agree : AgreeBelow (plain_rules l.run) (plain_graph (fluent_count l.task) l.graph) l.number;
  served : (k : ℕ) → get_or l.served k false ≡ true → ServesIn (plain_rules l.run) (plain_graph (fluent_count l.task) l.graph) k;
}
