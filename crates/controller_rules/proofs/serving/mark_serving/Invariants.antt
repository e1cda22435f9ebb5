use Rattle.std.proofs.Common.{◌≡◌, ◌<◌, ℕ, true, false, get_or, length}
use Rattle.exec_graph.specs.Values.{plain_graph}
use Rattle.task_core.specs.Tasks.{fluent_count}
use Rattle.controller_rules.specs.AsRun.{IsFirstAt}
use Rattle.controller_rules.specs.Checks.{ServesIn, plain_rules}
use Rattle.controller_rules.proofs.serving.mark_serving.Given as goal

abbrev pub invariant-loop-number : goal.invariant-loop-number
invariant-loop-number l = record {
  one_each : length l.marks ≡ length l.run.rules.items;
  marked : (k : ℕ) → get_or l.marks k false ≡ true → ServesIn (plain_rules l.run) (plain_graph (fluent_count l.task) l.graph) k;
  serving : (i k : ℕ) → i < l.number → IsFirstAt (plain_rules l.run) ((plain_graph (fluent_count l.task) l.graph).configuration i) k → get_or l.marks k false ≡ true;
}
