-- No rule so far is for the state and the context.
use Rattle.std.specs.Prelude.{◌-◌, ◌≤◌, length}
use Rattle.task_core.specs.Tasks.{fluent_count}
use Rattle.trace.proofs.Chosen.{NoneBelow}
use Rattle.trace.proofs.rules.IndexedRules.rule_in.Given as goal

abbrev pub invariant-loop-number : goal.invariant-loop-number
invariant-loop-number l = record {
  none : NoneBelow (fluent_count l.task) l.self l.state l.context l.from;
  within : l.from ≤ length l.self.rules.items;
}

abbrev pub decreases-loop-number : goal.decreases-loop-number
decreases-loop-number l = length l.self.rules.items - l.from
