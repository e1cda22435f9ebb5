use Rattle.std.proofs.Common.{◌≤◌, ◌-◌, length, map}
use Rattle.cube_index.specs.Places.{HasNone}
use Rattle.task_core.specs.Tasks.{fluent_count}
use Rattle.controller_rules.specs.AsRun.{counts_at}
use Rattle.controller_rules.specs.Checks.{place_of, plain_rules}
use Rattle.controller_rules.proofs.run_rules.RunRules.next_counting.Given as goal

abbrev pub invariant-loop-place : goal.invariant-loop-place
invariant-loop-place l = record {
  past : l.from ≤ l.place;
  none : HasNone (map (counts_at (place_of (fluent_count l.task) l.state l.context)) (plain_rules l.self)) l.from l.place;
}

abbrev pub decreases-loop-place : goal.decreases-loop-place
decreases-loop-place l = length l.self.rules.items - l.place
