use Rattle.std.proofs.Common.{◌≡◌, ◌<◌, ◌-◌, ℕ, length, get_or, true}
use Rattle.task_core.specs.Tasks.{fluent_count}
use Rattle.controller_rules.specs.AsRun.{MakeSameMove, counts_at}
use Rattle.controller_rules.specs.Checks.{place_of, run_value}
use Rattle.controller_rules.specs.declared.run_rules.RunRule.{RunRule}
use Rattle.controller_rules.proofs.run_rules.RunRules.are_like.Given as goal

abbrev pub invariant-loop-place : goal.invariant-loop-place
invariant-loop-place l = record {
  past : l.first < l.place;
  like : (k : ℕ) (d : RunRule) → l.first < k → k < l.place → k < length l.self.rules.items
      → counts_at (place_of (fluent_count l.task) l.state l.context) (run_value (get_or l.self.rules.items k d)) ≡ true
      → MakeSameMove (run_value (get_or l.self.rules.items l.first d)) (run_value (get_or l.self.rules.items k d));
}

abbrev pub decreases-loop-place : goal.decreases-loop-place
decreases-loop-place l = length l.self.rules.items - l.place
