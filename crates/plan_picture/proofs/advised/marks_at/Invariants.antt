-- The marks of the rules so far, and those that are left.
use Rattle.std.proofs.Common.{◌≡◌, ◌<◌, ◌||◌, ℕ, drop, false, length, map}
use Rattle.std.specs.Prelude.{slice_index_or}
use Rattle.plan_rules.specs.Denoted.{advises}
use Rattle.plan_rules.specs.Rules.{rule_of}
use Rattle.task_core.specs.States.{vector}
use Rattle.task_core.specs.Tasks.{action_count, fluent_count}
use Rattle.plan_picture.proofs.advised.marks_at.Given as goal

abbrev pub invariant-loop-rule : goal.invariant-loop-rule
invariant-loop-rule l = record {
  count : length l.marks.items ≡ action_count l.task;
  marks : (a : ℕ) → a < action_count l.task
      → (slice_index_or l.marks.items a false || advises (map rule_of (drop l.rule-index l.rules)) (vector (fluent_count l.task) l.state) a)
      ≡ advises (map rule_of l.rules) (vector (fluent_count l.task) l.state) a;
}
