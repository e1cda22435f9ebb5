-- The parts so far, and whatever shows why the part that is left is false, show why the goal is.
use Rattle.std.proofs.Common.{◌++◌, List}
use Rattle.ctl_syntax.specs.Values.{ctl_value}
use Rattle.task_core.specs.Tasks.{fluent_count}
use Rattle.goal_witness.specs.Failing.{FailsFrom, goal_size}
use Rattle.goal_witness.specs.Failures.{PlainLink}
use Rattle.goal_witness.specs.Links.{links_value}
use Rattle.goal_witness.specs.Scenes.{IsFalseAtNumber}
use Rattle.goal_witness.proofs.witnesses.links_from.Given as goal

abbrev pub invariant-inside : goal.invariant-inside
invariant-inside g l = record {
  fails : IsFalseAtNumber l.scene (ctl_value l.part) l.at;
  joins : (more : List PlainLink) → FailsFrom l.scene (ctl_value l.part) l.at more
      → FailsFrom l.scene (ctl_value l.goal) l.number (links_value (fluent_count l.scene.task.now) l.links.items ++ more);
}

abbrev pub decreases-inside : goal.decreases-inside
decreases-inside g l = goal_size (ctl_value l.part)
