-- The run has come so far.
use Rattle.std.specs.Prelude.{◌-◌, length}
use Rattle.run_replay.specs.Traces.{most_steps}
use Rattle.task_core.specs.Tasks.{action_count, fluent_count, system_of}
use Rattle.trace.specs.Indexed.{rules_in}
use Rattle.trace.proofs.Courses.{HasCome}
use Rattle.trace.proofs.runs.run_rules.Given as goal

abbrev pub invariant-loop-halt : goal.invariant-loop-halt
invariant-loop-halt l = HasCome
    (system_of l.task) (rules_in l.rules) (fluent_count l.task) (action_count l.task) l.first l.words
    l.course.steps.items l.course.state l.course.context

abbrev pub decreases-loop-halt : goal.decreases-loop-halt
decreases-loop-halt l = most_steps - length l.course.steps.items
