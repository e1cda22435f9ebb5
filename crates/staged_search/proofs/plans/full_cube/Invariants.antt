-- The literals so far are of fluents of the task.
use Rattle.plan_rules.specs.Plans.{IsCubeOf}
use Rattle.task_core.specs.Tasks.{fluent_count}
use Rattle.staged_search.proofs.plans.full_cube.Given as goal

abbrev pub invariant-loop-number : goal.invariant-loop-number
invariant-loop-number l = record {
  cube : IsCubeOf (fluent_count l.task) l.cube.items;
}
