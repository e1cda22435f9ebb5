-- From each state so far there is a plan, and the task is as it was but for its initial states.
use Rattle.std.proofs.Common.{◌≡◌, ◌<◌, ℕ, Some, map, slice_get}
use Rattle.dead_ends.specs.DeadEnds.{HasPlanFrom}
use Rattle.dead_ends.specs.Started.{IsLike}
use Rattle.task_core.specs.States.{vector}
use Rattle.task_core.specs.Tasks.{fluent_count, system_of}
use Rattle.task_core.specs.Vectors.{Vector}
use Rattle.dead_ends.proofs.outlooks.first_dead_end.Given as goal

abbrev pub invariant-loop-place : goal.invariant-loop-place
invariant-loop-place g l = record {
  like : IsLike l.fn.task l.task;
  first : (k : ℕ) (other : Vector) → k < l.place → slice_get (map (vector (fluent_count l.fn.task)) l.states) k ≡ Some other
      → HasPlanFrom l.wanted.class (system_of l.fn.task) other;
}
