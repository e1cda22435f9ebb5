-- The states after the entries so far.
use Rattle.std.proofs.Common.{[], ◌∷◌}
use Rattle.dd_sets.specs.Frames.{Owns}
use Rattle.task_core.specs.Tasks.{fluent_count, states_after_entries}
use Rattle.encode_task.specs.TaskSets.{set_of_states}
use Rattle.encode_task.proofs.initial.initial_vectors.Given as goal

abbrev pub invariant-loop-entry : goal.invariant-loop-entry
invariant-loop-entry l = Owns l.fn.sets l.sets ((l.states.0, set_of_states (fluent_count l.task) (states_after_entries l.task l.entry-index)) ∷ [])
