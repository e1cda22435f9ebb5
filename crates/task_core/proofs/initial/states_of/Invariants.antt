-- The list has those of the vectors so far that are states.
use Rattle.std.proofs.Common.{◌≡◌, ℕ, map, take}
use Rattle.std.specs.List.{All, filter}
use Rattle.task_core.specs.States.{IsWithin, vector}
use Rattle.task_core.specs.Tasks.{fluent_count, in_space}
use Rattle.task_core.proofs.initial.states_of.Given as goal

abbrev pub invariant-loop-found : goal.invariant-loop-found
invariant-loop-found l = record {
  list : map (vector (fluent_count l.task)) l.states.items
      ≡ filter (in_space l.task) (map (vector (fluent_count l.task)) (take l.found-index l.found-items));
  within : (n : ℕ) → All (IsWithin n) l.found-items → All (IsWithin n) l.states.items;
}
