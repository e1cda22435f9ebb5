-- Private: uncertain entries of which each choice of alternatives gives a vector of its own.
use Rattle.std.specs.Prelude.{◌≡◌, ℕ, ◌+◌, ◌*◌, ◌<◌, List, [], ◌∷◌, length, map, slice_index_or}
use Rattle.std.specs.List.{flat_map}
use Rattle.task_core.specs.Vectors.{Vector}
use Rattle.task_core.specs.Initial.{Entry, applied, entries_of}
use Rattle.task_core.specs.Tasks.{fluent_count, initial_vectors, states_after_entries}
use Rattle.task_core.specs.declared.tasks.Task.{Task}

-- for each vector so far, and each alternative, the vector with it applied, equal ones too
abbrev pub each_applied : ℕ → List Vector → Entry → List Vector
each_applied n states entry = flat_map (λ v. map (applied n v) entry) states

-- in how many ways an alternative of each entry can be chosen
abbrev pub choice_count : List Entry → ℕ
choice_count [] = 1
choice_count (entry ∷ entries) = length entry * choice_count entries

-- there are so many choices and as many vectors after all entries: each entry gives, for each vector
-- before it, one with each alternative, and no two of them are equal
pub record AreChoices (task : Task) (count : ℕ) : Type 0 where
  pub total : count ≡ choice_count (entries_of task.init)
  pub sized : length (initial_vectors task) ≡ count
  pub each : (k : ℕ) → k < length (entries_of task.init) → states_after_entries task (k + 1)
      ≡ each_applied (fluent_count task) (states_after_entries task k)
      (slice_index_or (entries_of task.init) k [])
