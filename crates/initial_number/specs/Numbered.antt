-- What a number names in a list of initial states.
use Rattle.std.specs.Prelude.{◌≡◌, ◌≢◌, ℕ, ◌<◌, ◌≤◌, List, [], length, slice_index_or}
use Rattle.task_core.specs.States.{IsWithin, vector}
use Rattle.task_core.specs.Vectors.{Vector}
use Rattle.initial_number.specs.declared.numbered.Numbered.{Numbered}
use Rattle.initial_number.specs.declared.numbered.Numbered.TheVariants.{Found, Beyond, NoInitial}

-- the state is the one at that place of the list, counted from 0; or the list ends before that
-- place; or the list is empty
abbrev pub IsNumbered : ℕ → List Vector → ℕ → Numbered → Type 0
IsNumbered n states number (Found state) =
    (number < length states) × (slice_index_or states number [] ≡ vector n state) × IsWithin n state
IsNumbered n states number Beyond = (states ≢ []) × (length states ≤ number)
IsNumbered n states number NoInitial = states ≡ []
