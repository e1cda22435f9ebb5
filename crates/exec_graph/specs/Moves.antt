-- Private: the moves from a configuration, as the code holds them.
use Rattle.std.specs.Prelude.{◌≡◌, ◌≢◌, ◌<◌, ◌≤◌, ◌+◌, ℕ, List, [], length, map, slice_index_or}
use Rattle.std.specs.List.{All, AllPairs, Contains, fold}
use Rattle.task_core.specs.States.{IsWithin, vector}
use Rattle.task_core.specs.ContextPlans.{Configuration}
use Rattle.exec_graph.specs.Counting.{Moved, add_configuration}
use Rattle.exec_graph.specs.declared.graphs.Place.{Place}
use Rattle.exec_graph.specs.declared.moves.Moves.{Moves}

-- Private: a configuration over n fluents
abbrev pub configuration_of : ℕ → Place → Configuration
configuration_of n place = record { state = vector n place.state; context = place.context }

-- Private: no state of the places has a true fluent from n on
abbrev pub IsPlaceWithin : ℕ → Place → Type 0
IsPlaceWithin n place = IsWithin n place.state

-- Private: the configurations that have numbers, in the order of the numbers
abbrev pub nowhere : Configuration
nowhere = record { state = []; context = 0 }

abbrev pub listed_at : List Configuration → List ℕ → List Configuration
listed_at found numbers = map (λ k. slice_index_or found k nowhere) numbers

-- Private: the configurations that were found, over n fluents
abbrev pub found_by : ℕ → Moves → List Configuration
found_by n moves = map (configuration_of n) moves.places.keys

-- Private: the moves over n fluents
abbrev pub moves_value : ℕ → Moves → Moved
moves_value n moves = record {
  next = listed_at (found_by n moves) moves.numbers.items;
  refused = moves.refused;
  lost = moves.lost;
}

-- Private: with one configuration more, unless it is there
abbrev pub with_configuration : Moved → Configuration → Moved
with_configuration m x = record { next = add_configuration m.next x; refused = m.refused; lost = m.lost }

-- Private: of the numbers of what was found, those that are listed have the mark of this visit
pub record AreListed (visit : ℕ) (found : List Configuration) (numbers marks : List ℕ) : Type 0 where
  pub begun : 0 < visit
  pub count : length marks ≡ length found
  pub below : (k : ℕ) → Contains numbers k → k < length found
  pub marked : (k : ℕ) → Contains numbers k → slice_index_or marks k 0 ≡ visit
  pub only : (k : ℕ) → slice_index_or marks k 0 ≡ visit → Contains numbers k
  pub latest : (k : ℕ) → slice_index_or marks k 0 ≤ visit

-- Private: a number got the mark of a visit
pub record IsMarkedAt (number visit : ℕ) (before after : List ℕ) : Type 0 where
  pub last : number ≡ length before → length after ≡ length before + 1
  pub inner : number < length before → length after ≡ length before
  pub here : slice_index_or after number 0 ≡ visit
  pub others : (k : ℕ) → k ≢ number → slice_index_or after k 0 ≡ slice_index_or before k 0

-- Private: the configurations are different, no state has a true fluent from n on, and the numbers
-- that are listed are marked
pub record AreMoves (n : ℕ) (moves : Moves) : Type 0 where
  pub within : All (IsPlaceWithin n) moves.places.keys
  pub different : AllPairs (λ x y. x ≢ y) (found_by n moves)
  pub listed : AreListed moves.visit (found_by n moves) moves.numbers.items moves.marks.items

-- Private: the same before a visit, which no number has the mark of
pub record IsBeforeVisit (n visit : ℕ) (moves : Moves) : Type 0 where
  pub within : All (IsPlaceWithin n) moves.places.keys
  pub different : AllPairs (λ x y. x ≢ y) (found_by n moves)
  pub begun : 0 < visit
  pub count : length moves.marks.items ≡ length (found_by n moves)
  pub earlier : (k : ℕ) → slice_index_or moves.marks.items k 0 < visit

-- Private: in the same visit, if those that were found are some of before and then the next ones,
-- they are still so
pub record HasGrown (n : ℕ) (before after : Moves) : Type 0 where
  pub visit : after.visit ≡ before.visit
  pub found : (first : List Configuration)
      → found_by n before ≡ fold add_configuration first (moves_value n before).next
      → found_by n after ≡ fold add_configuration first (moves_value n after).next
