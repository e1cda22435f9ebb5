-- Private: a graph that is being made. The configurations that were found are numbered in the order
-- in which they were found. The first of them were visited: their followers were found too.
use Rattle.std.specs.Prelude.{◌≡◌, ◌≢◌, ◌↔◌, ◌≤◌, ◌<◌, ◌+◌, ◌||◌, ℕ, Bool, IsTrue, List, [], ◌∷◌, ◌++◌}
use Rattle.std.specs.Prelude.{length, map, slice_get, take, Some}
use Rattle.std.specs.List.{All, AllPairs, Contains, flat_map, fold}
use Rattle.task_core.specs.States.{vector}
use Rattle.task_core.specs.Systems.{System, IsState}
use Rattle.task_core.specs.ContextPlans.{Configuration}
use Rattle.task_core.specs.declared.states.State.{State}
use Rattle.plan_rules.specs.Rules.{PlainPlan}
use Rattle.exec_graph.specs.Counting.{add_configuration, moves_from}
use Rattle.exec_graph.specs.Executions.{GoesTo, IsReachedBy, IsStuckAt, IsUnexecutableAt}
use Rattle.exec_graph.specs.Moves.{IsBeforeVisit, found_by}
use Rattle.exec_graph.specs.Orders.{in_first, onward}
use Rattle.exec_graph.specs.Rows.{row_count, rows_of}
use Rattle.exec_graph.specs.declared.exploration.Draft.{Draft}

-- Private: the places of states, over n fluents
abbrev pub beginnings : ℕ → List State → List Configuration
beginnings n states = map (λ s. in_first (vector n s)) states

-- Private: a draft as plain data
pub record PlainDraft : Type 0 where
  pub found : List Configuration
  pub next : List (List ℕ)
  pub unexecutable : Bool
  pub stuck : Bool

-- Private: a draft over n fluents, and what is known of it before the next visit
abbrev pub draft_value : ℕ → Draft → PlainDraft
draft_value n draft = record {
  found = found_by n draft.moves;
  next = rows_of draft.next;
  unexecutable = draft.unexecutable;
  stuck = draft.stuck;
}

abbrev pub IsDraftWithin : ℕ → Draft → Type 0
IsDraftWithin n draft = IsBeforeVisit n (row_count draft.next + 1) draft.moves

-- Private: these places got these numbers in the list of those that were found, which has grown by
-- them
pub record IsNumbered (found places now : List Configuration) (numbers : List ℕ) : Type 0 where
  pub grown : now ≡ fold add_configuration found places
  pub numbered : map (slice_get now) numbers ≡ map Some places

-- Private: one more configuration was visited
pub record IsVisit (sys : System) (plan : PlainPlan) (before after : PlainDraft) : Type 0 where
  pub place : Configuration
  pub is : slice_get before.found (length before.next) ≡ Some place
  pub numbers : List ℕ
  pub numbered : IsNumbered before.found (moves_from sys plan place).next after.found numbers
  pub next : after.next ≡ before.next ++ numbers ∷ []
  pub unexecutable : after.unexecutable
      ≡ (before.unexecutable || (moves_from sys plan place).refused)
  pub stuck : after.stuck ≡ (before.stuck || (moves_from sys plan place).lost)

-- Private: with the followers of the next configuration there are more than so many
pub record HasTooMany (sys : System) (plan : PlainPlan) (limit : ℕ)
    (draft : PlainDraft) : Type 0 where
  pub place : Configuration
  pub is : slice_get draft.found (length draft.next) ≡ Some place
  pub more : limit < length (fold add_configuration draft.found (moves_from sys plan place).next)

-- Private: the number of a configuration that was found
pub record HasNumber (found : List Configuration) (numbers : List ℕ)
    (y : Configuration) : Type 0 where
  pub number : ℕ
  pub listed : Contains numbers number
  pub is : slice_get found number ≡ Some y

-- Private: a number is that of a configuration that follows x
pub record IsNumberOfNext (sys : System) (plan : PlainPlan) (found : List Configuration)
    (x : Configuration) (number : ℕ) : Type 0 where
  pub place : Configuration
  pub is : slice_get found number ≡ Some place
  pub follows : GoesTo sys plan x place

-- Private: the numbers are those of the configurations that follow x, each once
pub record IsFollowed (sys : System) (plan : PlainPlan) (found : List Configuration)
    (x : Configuration) (numbers : List ℕ) : Type 0 where
  pub once : AllPairs (λ i j. i ≢ j) numbers
  pub sound : (number : ℕ) → Contains numbers number → IsNumberOfNext sys plan found x number
  pub whole : (y : Configuration) → GoesTo sys plan x y → HasNumber found numbers y

-- Private: some of the first k configurations has the property
pub record SomeOfFirst (P : Configuration → Type 0) (found : List Configuration)
    (k : ℕ) : Type 0 where
  pub number : ℕ
  pub below : number < k
  pub place : Configuration
  pub is : slice_get found number ≡ Some place
  pub has : P place

-- Private: what is known of a draft
pub record IsSearched (sys : System) (plan : PlainPlan) (draft : PlainDraft) : Type 0 where
  pub different : AllPairs (λ x y. x ≢ y) draft.found
  pub reached : All (IsReachedBy sys plan) draft.found
  pub states : All (λ x. IsState sys x.state) draft.found
  pub begun : (i : ℕ) (x : Configuration) → slice_get (map in_first sys.initial) i ≡ Some x
      → slice_get draft.found i ≡ Some x
  pub in_order : draft.found ≡ fold add_configuration (map in_first sys.initial)
      (flat_map (onward sys plan) (take (length draft.next) draft.found))
  pub fewer : length draft.next ≤ length draft.found
  pub followed : (i : ℕ) (x : Configuration) (numbers : List ℕ) → slice_get draft.found i ≡ Some x
      → slice_get draft.next i ≡ Some numbers → IsFollowed sys plan draft.found x numbers
  pub unexecutable : IsTrue draft.unexecutable
      ↔ SomeOfFirst (IsUnexecutableAt sys plan) draft.found (length draft.next)
  pub stuck : IsTrue draft.stuck ↔ SomeOfFirst (IsStuckAt sys plan) draft.found (length draft.next)
