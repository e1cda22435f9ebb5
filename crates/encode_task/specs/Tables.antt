-- Private: the tables of slots while they are made.
use Rattle.std.specs.Prelude.{◌≡◌, ℕ, ◌<◌, ◌||◌, Bool, true, false, ⊤, ◌⊎◌, List, [], ◌∷◌}
use Rattle.std.specs.Prelude.{Option, Some, None, IsSome, slice_index_or}
use Rattle.dd_ops.specs.Operations.{variable}
use Rattle.task_core.specs.Actions.{after_value}
use Rattle.task_core.specs.Conditions.{AlwaysHolds}
use Rattle.task_core.specs.Cubes.{Cube}
use Rattle.task_core.specs.declared.conditions.Cond.{Cond}
use Rattle.task_core.specs.declared.actions.GroundAction.{GroundAction}
use Rattle.task_core.specs.declared.actions.Outcome.{Outcome}
use Rattle.task_core.specs.declared.literals.FluentId.{FluentId}
use Rattle.dd_sets.specs.Frames.{Owns}
use Rattle.dd_sets.specs.LiveSets.{LiveSets, AllLive, is_live, listed_set}
use Rattle.dd_sets.specs.declared.slots.SetId.{SetId}
use Rattle.encode_task.specs.Counts.{some_leaves}
use Rattle.encode_task.specs.Made.{Holds, HoldsOutcome}
use Rattle.encode_task.specs.Names.{names_fluent}
use Rattle.encode_task.specs.Slots.{ActionSlots}
use Rattle.encode_task.specs.TaskSets.{exec_of, lands_of}

-- the slots that outcomes share hold the values of their fluents
pub record IsShared (sets : LiveSets) (shared : List (Option SetId)) : Type 0 where
  pub holds : (f : ℕ) (slot : SetId) → slice_index_or shared f None ≡ Some slot
      → Holds sets slot (variable f)

-- a fluent that some outcome leaves alone has a new slot for its own value, another has none
abbrev pub IsSharedSlot : LiveSets → LiveSets → Bool → ℕ → Option SetId → Type 0
IsSharedSlot before after left f (Some slot) =
    (left ≡ true) × Owns before after ((slot.0, variable f) ∷ [])
IsSharedSlot before after left f None = (left ≡ false) × (after ≡ before)

-- each of the first n fluents that some outcome leaves alone has a shared slot
abbrev pub SharesLeft : ℕ → List ActionSlots → List (Option SetId) → Type 0
SharesLeft n actions shared =
    (f : ℕ) → f < n → some_leaves actions f ≡ true → IsSome (slice_index_or shared f None)

-- the first literals of an outcome's changes are done: the fluent of each is listed, and each fluent
-- that is listed has the slot of its next value
pub record IsDone (sets : LiveSets) (changed : List (FluentId × SetId)) (outcome : Outcome)
    (front : Cube) : Type 0 where
  pub live : AllLive sets changed
  pub listed : (f : ℕ) (slot : SetId) → listed_set changed f ≡ Some slot
      → Holds sets slot (λ values. after_value outcome values f)
  pub named : (f : ℕ) → listed_set changed f ≡ None → names_fluent f front ≡ false

-- two lists are as long as one another, and their elements are related in order
abbrev pub AllPaired : {X Y : Type 0} → (X → Y → Type 0) → List X → List Y → Type 0
AllPaired R [] [] = ⊤
AllPaired R (x ∷ xs) (y ∷ ys) = R x y × AllPaired R xs ys
AllPaired R (x ∷ xs) [] = ⊥
AllPaired R [] (y ∷ ys) = ⊥

-- the slots of an outcome are made
abbrev pub OutcomeMade : LiveSets → List (FluentId × SetId) → Outcome → Type 0
OutcomeMade sets changed outcome = HoldsOutcome sets changed (after_value outcome)

-- the slots of what the outcomes of an action lead to states are made: none where the invariant
-- always holds, else one an outcome
abbrev pub LandsMade : LiveSets → Cond → List SetId → List Outcome → Type 0
LandsMade sets invariant lands outcomes =
    (AlwaysHolds invariant × (lands ≡ []))
    ⊎ AllPaired (λ slot o. Holds sets slot (lands_of invariant o)) lands outcomes

-- the slots of an action are made
pub record ActionMade (invariant : Cond) (sets : LiveSets) (slots : ActionSlots)
    (action : GroundAction) : Type 0 where
  pub exec : Holds sets slots.exec (exec_of invariant action)
  pub outcomes : AllPaired (OutcomeMade sets) slots.outcomes action.outcomes.items
  pub lands : LandsMade sets invariant slots.lands action.outcomes.items

-- each slot that is live after is one of a caller's, or was live before
abbrev pub AddsOnly : LiveSets → LiveSets → (ℕ → Bool) → Type 0
AddsOnly before after own =
    (slot : ℕ) → is_live after slot ≡ true → (own slot || is_live before slot) ≡ true
