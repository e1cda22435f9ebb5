-- What callers see of the sets of a task: the live sets, and which slot is kept for what.
use Rattle.std.specs.Prelude.{ℕ, Bool, false, ◌==◌, ◌||◌, List, [], Option, Some, None}
use Rattle.std.specs.Prelude.{slice_get, slice_index_or, unwrap_or}
use Rattle.std.specs.List.{list_any}
use Rattle.std.specs.Option.{option_map_or}
use Rattle.task_core.specs.declared.literals.FluentId.{FluentId}
use Rattle.dd_sets.specs.declared.slots.SetId.{SetId}
use Rattle.dd_sets.specs.LiveSets.{LiveSets, listed_set}

-- the slots of an action: where it can be executed, for each outcome the fluents that it changes,
-- each with the slot of its next value, and for each outcome the slot of what it leads to states, or
-- for none
pub record ActionSlots : Type 0 where
  pub exec : SetId
  pub outcomes : List (List (FluentId × SetId))
  pub lands : List SetId

-- the live sets of a task, how many fluents it has, the slots of its states, of its initial states
-- and of its goal where it has one, the slots that outcomes share, one for a fluent where some
-- outcome leaves it alone, and the slots of each action
pub record Encoded : Type 0 where
  pub sets : LiveSets
  pub fluents : ℕ
  pub space : SetId
  pub initial : SetId
  pub goal : Option SetId
  pub shared : List (Option SetId)
  pub actions : List ActionSlots

-- the outcomes of action a, and the fluents that one of them changes, each with the slot of its
-- next value
abbrev pub outcomes_in : List ActionSlots → ℕ → List (List (FluentId × SetId))
outcomes_in actions a = option_map_or (λ action. action.outcomes) (slice_get actions a) []

abbrev pub changed_in : List ActionSlots → ℕ → ℕ → List (FluentId × SetId)
changed_in actions a o = unwrap_or (slice_get (outcomes_in actions a) o) []

abbrev pub outcome_slots : Encoded → ℕ → List (List (FluentId × SetId))
outcome_slots enc = outcomes_in enc.actions

abbrev pub changed_slots : Encoded → ℕ → ℕ → List (FluentId × SetId)
changed_slots enc = changed_in enc.actions

-- the slot of the states where action a can be executed
abbrev pub exec_slot : Encoded → ℕ → SetId
exec_slot enc a = option_map_or (λ action. action.exec) (slice_get enc.actions a) (record { 0 = 0 })

-- the slot of what an outcome of action a leads to states; none where there is nothing to ask, since
-- the outcome leads to a state from everywhere
abbrev pub lands_in : List ActionSlots → ℕ → ℕ → Option SetId
lands_in actions a o =
    slice_get (option_map_or (λ action. action.lands) (slice_get actions a) []) o

abbrev pub lands_slot : Encoded → ℕ → ℕ → Option SetId
lands_slot enc = lands_in enc.actions

-- the slot that outcomes share which leave fluent f alone
abbrev pub shared_slot : Encoded → ℕ → Option SetId
shared_slot enc f = slice_index_or enc.shared f None

-- the slot of the next value of fluent f under an outcome of action a: its own where the outcome
-- changes f, else the shared one
abbrev pub next_slot : Encoded → ℕ → ℕ → ℕ → Option SetId
next_slot enc a o f =
    option_map_or (λ slot. Some slot) (listed_set (changed_slots enc a o) f) (shared_slot enc f)

-- whether a slot is this one, one of those that are listed for an outcome, one of some slots, or one
-- of an action's
abbrev pub is_slot : ℕ → Option SetId → Bool
is_slot slot kept = option_map_or (λ own. own.0 == slot) kept false

abbrev pub is_listed : ℕ → List (FluentId × SetId) → Bool
is_listed slot changed = list_any (λ entry. entry.1.0 == slot) changed

abbrev pub is_one_of : ℕ → List SetId → Bool
is_one_of slot slots = list_any (λ own. own.0 == slot) slots

abbrev pub is_of_action : ℕ → ActionSlots → Bool
is_of_action slot action =
    action.exec.0 == slot || list_any (is_listed slot) action.outcomes
    || is_one_of slot action.lands

-- whether a slot is one of those that are kept for a task: for its states, its initial states, its
-- goal, a fluent that some outcome leaves alone, or an action
abbrev pub is_kept : Encoded → ℕ → Bool
is_kept enc slot =
    enc.space.0 == slot || enc.initial.0 == slot || is_slot slot enc.goal
    || list_any (is_slot slot) enc.shared || list_any (is_of_action slot) enc.actions
