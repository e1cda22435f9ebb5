-- The slots of a search, each at a place of one list, and what every call leaves of them.
use Rattle.std.specs.Prelude.{◌≡◌, ◌≢◌, ℕ, ◌+◌, ◌<◌, ◌≤◌, ◌⊎◌, Bool, true, false, List, length}
use Rattle.std.specs.Prelude.{Contains, Result, Ok, Err, slice_index_or}
use Rattle.dd_nodes.specs.Subfunctions.{Function}
use Rattle.dd_ops.specs.Operations.{and_of, minus_of, or_of}
use Rattle.dd_sets.specs.Calls.{KeepsSets}
use Rattle.dd_sets.specs.LiveSets.{LiveSets, IsLive, IsSets, is_live, live_count, nothing, set_of}
use Rattle.dd_sets.specs.Rooms.{NoRoom, Rough, Small}
use Rattle.dd_sets.specs.declared.errors.SetErr.{SetErr}
use Rattle.dd_sets.specs.declared.errors.SetErr.TheVariants.{Full}
use Rattle.dd_sets.specs.declared.slots.SetId.{SetId}
use Rattle.encode_task.specs.Made.{MadeOf}
use Rattle.encode_task.specs.Slots.{Encoded}
use Rattle.encode_task.specs.TaskSets.{initial_set}
use Rattle.encode_task.specs.WorkingSets.{AreSmall, IsPartOf}
use Rattle.preimage.specs.Preimages.{strong_preimage, weak_preimage}
use Rattle.preimage.specs.WorkingSets.{PreimageFits, first_every, first_some}
use Rattle.task_core.specs.Tasks.{fluent_count}
use Rattle.task_core.specs.declared.conditions.Cond.{Cond}
use Rattle.task_core.specs.declared.tasks.Task.{Task}
use Rattle.slot_board.specs.declared.board.Operation.{Operation}
use Rattle.slot_board.specs.declared.board.Operation.TheVariants.{Join, Meet, Minus}
use Rattle.slot_board.specs.declared.board.Outcomes.{Outcomes}

-- the slot at a place, and its set
abbrev pub slot_at : List SetId → ℕ → ℕ
slot_at slots place = (slice_index_or slots place (record { 0 = 0 })).0

abbrev pub set_at : LiveSets → List SetId → ℕ → Function
set_at sets slots place = set_of sets (slot_at slots place)

-- the live slots are those of before, with their sets, and the listed ones, which are others and
-- differ
pub record Working (before now : LiveSets) (slots : List SetId) : Type 0 where
  pub kept : KeepsSets before now
  pub live : (i : ℕ) → i < length slots → IsLive now (slot_at slots i)
  pub free : (i : ℕ) → i < length slots → is_live before (slot_at slots i) ≡ false
  pub apart : (i j : ℕ) → i < length slots → j < length slots → i ≢ j
      → slot_at slots i ≢ slot_at slots j
  pub others : (slot : ℕ) → ((i : ℕ) → i < length slots → slot_at slots i ≢ slot)
      → is_live now slot ≡ is_live before slot
  pub count : live_count now ≡ live_count before + length slots

-- the task's sets, and the slots of a board
abbrev pub Scene : Type 0
Scene = Encoded × List SetId

-- where a search began: a task and its sets, how many places it has, and how many slots it may need
-- besides these and the eight of an operation; a width, by which its sets are small, and the places
-- that may hold rough ones
pub record Start : Type 0 where
  pub task : Task
  pub enc : Encoded
  pub made : MadeOf task enc
  pub places : ℕ
  pub spare : ℕ
  pub width : ℕ
  pub wide : fluent_count task + 2 ≤ width
  pub rough : List ℕ

-- a set is small by the width of a search
abbrev pub IsSmall : Start → Function → Type 0
IsSmall start set = Small (fluent_count start.task) start.width set

-- a place may hold a set: a small one, or a rough one where it is listed for these
abbrev pub Fits : Start → ℕ → Function → Type 0
Fits start place set =
    IsSmall start set
    ⊎ (Contains start.rough place × Rough (fluent_count start.task) start.width set)

-- the task's slots are as at the start, and there is a slot at each place, with a set that fits
pub record At (start : Start) (now : Encoded) (slots : List SetId) : Type 0 where
  pub same : now ≡ record start.enc { sets = now.sets }
  pub working : Working start.enc.sets now.sets slots
  pub long : length slots ≡ start.places
  pub each : (place : ℕ) → place < length slots → Fits start place (set_at now.sets slots place)

-- a call of the search found no room, with no more slots of the search's own than it may need, and
-- with no more rough sets than its places and the four of an operation may hold
abbrev pub HasNoRoom : Start → Encoded → Type 0
HasNoRoom start now =
    NoRoom start.width (start.places + start.spare + 8) (length start.rough + 4)
    start.enc.sets now.sets

-- there was such a start
abbrev pub IsWorking : Encoded → List SetId → Type 0
IsWorking now slots = (start : Start) × At start now slots

-- what an answer leaves, by what it is; and after a refusal there is a slot at each place, and a
-- call found no room where the refusal says so
abbrev pub Ends : {T : Type 0} → Start → Encoded → List SetId → (T → Type 0) → Result T SetErr
    → Type 0
Ends start now slots answered (Ok x) = answered x
Ends start now slots answered (Err e) = At start now slots × (e ≡ Full → HasNoRoom start now)

-- what any answer leaves
abbrev pub Left : {T : Type 0} → Start → Encoded → List SetId → Type 0 → Result T SetErr → Type 0
Left start now slots answered = Ends start now slots (λ x. answered)

-- each place has its set still
pub record Stayed (start : Start) (before : LiveSets) (now : Encoded) (slots : List SetId)
    : Type 0 where
  pub at : At start now slots
  pub sound : IsSets now.sets
  pub each : (place : ℕ) → place < length slots → set_at now.sets slots place
      ≡ set_at before slots place

-- one place has another set, and the others have theirs
pub record Moved (start : Start) (before : LiveSets) (old : List SetId) (now : Encoded)
    (slots : List SetId) (place : ℕ) (set : Function) : Type 0 where
  pub at : At start now slots
  pub sound : IsSets now.sets
  pub here : set_at now.sets slots place ≡ set
  pub others : (other : ℕ) → other < length slots → other ≢ place → set_at now.sets slots other
      ≡ set_at before old other

-- what an operation makes of two sets
abbrev pub combined : Operation → Function → Function → Function
combined Meet = and_of
combined Join = or_of
combined Minus = minus_of

-- what narrows a set by the sign of a literal
abbrev pub sign_of : Bool → Operation
sign_of true = Meet
sign_of false = Minus

-- where an action leads into a set
abbrev pub led : Outcomes → Task → ℕ → Function → Function
led Outcomes.Some = weak_preimage
led Outcomes.Every = strong_preimage

-- where some, or every, one of an action's first outcomes leads into a set
abbrev pub first_of : Outcomes → Task → ℕ → ℕ → Function → Function
first_of Outcomes.Some = first_some
first_of Outcomes.Every = first_every

-- the sets that an action's preimage of a set makes are small by the width of a search
abbrev pub LeadFits : Start → Outcomes → ℕ → Function → Type 0
LeadFits start outcomes a set =
    PreimageFits start.width start.task a (first_of outcomes) set

-- so are the sets that are made for a condition
abbrev pub ConditionFits : Start → Cond → Type 0
ConditionFits start cond = AreSmall (fluent_count start.task) start.width (IsPartOf cond)

-- so are the initial states and a set that they are looked up in
abbrev pub TestFits : Start → Function → Type 0
TestFits start set = IsSmall start (initial_set start.task) × IsSmall start set

-- each place holds the empty set
abbrev pub AllNothing : LiveSets → List SetId → Type 0
AllNothing sets slots = (k : ℕ) → k < length slots → set_at sets slots k ≡ nothing

-- there is a slot at each place, and no set yet
pub record HasNothing (start : Start) (now : Encoded) (slots : List SetId) : Type 0 where
  pub at : At start now slots
  pub holds_nothing : AllNothing now.sets slots
