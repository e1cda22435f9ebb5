-- What a caller says of slots of its own: the live slots are those that were live before, with
-- their sets, and the caller's.
use Rattle.std.specs.Prelude.{◌≡◌, ◌≢◌, ℕ, ◌+◌, ◌==◌, Bool, false, ◌||◌, List, [], ◌∷◌, length, ⊤}
use Rattle.std.specs.Prelude.{Result, Ok, Err}
use Rattle.std.specs.List.{list_any}
use Rattle.dd_nodes.specs.Subfunctions.{Function}
use Rattle.dd_sets.specs.Calls.{KeepsSets}
use Rattle.dd_sets.specs.LiveSets.{LiveSets, IsLive, is_live, set_of, live_count}
use Rattle.dd_sets.specs.declared.slots.SetId.{SetId}
use Rattle.dd_sets.specs.declared.errors.SetErr.{SetErr}

-- slots, each with the set that it holds
abbrev pub Slots : Type 0
Slots = List (ℕ × Function)

abbrev pub has_slot : Slots → ℕ → Bool
has_slot own slot = list_any (λ entry. entry.0 == slot) own

-- each slot of the list was not live before, stands once in the list, and holds its set
abbrev pub AreNew : LiveSets → LiveSets → Slots → Type 0
AreNew before after [] = ⊤
AreNew before after (entry ∷ own) =
    (is_live before entry.0 ≡ false) × (has_slot own entry.0 ≡ false)
    × (set_of after entry.0 ≡ entry.1) × AreNew before after own

-- the live slots are those of before, with their sets, and the slots of the list
pub record Owns (before after : LiveSets) (own : Slots) : Type 0 where
  pub kept : KeepsSets before after
  pub new : AreNew before after own
  pub live : (slot : ℕ) → is_live after slot ≡ (has_slot own slot || is_live before slot)
  pub count : live_count after ≡ live_count before + length own

-- what a call leaves that takes the place of a caller's slots: an answer is its only slot, and
-- holds the set; after a refusal it has none
abbrev pub OwnsAnswer : LiveSets → LiveSets → Function → Result SetId SetErr → Type 0
OwnsAnswer before after set (Ok slot) = Owns before after ((slot.0, set) ∷ [])
OwnsAnswer before after set (Err e) = Owns before after []

-- a slot and what a call answered are the slots of a caller: the answer is one more slot, or a
-- refusal, which is none
abbrev pub OwnsBoth : LiveSets → LiveSets → SetId → Function → Result SetId SetErr → Function
    → Type 0
OwnsBoth before now a f (Ok b) g = Owns before now ((b.0, g) ∷ (a.0, f) ∷ [])
OwnsBoth before now a f (Err e) g = Owns before now ((a.0, f) ∷ [])

-- a slot is live, and so is the answer of a call, if it is one, which is another slot
abbrev pub AreTwo : LiveSets → SetId → Result SetId SetErr → Type 0
AreTwo now a (Ok b) = IsLive now a.0 × IsLive now b.0 × (b.0 ≢ a.0)
AreTwo now a (Err e) = IsLive now a.0

-- the one piece of an operation on the sets of a slot and of an answer; none where that is a refusal
abbrev pub piece_of : (Function → Function → Function) → LiveSets → SetId → Result SetId SetErr
    → List Function
piece_of operation now a (Ok b) = operation (set_of now a.0) (set_of now b.0) ∷ []
piece_of operation now a (Err e) = []
