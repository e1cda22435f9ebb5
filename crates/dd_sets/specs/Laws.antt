-- What layers above cite.
use Rattle.std.specs.Prelude.{◌≡◌, ℕ, ◌+◌, ◌*◌, ◌^◌, ◌<◌, ◌≤◌, List, length, [], ◌∷◌, ◌++◌}
use Rattle.std.specs.Prelude.{Result, Bool, true, false}
use Rattle.dd_nodes.specs.NodeList.{Values}
use Rattle.dd_nodes.specs.Subfunctions.{DependsOnly, Function, IsSubfunction, nodes}
use Rattle.dd_ops.specs.Growth.{subst_pieces}
use Rattle.dd_ops.specs.Operations.{variable, not_of, and_of, or_of, minus_of, cofactor_of}
use Rattle.task_core.specs.Vectors.{Vector, value_of}
use Rattle.dd_sets.specs.LiveSets.{LiveSets, IsLive, IsSets, is_live, set_of, live_count, live_sets}
use Rattle.dd_sets.specs.LiveSets.{nothing, everything}
use Rattle.dd_sets.specs.Calls.{Adds, KeepsSets, Releases}
use Rattle.dd_sets.specs.Frames.{Slots, has_slot, Owns, OwnsAnswer}
use Rattle.dd_sets.specs.Rooms.{Tight, IsFull, IsTightFor, IsOneCall, NoRoom, AreSized}
use Rattle.dd_sets.specs.Rooms.{Small, Rough, AreRough}
use Rattle.dd_sets.specs.declared.errors.SetErr.{SetErr}
use Rattle.dd_sets.specs.declared.slots.SetId.{SetId}

-- a limit that is tight for so many nodes is tight for more
abbrev pub TightIsMonotone : Type 0
TightIsMonotone =
    (limit fluents few many : ℕ) → few ≤ many → Tight limit fluents few → Tight limit fluents many

-- whether a list of truth values is in a slot's set depends on the values of the fluents alone
abbrev pub SetsDependOnFluents : Type 0
SetsDependOnFluents =
    (sets : LiveSets) → IsSets sets → (slot : ℕ) → DependsOnly 0 sets.vars (set_of sets slot)

-- there are as many live sets as live slots
abbrev pub OneSetPerSlot : Type 0
OneSetPerSlot = (sets : LiveSets) → length (live_sets sets) ≡ live_count sets

-- a call with one piece that found no room shows that the limit is tight for the sets that were
-- live before it, and any more
abbrev pub FullIsTight : Type 0
FullIsTight =
    (before after : LiveSets) (piece : Function) → IsFull before after (piece ∷ []) → after.vars
    ≡ before.vars → after.limit ≡ before.limit
    → (more : ℕ) → IsTightFor more before

-- an operation whose pieces are rough, and that found no room, had no slot of its own
abbrev pub FullIsNoRoom : Type 0
FullIsNoRoom =
    (w : ℕ) (before after : LiveSets) (pieces : List Function) → IsFull before after pieces
    → IsOneCall before.vars pieces → after.vars ≡ before.vars → after.limit ≡ before.limit
    → AreRough before.vars w pieces → NoRoom w 0 0 before after

-- the same of an operation with one piece
abbrev pub PieceIsNoRoom : Type 0
PieceIsNoRoom =
    (w : ℕ) (before after : LiveSets) (piece : Function) → IsFull before after (piece ∷ [])
    → after.vars ≡ before.vars → after.limit ≡ before.limit → Rough before.vars w piece
    → NoRoom w 0 0 before after

-- where a call found no room, so did the caller, with the slots that it had besides
abbrev pub NoRoomWithin : Type 0
NoRoomWithin =
    (w : ℕ) (before middle after : LiveSets) (mine : Slots) (most others rough : ℕ)
    → Owns before middle mine → AreSized before.vars w rough mine → NoRoom w most others middle after
    → NoRoom w (most + length mine) (others + rough) before after

-- a call that had so many slots at most had no more than a greater number
abbrev pub NoRoomOfFewer : Type 0
NoRoomOfFewer =
    (w : ℕ) (before after : LiveSets) (few many fewer others : ℕ) → few ≤ many → fewer ≤ others
    → NoRoom w few fewer before after → NoRoom w many others before after

-- the end of a slot makes no room
abbrev pub NoRoomAfterRelease : Type 0
NoRoomAfterRelease =
    (w : ℕ) (before middle after : LiveSets) (slot most others : ℕ)
    → NoRoom w most others before middle → Releases middle after slot
    → NoRoom w most others before after

-- where a call found no room, the limit is tight by slots
abbrev pub NoRoomIsTight : Type 0
NoRoomIsTight =
    (w : ℕ) (before after : LiveSets) (most others : ℕ) → NoRoom w most others before after
    → IsTightFor most before

-- and, where the variables are the fluents in their own order, it is less than the nodes of the live
-- sets and those of the call's own, by their sizes
abbrev pub NoRoomIsSmall : Type 0
NoRoomIsSmall =
    (w : ℕ) (before after : LiveSets) (most others : ℕ) → NoRoom w most others before after
    → before.order ≡ []
    → before.limit < nodes before.vars (live_sets before) + most * w + (others + 1) * (w * w)

-- where a call found no room, so did the caller, which kept every live slot and had no more slots
-- live at the call than so many more than at its entry, each with a small set
abbrev pub NoRoomBefore : Type 0
NoRoomBefore =
    (w : ℕ) (before middle after : LiveSets) (few many others : ℕ) → KeepsSets before middle
    → live_count middle + few ≤ live_count before + many
    → ((slot : ℕ) → IsLive middle slot → is_live before slot ≡ false
    → Small before.vars w (set_of middle slot))
    → NoRoom w few others middle after → NoRoom w many others before after

-- each set has fewer nodes than there are lists of truth values
abbrev pub EverySetIsSmall : Type 0
EverySetIsSmall = (vars : ℕ) (set : Function) → Small vars (2 ^ vars + 1) set

-- sets that are made without an operation, or by one on one set
abbrev pub ConstantsAreSmall : Type 0
ConstantsAreSmall =
    (vars w : ℕ) → 2 ≤ w → Small vars w nothing × Small vars w everything

abbrev pub VariablesAreSmall : Type 0
VariablesAreSmall = (vars w fluent : ℕ) → 3 ≤ w → Small vars w (variable fluent)

abbrev pub ComplementsAreSmall : Type 0
ComplementsAreSmall =
    (vars w : ℕ) (set : Function) → Small vars w set → Small vars w (not_of set)

abbrev pub CofactorsAreSmall : Type 0
CofactorsAreSmall =
    (vars w : ℕ) (set : Function) (fluent : ℕ) (value : Bool) → fluent < vars → Small vars w set
    → Small vars w (cofactor_of set fluent value)

-- a small set is rough, and so are the complement of a rough one and its halves
abbrev pub SmallIsRough : Type 0
SmallIsRough = (vars w : ℕ) (set : Function) → Small vars w set → Rough vars w set

abbrev pub ComplementsAreRough : Type 0
ComplementsAreRough =
    (vars w : ℕ) (set : Function) → Rough vars w set → Rough vars w (not_of set)

abbrev pub CofactorsAreRough : Type 0
CofactorsAreRough =
    (vars w : ℕ) (set : Function) (fluent : ℕ) (value : Bool) → fluent < vars → Rough vars w set
    → Rough vars w (cofactor_of set fluent value)

-- an operation on two small sets makes a rough one (Bryant 1986, section 4.3)
abbrev pub MeetsAreRough : Type 0
MeetsAreRough =
    (vars w : ℕ) (f g : Function) → Small vars w f → Small vars w g → Rough vars w (and_of f g)

abbrev pub JoinsAreRough : Type 0
JoinsAreRough =
    (vars w : ℕ) (f g : Function) → Small vars w f → Small vars w g → Rough vars w (or_of f g)

abbrev pub DifferencesAreRough : Type 0
DifferencesAreRough =
    (vars w : ℕ) (f g : Function) → Small vars w f → Small vars w g → Rough vars w (minus_of f g)

-- sets that have the same vectors of so many fluents have the same nodes
abbrev pub AgreeingSets : Type 0
AgreeingSets =
    (vars : ℕ) (f g : Function)
    → ((vector : Vector) → length vector ≡ vars → f (value_of vector) ≡ g (value_of vector))
    → (w : ℕ) → (Small vars w f → Small vars w g) × (Rough vars w f → Rough vars w g)

-- a substitution in a small set, each of whose subfunctions becomes a small set, has rough pieces
abbrev pub SubstIsSmall : Type 0
SubstIsSmall =
    (vars w : ℕ) (set : Function) (is_listed : ℕ → Bool) (replaced : Values → Values) → vars + 2 ≤ w
    → DependsOnly 0 vars set → Small vars w set
    → ((g : Function) → IsSubfunction vars set g → Small vars w (λ values. g (replaced values)))
    → AreRough vars w (subst_pieces vars set is_listed replaced)

-- what keeps the live slots with their sets: nothing, one call after another, and the end of a slot
-- that was not live before
abbrev pub KeepsItself : Type 0
KeepsItself = (sets : LiveSets) → KeepsSets sets sets

abbrev pub KeepsInTurn : Type 0
KeepsInTurn =
    (before middle after : LiveSets) → KeepsSets before middle → KeepsSets middle after
    → KeepsSets before after

abbrev pub KeepsPastEnd : Type 0
KeepsPastEnd =
    (before middle after : LiveSets) (slot : ℕ) → KeepsSets before middle
    → Releases middle after slot → is_live before slot ≡ false → KeepsSets before after

-- the slots of a caller: those of two steps together, those left after the end of one, each is
-- live, and a single one is what a call adds
abbrev pub OwnsInTurn : Type 0
OwnsInTurn =
    (before middle after : LiveSets) (first second : Slots) → Owns before middle first
    → Owns middle after second → Owns before after (second ++ first)

abbrev pub OwnsPastEnd : Type 0
OwnsPastEnd =
    (before middle after : LiveSets) (front : Slots) (slot : ℕ) (set : Function) (back : Slots)
    → Owns before middle (front ++ (slot, set) ∷ back) → Releases middle after slot
    → Owns before after (front ++ back)

abbrev pub OwnSlotsAreLive : Type 0
OwnSlotsAreLive =
    (before now : LiveSets) (own : Slots) → Owns before now own
    → (slot : ℕ) → has_slot own slot ≡ true → IsLive now slot

abbrev pub OwnSlotIsAdded : Type 0
OwnSlotIsAdded =
    (before now : LiveSets) (slot : ℕ) (set : Function) → Owns before now ((slot, set) ∷ [])
    → Adds before now slot set

-- a call that answers a slot, or refuses, keeps the live slots with their sets
abbrev pub AnswerKeeps : Type 0
AnswerKeeps =
    (before after : LiveSets) (set : Function) (result : Result SetId SetErr)
    → OwnsAnswer before after set result → KeepsSets before after
