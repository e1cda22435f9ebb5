-- How a caller takes over that its call found no room.
use Rattle.std.proofs.Common.{◌≡◌, ◌⊎◌, inl, inr, ℕ, zero, suc, ◌+◌, ◌≤◌, true, false, List, [], ◌∷◌, length, Contains, Option, Some, None, is_some, unwrap_or, Result, Ok, Err, IsErrOf, count_by, slice_index_or, refl, sym, ap, subst, ◌∙◌, ⊎_elim, arith}
use Rattle.std.proofs.lemmas.Bool.{cases_Bool}
use Rattle.std.proofs.lemmas.Option.{none-some}
use Rattle.dd_nodes.specs.declared.node.Ref.{Ref}
use Rattle.dd_nodes.specs.NodeList.{function}
use Rattle.dd_nodes.specs.Subfunctions.{Function}
use Rattle.dd_sets.specs.Calls.{KeepsSets, Releases}
use Rattle.dd_sets.specs.Frames.{Slots, Owns, OwnsAnswer, OwnsBoth, piece_of}
use Rattle.dd_sets.specs.LiveSets.{LiveSets, IsLive, is_live, live_count, live_sets, set_of}
use Rattle.dd_sets.specs.Orders.{read}
use Rattle.dd_sets.specs.Rooms.{IsFull, NoRoom, Small, Rough, AreRough, AreSized}
use Rattle.dd_sets.specs.declared.errors.SetErr.{SetErr}
use Rattle.dd_sets.specs.declared.errors.SetErr.TheVariants.{Full}
use Rattle.dd_sets.specs.declared.slots.SetId.{SetId}
use Rattle.dd_sets.proofs.NoRoomLemmas.{no_room_of_piece, no_room_more, no_room_owned, no_room_released, no_room_beside}
use Rattle.dd_sets.proofs.LiveLemmas.{added, in_live, live_in, moved}
use Rattle.dd_sets.proofs.OwnedLemmas.{both, own_set}
use Rattle.dd_sets.proofs.SizeLemmas.{no_pieces_rough}
use Rattle.dd_sets.proofs.SlotLemmas.{count_more, live_number, set_is}

-- the sets of the slots that are live now and were not before
module _ (meaning : Ref → Function) where
  with_slot : Option Ref → Option Ref → List Function → List Function
  with_slot None (Some n) sets = meaning n ∷ sets
  with_slot None None sets = sets
  with_slot (Some b) now sets = sets

  new_sets : List (Option Ref) → List (Option Ref) → List Function
  new_sets before [] = []
  new_sets [] (x ∷ now) = with_slot None x (new_sets [] now)
  new_sets (b ∷ before) (x ∷ now) = with_slot b x (new_sets before now)

  new_count : (before now : List (Option Ref)) → ((slot : ℕ) → is_some (slice_index_or before slot None) ≡ true → is_some (slice_index_or now slot None) ≡ true)
      → length (new_sets before now) + count_by is_some before ≤ count_by is_some now
  unfolding new_sets with_slot
  new_count [] [] live = omega arith
  new_count (None ∷ before) [] live = let rest = new_count before [] (λ slot is. absurd (let e = live (suc slot) is in cc)) in omega (arith, rest, count_more None before)
  new_count (Some n ∷ before) [] live = absurd (let e = live 0 refl in cc)
  new_count [] (None ∷ now) live = let rest = new_count [] now (λ slot is. absurd (cc)) in omega (arith, rest, count_more None now)
  new_count [] (Some n ∷ now) live = let rest = new_count [] now (λ slot is. absurd (cc)) in omega (arith, rest, count_more (Some n) now)
  new_count (None ∷ before) (None ∷ now) live = let rest = new_count before now (λ slot is. live (suc slot) is) in omega (arith, rest, count_more None before, count_more None now)
  new_count (None ∷ before) (Some n ∷ now) live = let rest = new_count before now (λ slot is. live (suc slot) is) in omega (arith, rest, count_more None before, count_more (Some n) now)
  new_count (Some m ∷ before) (None ∷ now) live = absurd (let e = live 0 refl in cc)
  new_count (Some m ∷ before) (Some n ∷ now) live = let rest = new_count before now (λ slot is. live (suc slot) is) in omega (arith, rest, count_more (Some m) before, count_more (Some n) now)

  -- a slot that is live now and was not before is among them
  new_in : (before now : List (Option Ref)) (slot : ℕ) (number : Ref) → slice_index_or now slot None ≡ Some number → is_some (slice_index_or before slot None) ≡ false
      → Contains (new_sets before now) (meaning number)
  unfolding new_sets with_slot
  new_in before [] slot number is free = absurd (none-some number is)
  new_in [] (None ∷ now) zero number is free = absurd (none-some number is)
  new_in [] (None ∷ now) (suc slot) number is free = new_in [] now slot number is free
  new_in [] (Some n ∷ now) zero number is free = (zero, omega arith, ap (λ (o : Option Ref). meaning (unwrap_or o n)) is)
  new_in [] (Some n ∷ now) (suc slot) number is free = added (meaning n) (new_sets [] now) (new_in [] now slot number is free)
  new_in (None ∷ before) (None ∷ now) zero number is free = absurd (none-some number is)
  new_in (None ∷ before) (None ∷ now) (suc slot) number is free = new_in before now slot number is free
  new_in (None ∷ before) (Some n ∷ now) zero number is free = (zero, omega arith, ap (λ (o : Option Ref). meaning (unwrap_or o n)) is)
  new_in (None ∷ before) (Some n ∷ now) (suc slot) number is free = added (meaning n) (new_sets before now) (new_in before now slot number is free)
  new_in (Some b ∷ before) (x ∷ now) zero number is free = absurd (cc)
  new_in (Some b ∷ before) (x ∷ now) (suc slot) number is free = new_in before now slot number is free

  -- and each of them is that of such a slot
  in_new : (before now : List (Option Ref)) (f : Function) → Contains (new_sets before now) f
      → (slot : ℕ) × (number : Ref) × (slice_index_or now slot None ≡ Some number) × (is_some (slice_index_or before slot None) ≡ false) × (meaning number ≡ f)
  unfolding new_sets with_slot
  in_new before [] f (k, within, at) = absurd (omega arith)
  in_new [] (None ∷ now) f has = let rest = in_new [] now f has in (suc rest.0, rest.1, rest.2, refl, rest.4)
  in_new [] (Some n ∷ now) f (zero, within, at) = (zero, n, refl, refl, at)
  in_new [] (Some n ∷ now) f (suc k, within, at) = let rest = in_new [] now f (k, omega arith, at) in (suc rest.0, rest.1, rest.2, refl, rest.4)
  in_new (None ∷ before) (None ∷ now) f has = let rest = in_new before now f has in (suc rest.0, rest.1, rest.2, rest.3, rest.4)
  in_new (None ∷ before) (Some n ∷ now) f (zero, within, at) = (zero, n, refl, refl, at)
  in_new (None ∷ before) (Some n ∷ now) f (suc k, within, at) = let rest = in_new before now f (k, omega arith, at) in (suc rest.0, rest.1, rest.2, rest.3, rest.4)
  in_new (Some b ∷ before) (x ∷ now) f has = let rest = in_new before now f has in (suc rest.0, rest.1, rest.2, rest.3, rest.4)

-- the set of a number
abbrev meaning_of : LiveSets → Ref → Function
meaning_of sets number = read sets.order (function sets.nodes number.0)

-- each live set was live before, or is a new slot's
before_or_new : (before now : LiveSets) → KeepsSets before now → (f : Function) → Contains (live_sets now) f → Contains (live_sets before) f ⊎ Contains (new_sets (meaning_of now) before.live now.live) f
unfolding is_live
before_or_new before now kept f has =
    let found = in_live now f has in ⊎_elim
    (λ (was : is_live before found.0 ≡ true). inl (moved (live_sets before) (sym (kept.sets found.0 was) ∙ found.2) (live_in before found.0 was)))
    (λ (free : is_live before found.0 ≡ false).
    let number = live_number now found.0 found.1 in
    inr (moved (new_sets (meaning_of now) before.live now.live) (sym (set_is now found.0 number.0 number.1) ∙ found.2) (new_in (meaning_of now) before.live now.live found.0 number.0 number.1 free)))
    (cases_Bool (is_live before found.0))

-- the sets of the slots that became live are small where each slot's is
new_small : (vars w : ℕ) (before now : LiveSets) → ((slot : ℕ) → IsLive now slot → is_live before slot ≡ false → Small vars w (set_of now slot))
    → (f : Function) → Contains (new_sets (meaning_of now) before.live now.live) f → Small vars w f
unfolding is_live
new_small vars w before now small f has =
    let found = in_new (meaning_of now) before.live now.live f has in
    subst (Small vars w) (set_is now found.0 found.1 found.2 ∙ found.4) (small found.0 (ap is_some found.2) found.3)

-- what was live still is, and so many slots more, whose sets are small
pub room_before : {w : ℕ} (before now : LiveSets) {after : LiveSets} → KeepsSets before now → (few many others : ℕ) → live_count now + few ≤ live_count before + many
    → ((slot : ℕ) → IsLive now slot → is_live before slot ≡ false → Small before.vars w (set_of now slot)) → NoRoom w few others now after → NoRoom w many others before after
unfolding is_live live_count
room_before {w} before now {after} kept few many others room small none =
    let new : length (new_sets (meaning_of now) before.live now.live) + count_by is_some before.live ≤ count_by is_some now.live = new_count (meaning_of now) before.live now.live kept.live in
    no_room_beside w before now after (new_sets (meaning_of now) before.live now.live) [] few many others others kept (new_small before.vars w before now small) (λ set has. let within = has.1 in absurd (omega arith))
    (λ f has. ⊎_elim (λ (was : Contains (live_sets before) f). inl was) (λ (is : Contains (new_sets (meaning_of now) before.live now.live) f). inr (inl is)) (before_or_new before now kept f has))
    (omega arith) (omega arith) none

-- the same where the slots that became live hold sets of a list
pub room_beside : {w : ℕ} (before now : LiveSets) {after : LiveSets} → KeepsSets before now → (small : List Function) (few many others : ℕ) → few + length small ≤ many
    → ((slot : ℕ) → IsLive now slot → is_live before slot ≡ false → Contains small (set_of now slot)) → ((set : Function) → Contains small set → Small before.vars w set)
    → NoRoom w few others now after → NoRoom w many others before after
room_beside {w} before now {after} kept small few many others room each smalls none =
    no_room_beside w before now after small [] few many others others kept smalls (λ set has. let within = has.1 in absurd (omega arith))
    (λ f has. let found = in_live now f has in ⊎_elim
    (λ (was : is_live before found.0 ≡ true). inl (moved (live_sets before) (sym (kept.sets found.0 was) ∙ found.2) (live_in before found.0 was)))
    (λ (free : is_live before found.0 ≡ false). inr (inl (moved small found.2 (each found.0 found.1 free))))
    (cases_Bool (is_live before found.0)))
    (omega arith) (omega arith) none

-- an operation with one piece
pub room_for : {w : ℕ} (before after : LiveSets) (piece : Function) → IsFull before after (piece ∷ []) → after.vars ≡ before.vars → after.limit ≡ before.limit → (more others : ℕ) → Rough before.vars w piece → NoRoom w more others before after
room_for {w} before after piece full vars limit more others rough = no_room_more w before after 0 more 0 others (omega arith) (omega arith) (no_room_of_piece w before after piece full vars limit rough)

pub room_wider : {w : ℕ} (before : LiveSets) {after : LiveSets} (few many fewer others : ℕ) → few ≤ many → fewer ≤ others → NoRoom w few fewer before after → NoRoom w many others before after
room_wider {w} before {after} few many fewer others more rougher none = no_room_more w before after few many fewer others more rougher none

pub room_released : {w : ℕ} (before : LiveSets) {middle after : LiveSets} {slot most others : ℕ} → NoRoom w most others before middle → Releases middle after slot → NoRoom w most others before after
room_released {w} before {middle} {after} {slot} {most} {others} none ended = no_room_released w before middle after slot most others none ended

pub room_owned : {w : ℕ} (before now : LiveSets) (own : Slots) {after : LiveSets} → Owns before now own → (few many fewer rough others : ℕ) → AreSized before.vars w rough own → length own + few ≤ many → fewer + rough ≤ others
    → NoRoom w few fewer now after → NoRoom w many others before after
room_owned {w} before now own {after} owns few many fewer rough others sized within within_rough none =
    no_room_more w before after (few + length own) many (fewer + rough) others (omega arith) (omega arith) (no_room_owned w before now after own few fewer rough owns sized none)

-- a call after an answer, with one slot more
pub room_answer : {w : ℕ} (now mid : LiveSets) (g : Function) (answer : Result SetId SetErr) (k m c rough d : ℕ) {after : LiveSets} → OwnsAnswer now mid g answer → AreSized now.vars w rough ((0, g) ∷ []) → k + 1 ≤ m → c + rough ≤ d
    → NoRoom w k c mid after → NoRoom w m d now after
room_answer now mid g (Ok slot) k m c rough d answered sized room rooms none = room_owned now mid ((slot.0, g) ∷ []) answered k m c rough d sized (omega arith) rooms none
room_answer now mid g (Err e) k m c rough d answered sized room rooms none = room_owned now mid [] answered k m c 0 d tt (omega arith) (omega arith) none

-- the piece of an operation on own slots is rough where the function is
rough_piece : (w : ℕ) (operation : Function → Function → Function) (start mid : LiveSets) (slot : SetId) (f g : Function) (answer : Result SetId SetErr) → OwnsBoth start mid slot f answer g
    → Rough start.vars w (operation f g) → AreRough mid.vars w (piece_of operation mid slot answer)
rough_piece w operation start mid slot f g (Ok other) owns rough =
    subst (λ v. AreRough v w (operation (set_of mid slot.0) (set_of mid other.0) ∷ [])) (sym owns.kept.vars)
    (subst (λ h. AreRough start.vars w (operation h (set_of mid other.0) ∷ [])) (sym (own_set start mid slot.0 f ((other.0, g) ∷ []) [] owns))
    (subst (λ h. AreRough start.vars w (operation f h ∷ [])) (sym (own_set start mid other.0 g [] ((slot.0, f) ∷ []) owns)) rough))
rough_piece w operation start mid slot f g (Err e) owns rough = no_pieces_rough mid.vars w

-- a refused answer ends the slot, and its operation with the slot may find no room
pub room_join : {w : ℕ} (operation : Function → Function → Function) (start now mid : LiveSets) (slot : SetId) (f g : Function) (answer : Result SetId SetErr) (k m c one two d : ℕ) {after : LiveSets}
    → Owns start now ((slot.0, f) ∷ []) → OwnsAnswer now mid g answer → (IsErrOf answer Full → NoRoom w k c now mid)
    → AreSized start.vars w one ((0, f) ∷ []) → AreSized start.vars w two ((0, g) ∷ (0, f) ∷ []) → Rough start.vars w (operation f g) → k + 1 ≤ m → 2 ≤ m → c + one ≤ d → two ≤ d
    → (AreRough mid.vars w (piece_of operation mid slot answer) → (IsErrOf answer Full × Releases mid after slot.0) ⊎ NoRoom w 0 0 mid after) → NoRoom w m d start after
room_join {w} operation start now mid slot f g answer k m c one two d {after} owns answered full sized_one sized_two rough room at_two rooms rooms_two cause = ⊎_elim
    (λ (refused : IsErrOf answer Full × Releases mid after slot.0). room_owned start now ((slot.0, f) ∷ []) owns k m c one d sized_one (omega arith) rooms (room_released now (full refused.0) refused.1))
    (λ (none : NoRoom w 0 0 mid after). of_answer answer answered none)
    (cause (rough_piece w operation start mid slot f g answer (both start now mid slot f g answer owns answered) rough))
  where
    of_answer : (answer : Result SetId SetErr) → OwnsAnswer now mid g answer → NoRoom w 0 0 mid after → NoRoom w m d start after
    of_answer (Ok other) answered none = room_owned start mid ((other.0, g) ∷ (slot.0, f) ∷ []) (both start now mid slot f g (Ok other) owns answered) 0 m 0 two d sized_two (omega arith) (omega arith) none
    of_answer (Err e) answered none = room_owned start mid ((slot.0, f) ∷ []) (both start now mid slot f g (Err e) owns answered) 0 m 0 one d sized_one (omega arith) (omega arith) none

-- the same sets under another name
pub room_same : {w : ℕ} (sets other : LiveSets) {after : LiveSets} → sets ≡ other → (few many fewer others : ℕ) → few ≤ many → fewer ≤ others → NoRoom w few fewer sets after → NoRoom w many others other after
room_same {w} sets other {after} same few many fewer others more rougher none = subst (λ (s : LiveSets). NoRoom w many others s after) same (room_wider sets few many fewer others more rougher none)
