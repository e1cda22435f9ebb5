-- Which sets the slots hold that a call adds, and the moment when it finds no room.
use Rattle.std.proofs.Common.{◌≡◌, ℕ, zero, ◌+◌, ◌<◌, ◌≤◌, ◌==◌, true, false, ◌||◌, inl, inr, ⊎_elim, List, [], ◌∷◌, ◌++◌, map, length, get_or, Contains, Option, Some, None, refl, sym, subst, ◌∙◌, arith}
use borrow.Author.Tests.{eqb-true}
use Rattle.std.specs.List.{flat_map, range_with_len}
use Rattle.std.proofs.lemmas.Bool.{or_cases}
use Rattle.std.proofs.lemmas.List.Elements.{Contains-append_left, Contains-append_right}
use Rattle.list_laws.proofs.Elements.{Contains-map, Contains-range_with_len}
use Rattle.dd_nodes.specs.Subfunctions.{Function}
use Rattle.dd_sets.specs.Calls.{KeepsSets}
use Rattle.dd_sets.specs.Frames.{Owns}
use Rattle.dd_sets.specs.LiveSets.{LiveSets, IsLive, is_live, live_count, set_of}
use Rattle.dd_sets.specs.Rooms.{NoRoom}
use Rattle.dd_sets.proofs.FrameLemmas.{kept_chain}
use Rattle.dd_sets.proofs.LiveLemmas.{added}
use Rattle.dd_sets.proofs.RoomSteps.{room_wider}
use Rattle.task_core.specs.Actions.{after_value}
use Rattle.task_core.specs.declared.actions.GroundAction.{GroundAction}
use Rattle.task_core.specs.declared.actions.Outcome.{Outcome}
use Rattle.task_core.specs.declared.conditions.Cond.{Cond}
use Rattle.encode_task.specs.KeptRooms.{AddsSets, NoRoomKept}
use Rattle.encode_task.specs.KeptSets.{next_sets, sets_of_action}
use Rattle.encode_task.specs.Slots.{ActionSlots}
use Rattle.encode_task.specs.Counts.{IsLeftAlone, some_leaves}
use Rattle.encode_task.specs.Tables.{IsSharedSlot}
use Rattle.dd_ops.specs.Operations.{variable}
use Rattle.dd_sets.specs.declared.slots.SetId.{SetId}
use Rattle.encode_task.specs.TaskSets.{exec_of, lands_of}

-- a list's element at a place
pub item_in : {X : Type 0} (xs : List X) (i : ℕ) (x : X) → i < length xs → x ≡ get_or xs i x → Contains xs x
item_in xs i x within at = (i, within, sym at)

-- the next value of a fluent
pub next_in : (n : ℕ) (outcome : Outcome) (f : ℕ) → f < n → Contains (next_sets n outcome) (λ values. after_value outcome values f)
next_in n outcome f within = Contains-map {Y = Function} (λ (g : ℕ) values. after_value outcome values g) (range_with_len 0 n) f (Contains-range_with_len n f within)

-- no slot more, the slots of one call after another, and a slot that a call answered
pub adds_same : (P : Function → Type 0) (sets : LiveSets) → AddsSets P sets sets
adds_same P sets slot live = inl live

pub adds_chain : (P : Function → Type 0) (a b c : LiveSets) → KeepsSets b c → AddsSets P a b → AddsSets P b c → AddsSets P a c
adds_chain P a b c kept one two slot live = ⊎_elim
    (λ (was : IsLive b slot). ⊎_elim (λ (old : IsLive a slot). inl old) (λ (is : P (set_of b slot)). inr (subst P (sym (kept.sets slot was)) is)) (one slot was))
    (λ (is : P (set_of c slot)). inr is)
    (two slot live)

pub adds_weaker : (P Q : Function → Type 0) (a b : LiveSets) → ((set : Function) → P set → Q set) → AddsSets P a b → AddsSets Q a b
adds_weaker P Q a b weaker one slot live = ⊎_elim (λ (old : IsLive a slot). inl old) (λ (is : P (set_of b slot)). inr (weaker (set_of b slot) is)) (one slot live)

pub adds_owned : (P : Function → Type 0) (a b : LiveSets) (slot : ℕ) (set : Function) → Owns a b ((slot, set) ∷ []) → P set → AddsSets P a b
adds_owned P a b slot set owns is other live = ⊎_elim
    (λ (here : (slot == other || false) ≡ true). inr (subst (λ s. P (set_of b s)) (⊎_elim (λ (same : (slot == other) ≡ true). eqb-true slot other same) (λ no. absurd (cc)) (or_cases (slot == other) false here)) (subst P (sym owns.new.2) is)))
    (λ (old : is_live a other ≡ true). inl old)
    (or_cases (slot == other || false) (is_live a other) (sym (owns.live other) ∙ live))

-- the sets of an action are kept for it
pub exec_of_action : (n : ℕ) (invariant : Cond) (action : GroundAction) → Contains (sets_of_action n invariant action) (exec_of invariant action)
exec_of_action n invariant action = (zero, omega arith, refl)

pub lands_of_action : (n : ℕ) (invariant : Cond) (action : GroundAction) (set : Function) → Contains (map (lands_of invariant) action.outcomes.items) set → Contains (sets_of_action n invariant action) set
lands_of_action n invariant action set has =
    added (exec_of invariant action) (map (lands_of invariant) action.outcomes.items ++ flat_map (next_sets n) action.outcomes.items)
    (Contains-append_left (map (lands_of invariant) action.outcomes.items) (flat_map (next_sets n) action.outcomes.items) set has)

pub nexts_of_action : (n : ℕ) (invariant : Cond) (action : GroundAction) (outcomes : List Outcome) (set : Function) → outcomes ≡ action.outcomes.items → Contains (flat_map (next_sets n) outcomes) set → Contains (sets_of_action n invariant action) set
nexts_of_action n invariant action outcomes set same has =
    added (exec_of invariant action) (map (lands_of invariant) action.outcomes.items ++ flat_map (next_sets n) action.outcomes.items)
    (Contains-append_right (map (lands_of invariant) action.outcomes.items) (flat_map (next_sets n) action.outcomes.items) set (subst (λ l. Contains (flat_map (next_sets n) l) set) same has))

-- the next values of an action, and then what its outcomes lead to states
pub adds_two : (n : ℕ) (invariant : Cond) (action : GroundAction) (outcomes : List Outcome) (a b c : LiveSets) → outcomes ≡ action.outcomes.items → KeepsSets b c → AddsSets (Contains (flat_map (next_sets n) outcomes)) a b
    → AddsSets (Contains (map (lands_of invariant) action.outcomes.items)) b c → AddsSets (Contains (sets_of_action n invariant action)) a c
adds_two n invariant action outcomes a b c same kept nexts lands =
    adds_chain (Contains (sets_of_action n invariant action)) a b c kept
    (adds_weaker (Contains (flat_map (next_sets n) outcomes)) (Contains (sets_of_action n invariant action)) a b (λ set has. nexts_of_action n invariant action outcomes set same has) nexts)
    (adds_weaker (Contains (map (lands_of invariant) action.outcomes.items)) (Contains (sets_of_action n invariant action)) b c (λ set has. lands_of_action n invariant action set has) lands)

-- a call found no room after some that kept slots
pub room_from : {P : Function → Type 0} {slots w : ℕ} (a b : LiveSets) {after : LiveSets} (few others : ℕ) → KeepsSets a b → AddsSets P a b → live_count b ≤ live_count a + slots → few ≤ 208 → others ≤ 1 → NoRoom w few others b after
    → NoRoomKept P slots w a after
room_from a b few others kept adds slots few_own few_rough none = record {
  middle = b;
  kept = kept;
  adds = adds;
  few = slots;
  no_room = room_wider b few 208 others 1 few_own few_rough none;
}

pub room_later : (P Q : Function → Type 0) {slots more w : ℕ} (a b : LiveSets) {after : LiveSets} → KeepsSets a b → AddsSets P a b → live_count b + more ≤ live_count a + slots → ((set : Function) → Q set → P set)
    → NoRoomKept Q more w b after → NoRoomKept P slots w a after
room_later P Q a b kept adds slots weaker room =
    let few : live_count room.middle ≤ live_count b + _ = room.few in
    record {
      middle = room.middle;
      kept = kept_chain a b room.middle kept room.kept;
      adds = adds_chain P a b room.middle room.kept adds (adds_weaker Q P b room.middle weaker room.adds);
      few = omega (arith, room.few);
      no_room = room.no_room;
    }

-- the slot of a fluent that some outcome leaves alone
pub adds_shared : (n : ℕ) (actions : List ActionSlots) (before after : LiveSets) (f : ℕ) (slot : Option SetId) → f < n → IsSharedSlot before after (some_leaves actions f) f slot → AddsSets (IsLeftAlone n actions) before after
adds_shared n actions before after f (Some slot) within is = adds_owned (IsLeftAlone n actions) before after slot.0 (variable f) is.1 (f, within, is.0, refl)
adds_shared n actions before after f None within is = subst (λ (s : LiveSets). AddsSets (IsLeftAlone n actions) before s) (sym is.1) (adds_same (IsLeftAlone n actions) before)
