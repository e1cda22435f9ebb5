-- The sets of live slots, as a list.
use Rattle.std.proofs.Common.{◌≡◌, ◌⊎◌, inl, inr, ℕ, zero, suc, ◌<◌, ◌==◌, true, List, [], ◌∷◌, ◌++◌, length, map, filter_map, Option, Some, None, is_some, slice_index_or, Contains, refl, sym, ap, ◌∙◌, ⊎_elim, arith}
use borrow.Author.Tests.{eqb-true}
use Rattle.std.proofs.lemmas.Bool.{or_cases}
use Rattle.std.proofs.lemmas.List.Elements.{Contains-append_cases, Contains-append_left, Contains-append_right}
use Rattle.std.proofs.lemmas.Option.{none-some, same_Some}
use Rattle.dd_nodes.specs.declared.node.Ref.{Ref}
use Rattle.dd_nodes.specs.NodeList.{function}
use Rattle.dd_nodes.specs.Subfunctions.{Function}
use Rattle.dd_sets.specs.Frames.{AreNew, Owns, Slots, has_slot}
use Rattle.dd_sets.specs.LiveSets.{LiveSets, IsLive, is_live, live_sets, set_of}
use Rattle.dd_sets.specs.Orders.{read}
use Rattle.dd_sets.specs.Rooms.{sets_in}
use Rattle.dd_sets.proofs.SlotLemmas.{live_number, set_is}

pub moved : (sets : List Function) {f g : Function} → f ≡ g → Contains sets f → Contains sets g
moved sets {f} {g} same has = (has.0, has.1, ap (slice_index_or sets has.0) (sym same) ∙ has.2 ∙ same)

-- what of a slot's number is in the list of all
held_in : (h : Ref → Function) (slots : List (Option Ref)) (slot : ℕ) (number : Ref) → slice_index_or slots slot None ≡ Some number → Contains (map h (filter_map (λ o. o) slots)) (h number)
held_in h [] slot number is = absurd (none-some number is)
held_in h (None ∷ slots) zero number is = absurd (none-some number is)
held_in h (None ∷ slots) (suc slot) number is = held_in h slots slot number is
held_in h (Some first ∷ slots) zero number is = (zero, omega arith, ap h (same_Some first number is))
held_in h (Some first ∷ slots) (suc slot) number is =
    let rest = held_in h slots slot number is in
    let within : rest.0 < length (map h (filter_map (λ o. o) slots)) = rest.1 in
    (suc rest.0, omega arith, rest.2)

-- and each of the list is a slot's
in_held : (h : Ref → Function) (slots : List (Option Ref)) (f : Function) → Contains (map h (filter_map (λ o. o) slots)) f
    → (slot : ℕ) × (number : Ref) × (slice_index_or slots slot None ≡ Some number) × (h number ≡ f)
in_held h [] f (k, within, at) = absurd (omega arith)
in_held h (None ∷ slots) f has = let rest = in_held h slots f has in (suc rest.0, rest.1, rest.2, rest.3)
in_held h (Some first ∷ slots) f (zero, within, at) = (zero, first, refl, at)
in_held h (Some first ∷ slots) f (suc k, within, at) = let rest = in_held h slots f (k, omega arith, at) in (suc rest.0, rest.1, rest.2, rest.3)

pub live_in : (sets : LiveSets) (slot : ℕ) → IsLive sets slot → Contains (live_sets sets) (set_of sets slot)
unfolding live_sets
live_in sets slot live =
    let found = live_number sets slot live in
    let has = held_in (λ (r : Ref). read sets.order (function sets.nodes r.0)) sets.live slot found.0 found.1 in
    moved (map (λ (r : Ref). read sets.order (function sets.nodes r.0)) (filter_map (λ o. o) sets.live)) (sym (set_is sets slot found.0 found.1)) has

pub in_live : (sets : LiveSets) (f : Function) → Contains (live_sets sets) f → (slot : ℕ) × IsLive sets slot × (set_of sets slot ≡ f)
unfolding live_sets is_live
in_live sets f has =
    let found = in_held (λ (r : Ref). read sets.order (function sets.nodes r.0)) sets.live f has in
    (found.0, ap is_some found.2, set_is sets found.0 found.1 found.2 ∙ found.3)

-- a set of a caller's slot is one of the caller's sets
own_in : (before now : LiveSets) (own : Slots) → AreNew before now own → (slot : ℕ) → has_slot own slot ≡ true → Contains (sets_in own) (set_of now slot)
own_in before now [] new slot has = absurd (cc)
own_in before now (entry ∷ own) new slot has = ⊎_elim
    (λ (here : (entry.0 == slot) ≡ true). (zero, omega arith, sym new.2 ∙ ap (set_of now) (eqb-true entry.0 slot here)))
    (λ (later : has_slot own slot ≡ true).
    let rest = own_in before now own new.3 slot later in
    let within : rest.0 < length (sets_in own) = rest.1 in
    (suc rest.0, omega arith, rest.2))
    (or_cases (entry.0 == slot) (has_slot own slot) has)

-- with a caller's own slots each live set was live before or is the caller's
pub owned_live : (before now : LiveSets) (own : Slots) → Owns before now own → (f : Function) → Contains (live_sets now) f → Contains (live_sets before) f ⊎ Contains (sets_in own) f
owned_live before now own owns f has =
    let found = in_live now f has in ⊎_elim
    (λ (mine : has_slot own found.0 ≡ true). inr (moved (sets_in own) found.2 (own_in before now own owns.new found.0 mine)))
    (λ (was : is_live before found.0 ≡ true). inl (moved (live_sets before) (sym (owns.kept.sets found.0 was) ∙ found.2) (live_in before found.0 was)))
    (or_cases (has_slot own found.0) (is_live before found.0) (sym (owns.live found.0) ∙ found.1))

-- an element of a list stays where one is put in front
pub added : (g : Function) (sets : List Function) {f : Function} → Contains sets f → Contains (g ∷ sets) f
added g sets {f} has = let within : has.0 < length sets = has.1 in (suc has.0, omega arith, has.2)

-- live sets of which each was live, or is one of two kinds of new sets, with others
pub with_sized : (live was own rough small more pieces : List Function) → ((f : Function) → Contains live f → Contains was f ⊎ (Contains small f ⊎ Contains more f))
    → (f : Function) → Contains (live ++ own ++ rough ++ pieces) f → Contains (was ++ (own ++ small) ++ (rough ++ more) ++ pieces) f
with_sized live was own rough small more pieces each f has = ⊎_elim
    (λ (front : Contains (live ++ own ++ rough) f). Contains-append_left (was ++ (own ++ small) ++ (rough ++ more)) pieces f (⊎_elim
    (λ (first : Contains (live ++ own) f). ⊎_elim
    (λ (is_live : Contains live f). ⊎_elim
    (λ (before : Contains was f). Contains-append_left (was ++ (own ++ small)) (rough ++ more) f (Contains-append_left was (own ++ small) f before))
    (λ (new : Contains small f ⊎ Contains more f). ⊎_elim
    (λ (is_small : Contains small f). Contains-append_left (was ++ (own ++ small)) (rough ++ more) f (Contains-append_right was (own ++ small) f (Contains-append_right own small f is_small)))
    (λ (is_rough : Contains more f). Contains-append_right (was ++ (own ++ small)) (rough ++ more) f (Contains-append_right rough more f is_rough))
    new)
    (each f is_live))
    (λ (owned : Contains own f). Contains-append_left (was ++ (own ++ small)) (rough ++ more) f (Contains-append_right was (own ++ small) f (Contains-append_left own small f owned)))
    (Contains-append_cases live own f first))
    (λ (other : Contains rough f). Contains-append_right (was ++ (own ++ small)) (rough ++ more) f (Contains-append_left rough more f other))
    (Contains-append_cases (live ++ own) rough f front)))
    (λ (piece : Contains pieces f). Contains-append_right (was ++ (own ++ small) ++ (rough ++ more)) pieces f piece)
    (Contains-append_cases (live ++ own ++ rough) pieces f has)
