-- How large the sets at the places of a board are, and what that says of a call that found no room.
use Rattle.std.proofs.Common.{◌≡◌, ℕ, ◌+◌, ◌<◌, ◌≤◌, List, length, Contains, ◌⊎◌, sym, subst, ◌∙◌, ⊎_elim, arith}
use Rattle.dd_nodes.specs.Subfunctions.{Function}
use Rattle.dd_sets.specs.LiveSets.{everything, nothing}
use Rattle.dd_sets.specs.Rooms.{NoRoom, Rough, Small}
use Rattle.dd_sets.specs.declared.slots.SetId.{SetId}
use Rattle.dd_sets.proofs.OperationSizes.{constants_small}
use Rattle.dd_sets.proofs.PlaceRooms.{room_places}
use Rattle.dd_sets.proofs.SizeLemmas.{small_rough}
use Rattle.encode_task.specs.Slots.{Encoded}
use Rattle.task_core.specs.Tasks.{fluent_count}
use Rattle.preimage.proofs.SizeLemmas.{strong_small, weak_small}
use Rattle.slot_board.specs.Board.{At, Fits, HasNoRoom, IsSmall, LeadFits, Start, led, set_at, slot_at}
use Rattle.slot_board.specs.declared.board.Outcomes.{Outcomes}

-- the fluents of a search
pub vars_at : (start : Start) → start.enc.sets.vars ≡ fluent_count start.task
vars_at start = start.made.ready.vars ∙ start.made.fluents

pub vars_now : (start : Start) (enc : Encoded) (slots : List SetId) → At start enc slots → enc.sets.vars ≡ fluent_count start.task
vars_now start enc slots here = here.working.kept.vars ∙ vars_at start

-- the same sizes by the fluents of the sets
pub small_now : (start : Start) (enc : Encoded) (slots : List SetId) → At start enc slots → (f : Function) → IsSmall start f → Small enc.sets.vars start.width f
small_now start enc slots here f small = subst (λ v. Small v start.width f) (sym (vars_now start enc slots here)) small

pub rough_now : (start : Start) (enc : Encoded) (slots : List SetId) → At start enc slots → (f : Function) → Rough (fluent_count start.task) start.width f → Rough enc.sets.vars start.width f
rough_now start enc slots here f rough = subst (λ v. Rough v start.width f) (sym (vars_now start enc slots here)) rough

-- a set that fits is rough
pub fits_rough : (start : Start) (place : ℕ) (f : Function) → Fits start place f → Rough (fluent_count start.task) start.width f
fits_rough start place f fits = ⊎_elim
    (λ (small : IsSmall start f). small_rough (fluent_count start.task) start.width f small)
    (λ (listed : Contains start.rough place × Rough (fluent_count start.task) start.width f). listed.1)
    fits

-- the constants are small
pub nothing_small : (fluents width : ℕ) → fluents + 2 ≤ width → Small fluents width nothing
nothing_small fluents width wide = (constants_small fluents width (omega arith)).0

pub whole_small : (start : Start) → IsSmall start everything
whole_small start = (constants_small (fluent_count start.task) start.width (omega (arith, start.wide))).1

-- so is where an action leads into a set
pub led_small : (start : Start) (outcomes : Outcomes) (a : ℕ) (set : Function) → LeadFits start outcomes a set → IsSmall start (led outcomes start.task a set)
led_small start Outcomes.Some a set fits = weak_small start.width start.task a set fits
led_small start Outcomes.Every a set fits = strong_small start.width start.task a set fits

-- a call that found no room beside the slots of the board
pub room_at : (start : Start) (enc now : Encoded) (slots : List SetId) → At start enc slots → (few fewer : ℕ) → few ≤ start.spare + 8 → fewer ≤ 4 → NoRoom start.width few fewer enc.sets now.sets → HasNoRoom start now
room_at start enc now slots here few fewer within rougher none =
    let long : length slots ≡ start.places = here.long in
    room_places start.enc.sets enc.sets here.working.kept (slot_at slots) (length slots) start.rough here.working.others
    (subst (λ v. (place : ℕ) → place < length slots → Small v start.width (set_at enc.sets slots place) ⊎ (Contains start.rough place × Rough v start.width (set_at enc.sets slots place))) (sym (vars_at start)) here.each)
    few (start.places + start.spare + 8) fewer (length start.rough + 4) (omega arith) (omega arith) none
