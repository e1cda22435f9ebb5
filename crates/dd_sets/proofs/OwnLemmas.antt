-- How a caller's own slots change by each call.
use Rattle.std.proofs.Common.{◌≡◌, ◌≢◌, ℕ, ◌+◌, ◌==◌, true, false, ◌||◌, [], ◌∷◌, ◌++◌, length, refl, sym, ap, ◌∙◌, ⊎_elim, arith, length-append}
use borrow.Author.Tests.{eq-eqb}
use Rattle.std.proofs.lemmas.Bool.{cases_eq, both_ways, or_parts, or_from, or_left, or_right, ne_eqb}
use Rattle.std.proofs.lemmas.List.Folds.{list_any-append}
use Rattle.dd_nodes.specs.Subfunctions.{Function}
use Rattle.dd_sets.specs.Calls.{KeepsSets, Adds, AddsNone, Releases}
use Rattle.dd_sets.specs.Frames.{Slots, has_slot, AreNew, Owns}
use Rattle.dd_sets.specs.LiveSets.{LiveSets, is_live, live_count, IsLive}
use Rattle.dd_sets.proofs.FrameLemmas.{kept_same, kept_chain, kept_release}

-- no slot of one's own
pub own_none : (sets : LiveSets) → Owns sets sets []
own_none sets = record { kept = kept_same sets; new = tt; live = λ slot. refl; count = omega arith }

-- an own slot is live
pub own_live : (before now : LiveSets) (own : Slots) → Owns before now own → (slot : ℕ) → has_slot own slot ≡ true → IsLive now slot
own_live before now own owns slot has = owns.live slot ∙ or_left (has_slot own slot) (is_live before slot) has

has_head : (slot : ℕ) (set : Function) (own : Slots) → has_slot ((slot, set) ∷ own) slot ≡ true
has_head slot set own = or_left (slot == slot) (has_slot own slot) (eq-eqb slot slot refl)

-- each own slot keeps its set where the live slots do
pub new_kept : (before now next : LiveSets) → KeepsSets now next → (own : Slots) → ((slot : ℕ) → has_slot own slot ≡ true → IsLive now slot) → AreNew before now own → AreNew before next own
new_kept before now next kept [] live new = tt
new_kept before now next kept (entry ∷ own) live new = (
  new.0,
  new.1,
  kept.sets entry.0 (live entry.0 (has_head entry.0 entry.1 own)) ∙ new.2,
  new_kept before now next kept own (λ slot has. live slot (or_right (entry.0 == slot) (has_slot own slot) has)) new.3,
)

-- a call that adds no slot
pub own_same : (before now next : LiveSets) (own : Slots) → Owns before now own → KeepsSets now next → AddsNone now next → Owns before next own
own_same before now next own owns kept none = record {
  kept = kept_chain before now next owns.kept kept;
  new = new_kept before now next kept own (own_live before now own owns) owns.new;
  live = λ slot. none.others slot ∙ owns.live slot;
  count = none.count ∙ owns.count;
}

-- a call that adds one
pub own_add : (before now next : LiveSets) (own : Slots) → Owns before now own → KeepsSets now next → (slot : ℕ) (set : Function) → Adds now next slot set → Owns before next ((slot, set) ∷ own)
own_add before now next own owns kept slot set adds =
    let free : (has_slot own slot || is_live before slot) ≡ false = sym (owns.live slot) ∙ adds.free in
    let parts = or_parts (has_slot own slot) (is_live before slot) free in
    let count : live_count now ≡ live_count before + length own = owns.count in
    let more : live_count next ≡ live_count now + 1 = adds.count in
    record {
      kept = kept_chain before now next owns.kept kept;
      new = (parts.1, parts.0, adds.holds, new_kept before now next kept own (own_live before now own owns) owns.new);
      live = live;
      count = omega arith;
    }
  where
    live : (other : ℕ) → is_live next other ≡ (has_slot ((slot, set) ∷ own) other || is_live before other)
    live other = ⊎_elim
        (λ (same : other ≡ slot).
        ap (is_live next) same ∙ adds.live
        ∙ sym (or_left (has_slot ((slot, set) ∷ own) other) (is_live before other) (or_left (slot == other) (has_slot own other) (eq-eqb slot other (sym same)))))
        (λ (differs : other ≢ slot).
        adds.others other differs ∙ owns.live other
        ∙ ap (λ b. (b || has_slot own other) || is_live before other) (sym (ne_eqb slot other (λ e. differs (sym e)))))
        (cases_eq other slot)

-- the end of an own slot, wherever it stands
new_end : (before now next : LiveSets) (slot : ℕ) (set : Function) → Releases now next slot → (front back : Slots) → AreNew before now (front ++ (slot, set) ∷ back)
    → (has_slot (front ++ back) slot ≡ false) × (is_live before slot ≡ false) × AreNew before next (front ++ back)
new_end before now next slot set ends [] back new = (new.1, new.0, kept back new.1 new.3)
  where
    kept : (own : Slots) → has_slot own slot ≡ false → AreNew before now own → AreNew before next own
    kept [] apart new = tt
    kept (entry ∷ own) apart new =
        let parts = or_parts (entry.0 == slot) (has_slot own slot) apart in
        (new.0, new.1, ends.sets entry.0 (λ e. both_ways (entry.0 == slot) parts.0 (eq-eqb entry.0 slot e)) ∙ new.2, kept own parts.1 new.3)
new_end before now next slot set ends (entry ∷ front) back new =
    let rest = new_end before now next slot set ends front back new.3 in
    let parts = or_parts (has_slot front entry.0) (has_slot ((slot, set) ∷ back) entry.0) (sym (list_any-append (λ (e : ℕ × Function). e.0 == entry.0) front ((slot, set) ∷ back)) ∙ new.1) in
    let tail = or_parts (slot == entry.0) (has_slot back entry.0) parts.1 in
    let differs = λ (e : entry.0 ≡ slot). both_ways (slot == entry.0) tail.0 (eq-eqb slot entry.0 (sym e)) in (
      or_from (entry.0 == slot) (has_slot (front ++ back) slot) (ne_eqb entry.0 slot differs) rest.0,
      rest.1,
      (
        new.0,
        list_any-append (λ (e : ℕ × Function). e.0 == entry.0) front back ∙ or_from (has_slot front entry.0) (has_slot back entry.0) parts.0 tail.1,
        ends.sets entry.0 differs ∙ new.2,
        rest.2,
      ),
    )

pub own_end : (before now next : LiveSets) (front : Slots) (slot : ℕ) (set : Function) (back : Slots) → Owns before now (front ++ (slot, set) ∷ back) → Releases now next slot
    → Owns before next (front ++ back)
own_end before now next front slot set back owns ends =
    let left = new_end before now next slot set ends front back owns.new in
    let count : live_count now ≡ live_count before + length (front ++ (slot, set) ∷ back) = owns.count in
    let less : live_count next + 1 ≡ live_count now = ends.count in
    record {
      kept = kept_release before now next slot owns.kept ends left.1;
      new = left.2;
      live = live left.0 left.1;
      count = omega (arith, length-append front ((slot, set) ∷ back), length-append front back);
    }
  where
    live : has_slot (front ++ back) slot ≡ false → is_live before slot ≡ false → (other : ℕ) → is_live next other ≡ (has_slot (front ++ back) other || is_live before other)
    live apart free other = ⊎_elim
        (λ (same : other ≡ slot).
        ap (is_live next) same ∙ ends.ended
        ∙ sym (ap (λ s. has_slot (front ++ back) s || is_live before s) same ∙ or_from (has_slot (front ++ back) slot) (is_live before slot) apart free))
        (λ (differs : other ≢ slot).
        ends.live other differs ∙ owns.live other
        ∙ ap (λ b. b || is_live before other)
        (list_any-append (λ (e : ℕ × Function). e.0 == other) front ((slot, set) ∷ back)
        ∙ ap (λ b. has_slot front other || (b || has_slot back other)) (ne_eqb slot other (λ e. differs (sym e)))
        ∙ sym (list_any-append (λ (e : ℕ × Function). e.0 == other) front back)))
        (cases_eq other slot)

-- one slot that is left, or none
pub own_one : (before now : LiveSets) (slot : ℕ) (set : Function) → Owns before now ((slot, set) ∷ []) → Adds before now slot set
own_one before now slot set owns = record {
  free = owns.new.0;
  live = own_live before now ((slot, set) ∷ []) owns slot (has_head slot set []);
  holds = owns.new.2;
  others = λ other differs.
      owns.live other ∙ ap (λ b. b || is_live before other) (or_from (slot == other) false (ne_eqb slot other (λ e. differs (sym e))) refl);
  count = owns.count;
}

pub own_nothing : (before now : LiveSets) → Owns before now [] → AddsNone before now
own_nothing before now owns = record {
  others = λ other. owns.live other;
  count = let e : live_count now ≡ live_count before + 0 = owns.count in omega arith;
}
