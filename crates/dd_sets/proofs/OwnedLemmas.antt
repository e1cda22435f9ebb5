-- A function's own slots, put together from those of its calls.
use Rattle.std.proofs.Common.{◌≡◌, ℕ, ◌+◌, ◌==◌, true, false, ◌||◌, [], ◌∷◌, ◌++◌, length, Result, Ok, Err, IfOk, OnErr, refl, sym, ap, ◌∙◌, arith, length-append}
use borrow.Author.Tests.{eq-eqb}
use Rattle.std.proofs.Math.Bool.{or_assoc}
use Rattle.std.proofs.lemmas.Bool.{both_ways, or_parts, or_from, or_left}
use Rattle.std.proofs.lemmas.List.Folds.{list_any-append}
use Rattle.dd_nodes.specs.Subfunctions.{Function}
use Rattle.dd_sets.specs.Calls.{KeepsSets, Adds, AddsNone, Releases}
use Rattle.dd_sets.specs.Frames.{Slots, has_slot, AreNew, Owns, OwnsAnswer, OwnsBoth, AreTwo}
use Rattle.dd_sets.specs.LiveSets.{LiveSets, is_live, set_of, live_count, IsLive}
use Rattle.dd_sets.specs.declared.errors.SetErr.{SetErr}
use Rattle.dd_sets.specs.declared.slots.SetId.{SetId}
use Rattle.dd_sets.proofs.FrameLemmas.{kept_chain}
use Rattle.dd_sets.proofs.OwnLemmas.{own_none, own_live, own_same, own_add, own_end, own_one, own_nothing, new_kept}

-- what a call on the sets answers
pub answered : (before after : LiveSets) (set : Function) (result : Result SetId SetErr) → IfOk result (λ slot. Adds before after slot.0 set) → KeepsSets before after
    → OnErr result (AddsNone before after) → OwnsAnswer before after set result
answered before after set (Ok slot) adds kept none = own_add before before after [] (own_none before) kept slot.0 set adds
answered before after set (Err e) adds kept none = own_same before before after [] (own_none before) kept none

-- first some slots, then some more
new_chain : (a b c : LiveSets) (xs : Slots) → Owns a b xs → KeepsSets b c → (ys : Slots) → AreNew b c ys → AreNew a c (ys ++ xs)
new_chain a b c xs first kept [] new = new_kept a b c kept xs (own_live a b xs first) first.new
new_chain a b c xs first kept (y ∷ ys) new =
    let parts = or_parts (has_slot xs y.0) (is_live a y.0) (sym (first.live y.0) ∙ new.0) in (
      parts.1,
      list_any-append (λ (e : ℕ × Function). e.0 == y.0) ys xs ∙ or_from (has_slot ys y.0) (has_slot xs y.0) new.1 parts.0,
      new.2,
      new_chain a b c xs first kept ys new.3,
    )

pub own_chain : (a b c : LiveSets) (xs ys : Slots) → Owns a b xs → Owns b c ys → Owns a c (ys ++ xs)
own_chain a b c xs ys first second =
    let few : live_count b ≡ live_count a + length xs = first.count in
    let more : live_count c ≡ live_count b + length ys = second.count in
    record {
      kept = kept_chain a b c first.kept second.kept;
      new = new_chain a b c xs first second.kept ys second.new;
      live = λ slot.
          second.live slot ∙ ap (λ l. has_slot ys slot || l) (first.live slot)
          ∙ sym (or_assoc (has_slot ys slot) (has_slot xs slot) (is_live a slot))
          ∙ ap (λ l. l || is_live a slot) (sym (list_any-append (λ (e : ℕ × Function). e.0 == slot) ys xs));
      count = omega (arith, length-append ys xs);
    }

-- the set of an own slot
pub own_set : (before now : LiveSets) (slot : ℕ) (set : Function) (front back : Slots) → Owns before now (front ++ (slot, set) ∷ back) → set_of now slot ≡ set
own_set before now slot set front back owns = at front owns.new
  where
    at : (front : Slots) → AreNew before now (front ++ (slot, set) ∷ back) → set_of now slot ≡ set
    at [] new = new.2
    at (entry ∷ front) new = at front new.3

-- one slot, then an answer
pub both : (a b c : LiveSets) (slot : SetId) (f g : Function) (answer : Result SetId SetErr) → Owns a b ((slot.0, f) ∷ []) → OwnsAnswer b c g answer → OwnsBoth a c slot f answer g
both a b c slot f g (Ok other) first second = own_chain a b c ((slot.0, f) ∷ []) ((other.0, g) ∷ []) first second
both a b c slot f g (Err e) first second = own_chain a b c ((slot.0, f) ∷ []) [] first second

pub are_two : (a c : LiveSets) (slot : SetId) (f g : Function) (answer : Result SetId SetErr) → OwnsBoth a c slot f answer g → AreTwo c slot answer
are_two a c slot f g (Ok other) owns = (
  own_live a c ((other.0, g) ∷ (slot.0, f) ∷ []) owns slot.0 (has_second),
  own_live a c ((other.0, g) ∷ (slot.0, f) ∷ []) owns other.0 (or_left (other.0 == other.0) (has_slot ((slot.0, f) ∷ []) other.0) (eq-eqb other.0 other.0 refl)),
  λ e. both_ways (slot.0 == other.0) ((or_parts (slot.0 == other.0) false owns.new.1).0) (eq-eqb slot.0 other.0 (sym e)),
)
  where
    has_second : has_slot ((other.0, g) ∷ (slot.0, f) ∷ []) slot.0 ≡ true
    has_second = grind (arith, or_left, eq-eqb)
are_two a c slot f g (Err e) owns = own_live a c ((slot.0, f) ∷ []) owns slot.0 (or_left (slot.0 == slot.0) false (eq-eqb slot.0 slot.0 refl))

-- an answer takes the place of one slot
pub one_replaced : (before now next after : LiveSets) (a : ℕ) (f set : Function) (result : Result SetId SetErr) → Owns before now ((a, f) ∷ [])
    → IfOk result (λ slot. Adds now next slot.0 set) → KeepsSets now next → OnErr result (AddsNone now next) → Releases next after a
    → OwnsAnswer before after set result
one_replaced before now next after a f set (Ok slot) owns adds kept none ended =
    own_end before next after ((slot.0, set) ∷ []) a f [] (own_add before now next ((a, f) ∷ []) owns kept slot.0 set adds) ended
one_replaced before now next after a f set (Err e) owns adds kept none ended =
    own_end before next after [] a f [] (own_same before now next ((a, f) ∷ []) owns kept none) ended

-- an answer takes the place of two
pub two_replaced : (before now next last after : LiveSets) (a b : ℕ) (f g set : Function) (result : Result SetId SetErr) → Owns before now ((b, g) ∷ (a, f) ∷ [])
    → IfOk result (λ slot. Adds now next slot.0 set) → KeepsSets now next → OnErr result (AddsNone now next) → Releases next last a → Releases last after b
    → OwnsAnswer before after set result
two_replaced before now next last after a b f g set (Ok slot) owns adds kept none first second =
    own_end before last after ((slot.0, set) ∷ []) b g []
    (own_end before next last ((slot.0, set) ∷ (b, g) ∷ []) a f [] (own_add before now next ((b, g) ∷ (a, f) ∷ []) owns kept slot.0 set adds) first)
    second
two_replaced before now next last after a b f g set (Err e) owns adds kept none first second =
    own_end before last after [] b g []
    (own_end before next last ((b, g) ∷ []) a f [] (own_same before now next ((b, g) ∷ (a, f) ∷ []) owns kept none) first)
    second

-- a slot is ended and a refusal passed on
pub refused : (before now after : LiveSets) (a : ℕ) (f set : Function) (e : SetErr) → Owns before now ((a, f) ∷ []) → Releases now after a → OwnsAnswer before after set (Err e)
refused before now after a f set e owns ended = own_end before now after [] a f [] owns ended

-- what an answer leaves, as a call on the sets says it
pub answer_added : (before after : LiveSets) (set : Function) (result : Result SetId SetErr) → OwnsAnswer before after set result → IfOk result (λ slot. Adds before after slot.0 set)
answer_added before after set (Ok slot) answered = own_one before after slot.0 set answered
answer_added before after set (Err e) answered = tt

pub answer_kept : (before after : LiveSets) (set : Function) (result : Result SetId SetErr) → OwnsAnswer before after set result → KeepsSets before after
answer_kept before after set (Ok slot) answered = answered.kept
answer_kept before after set (Err e) answered = answered.kept

pub answer_refused : (before after : LiveSets) (set : Function) (result : Result SetId SetErr) → OwnsAnswer before after set result → OnErr result (AddsNone before after)
answer_refused before after set (Ok slot) answered = tt
answer_refused before after set (Err e) answered = own_nothing before after answered

-- an answer to a call on a slot takes the slot's place
pub handed : (start now mid after : LiveSets) (slot : ℕ) (f g : Function) (answer : Result SetId SetErr) → Owns start now ((slot, f) ∷ []) → OwnsAnswer now mid g answer → Releases mid after slot → OwnsAnswer start after g answer
handed start now mid after slot f g (Ok other) owns answered ended =
    own_end start mid after ((other.0, g) ∷ []) slot f [] (own_chain start now mid ((slot, f) ∷ []) ((other.0, g) ∷ []) owns answered) ended
handed start now mid after slot f g (Err e) owns answered ended = own_end start mid after [] slot f [] (own_chain start now mid ((slot, f) ∷ []) [] owns answered) ended

-- the own slot is live, also after a call on it
pub one_live : (start now : LiveSets) (slot : ℕ) (f : Function) → Owns start now ((slot, f) ∷ []) → IsLive now slot
one_live start now slot f owns = own_live start now ((slot, f) ∷ []) owns slot (or_left (slot == slot) false (eq-eqb slot slot refl))

pub still_live : (start now mid : LiveSets) (slot : ℕ) (f g : Function) (answer : Result SetId SetErr) → Owns start now ((slot, f) ∷ []) → OwnsAnswer now mid g answer → IsLive mid slot
still_live start now mid slot f g answer owns answered = (answer_kept now mid g answer answered).live slot (one_live start now slot f owns)
