-- Calls that found no room.
use Rattle.std.proofs.Common.{◌≡◌, inl, inr, ◌⊎◌, ℕ, zero, suc, ◌+◌, ◌*◌, ◌^◌, ◌<◌, ◌≤◌, List, [], ◌∷◌, ◌++◌, length, Contains, refl, sym, ap, subst, ◌∙◌, ⊎_elim, arith, length-append, mul-le-mul_right}
use Rattle.std.proofs.lemmas.List.{append-nil}
use Rattle.std.proofs.lemmas.List.Elements.{Contains-append_cases}
use Rattle.dd_nodes.specs.Subfunctions.{Function, nodes}
use Rattle.dd_ops.proofs.GrowthBounds.{grow_piece}
use Rattle.dd_ops.proofs.GrowthSubst.{grow_subst}
use Rattle.dd_ops.specs.Growth.{grow}
use Rattle.dd_sets.specs.Calls.{KeepsSets, Releases}
use Rattle.dd_sets.specs.Frames.{Slots, Owns}
use Rattle.dd_sets.specs.LiveSets.{LiveSets, live_count, live_sets}
use Rattle.dd_sets.specs.Rooms.{Tight, IsFull, IsOneCall, IsTightFor, NoRoom, nodes_of_slots, sets_in, Small, Rough, AreRough, AreSized}
use Rattle.dd_sets.proofs.LiveLemmas.{owned_live, with_sized, added}
use Rattle.dd_sets.proofs.SetLemmas.{count_sets}
use Rattle.dd_sets.proofs.SizeLemmas.{nodes-append, nodes_small, nodes_rough}
use Rattle.dd_sets.proofs.TightLemmas.{tight_more, tight_within, at_limit_kept, nodes_grow, nodes_within, power_within}

-- the small sets of slots, and the others
pub record Split (vars w others : ℕ) (mine : Slots) : Type 0 where
  pub small : List Function
  pub rough : List Function
  pub count : length small + length rough ≡ length mine
  pub few : length rough ≤ others
  pub each : (set : Function) → Contains small set → Small vars w set
  pub each_rough : (set : Function) → Contains rough set → Rough vars w set
  pub all : (set : Function) → Contains (sets_in mine) set → Contains small set ⊎ Contains rough set

-- an element of a list is its first or one of the others
in_cons : (x : Function) (xs : List Function) (y : Function) → Contains (x ∷ xs) y → (x ≡ y) ⊎ Contains xs y
in_cons x xs y (zero, within, at) = inl at
in_cons x xs y (suc k, within, at) = inr (k, omega arith, at)

pub split : (vars w others : ℕ) (mine : Slots) → AreSized vars w others mine → Split vars w others mine
split vars w others [] sized = record {
  small = [];
  rough = [];
  count = refl;
  few = omega arith;
  each = λ set has. let within = has.1 in absurd (omega arith);
  each_rough = λ set has. let within = has.1 in absurd (omega arith);
  all = λ set has. inl has;
}
split vars w others (entry ∷ mine) (inl one) =
    let rest = split vars w others mine one.1 in
    let count : length rest.small + length rest.rough ≡ length mine = rest.count in
    record {
      small = entry.1 ∷ rest.small;
      rough = rest.rough;
      count = omega arith;
      few = rest.few;
      each = λ set has. ⊎_elim (λ (is : entry.1 ≡ set). subst (Small vars w) is one.0) (rest.each set) (in_cons entry.1 rest.small set has);
      each_rough = rest.each_rough;
      all = λ set has. ⊎_elim
          (λ (is : entry.1 ≡ set). inl (zero, omega arith, is))
          (λ (later : Contains (sets_in mine) set). ⊎_elim (λ (there : Contains rest.small set). inl (added entry.1 rest.small there)) (λ (there : Contains rest.rough set). inr there) (rest.all set later))
          (in_cons entry.1 (sets_in mine) set has);
    }
split vars w others (entry ∷ mine) (inr one) =
    let rest = split vars w one.1 mine one.3 in
    let count : length rest.small + length rest.rough ≡ length mine = rest.count in
    let few : length rest.rough ≤ one.1 = rest.few in
    let more : others ≡ suc one.1 = one.2 in
    record {
      small = rest.small;
      rough = entry.1 ∷ rest.rough;
      count = omega arith;
      few = omega arith;
      each = rest.each;
      each_rough = λ set has. ⊎_elim (λ (is : entry.1 ≡ set). subst (Rough vars w) is one.0) (rest.each_rough set) (in_cons entry.1 rest.rough set has);
      all = λ set has. ⊎_elim
          (λ (is : entry.1 ≡ set). inr (zero, omega arith, is))
          (λ (later : Contains (sets_in mine) set). ⊎_elim (λ (there : Contains rest.small set). inl there) (λ (there : Contains rest.rough set). inr (added entry.1 rest.rough there)) (rest.all set later))
          (in_cons entry.1 (sets_in mine) set has);
    }

-- one operation
pub no_room_of_call : (w : ℕ) (before after : LiveSets) (pieces : List Function) → IsFull before after pieces → IsOneCall before.vars pieces → after.vars ≡ before.vars → after.limit ≡ before.limit
    → AreRough before.vars w pieces → NoRoom w 0 0 before after
no_room_of_call w before after pieces full one vars limit rough = record {
  at_limit = full.at_limit;
  own = [];
  rough = [];
  few = omega arith;
  few_rough = omega arith;
  each = λ set has. let within = has.1 in absurd (omega arith);
  each_rough = λ set has. let within = has.1 in absurd (omega arith);
  pieces = pieces;
  one_call = one;
  made = rough;
  tight = λ fluents. subst (λ known. Tight before.limit before.vars (nodes before.vars (known ++ pieces))) (sym (append-nil (live_sets before ++ []) ∙ append-nil (live_sets before)))
      (subst (λ v. Tight before.limit v (nodes v (live_sets before ++ pieces))) vars
      (subst (λ l. Tight l after.vars (nodes after.vars (live_sets before ++ pieces))) limit (full.tight fluents)));
}

pub no_room_of_piece : (w : ℕ) (before after : LiveSets) (piece : Function) → IsFull before after (piece ∷ []) → after.vars ≡ before.vars → after.limit ≡ before.limit → Rough before.vars w piece → NoRoom w 0 0 before after
no_room_of_piece w before after piece full vars limit rough = no_room_of_call w before after (piece ∷ []) full (inl (piece, refl)) vars limit rough

pub no_room_more : (w : ℕ) (before after : LiveSets) (few many fewer others : ℕ) → few ≤ many → fewer ≤ others → NoRoom w few fewer before after → NoRoom w many others before after
no_room_more w before after few many fewer others more rougher none =
    let within : length none.own + length none.rough ≤ few = none.few in
    let within_rough : length none.rough ≤ fewer = none.few_rough in
    record {
      at_limit = none.at_limit;
      own = none.own;
      rough = none.rough;
      few = omega arith;
      few_rough = omega arith;
      each = none.each;
      each_rough = none.each_rough;
      pieces = none.pieces;
      one_call = none.one_call;
      made = none.made;
      tight = none.tight;
    }

-- a later state with the same nodes and the same limit
pub no_room_later : (w : ℕ) (before middle after : LiveSets) (most others : ℕ) → after.nodes ≡ middle.nodes → after.limit ≡ middle.limit → NoRoom w most others before middle → NoRoom w most others before after
no_room_later w before middle after most others nodes limit none = record {
  at_limit = at_limit_kept middle after nodes limit none.at_limit;
  own = none.own;
  rough = none.rough;
  few = none.few;
  few_rough = none.few_rough;
  each = none.each;
  each_rough = none.each_rough;
  pieces = none.pieces;
  one_call = none.one_call;
  made = none.made;
  tight = none.tight;
}

pub no_room_released : (w : ℕ) (before middle after : LiveSets) (slot most others : ℕ) → NoRoom w most others before middle → Releases middle after slot → NoRoom w most others before after
no_room_released w before middle after slot most others none ended = no_room_later w before middle after most others ended.nodes ended.limit none

-- a caller that kept the live slots, and whose other live sets are small, or are rough
pub no_room_beside : (w : ℕ) (before middle after : LiveSets) (small rough : List Function) (few many fewer others : ℕ) → KeepsSets before middle
    → ((set : Function) → Contains small set → Small before.vars w set) → ((set : Function) → Contains rough set → Rough before.vars w set)
    → ((f : Function) → Contains (live_sets middle) f → Contains (live_sets before) f ⊎ (Contains small f ⊎ Contains rough f))
    → few + (length small + length rough) ≤ many → fewer + length rough ≤ others → NoRoom w few fewer middle after → NoRoom w many others before after
no_room_beside w before middle after small rough few many fewer others kept smalls roughs live room room_rough none =
    let within : length none.own + length none.rough ≤ few = none.few in
    let within_rough : length none.rough ≤ fewer = none.few_rough in
    record {
      at_limit = none.at_limit;
      own = none.own ++ small;
      rough = none.rough ++ rough;
      few = omega (arith, length-append none.own small, length-append none.rough rough);
      few_rough = omega (arith, length-append none.rough rough);
      each = λ set has. ⊎_elim (λ (own : Contains none.own set). subst (λ v. Small v w set) kept.vars (none.each set own)) (smalls set) (Contains-append_cases none.own small set has);
      each_rough = λ set has. ⊎_elim (λ (own : Contains none.rough set). subst (λ v. Rough v w set) kept.vars (none.each_rough set own)) (roughs set) (Contains-append_cases none.rough rough set has);
      pieces = none.pieces;
      one_call = subst (λ v. IsOneCall v none.pieces) kept.vars none.one_call;
      made = subst (λ v. AreRough v w none.pieces) kept.vars none.made;
      tight = λ fluents. tight_within before middle (live_sets middle ++ none.own ++ none.rough ++ none.pieces) (live_sets before ++ (none.own ++ small) ++ (none.rough ++ rough) ++ none.pieces) kept.vars kept.limit
          (with_sized (live_sets middle) (live_sets before) none.own none.rough small rough none.pieces live) (none.tight (kept.order ∙ fluents));
    }

-- the slots of the caller are among those of its call
pub no_room_owned : (w : ℕ) (before middle after : LiveSets) (mine : Slots) (most others rough : ℕ) → Owns before middle mine → AreSized before.vars w rough mine
    → NoRoom w most others middle after → NoRoom w (most + length mine) (others + rough) before after
no_room_owned w before middle after mine most others rough owns sized none =
    let parts = split before.vars w rough mine sized in
    let count : length parts.small + length parts.rough ≡ length mine = parts.count in
    let few : length parts.rough ≤ rough = parts.few in
    no_room_beside w before middle after parts.small parts.rough most (most + length mine) others (others + rough) owns.kept parts.each parts.each_rough
    (λ f has. ⊎_elim (λ (was : Contains (live_sets before) f). inl was) (λ (own : Contains (sets_in mine) f). inr (parts.all f own)) (owned_live before middle mine owns f has))
    (omega arith) (omega arith) none

-- the limit is tight by slots
pub no_room_tight : (w : ℕ) (before after : LiveSets) (most others : ℕ) → NoRoom w most others before after → IsTightFor most before
no_room_tight w before after most others none fluents =
    tight_more before.limit before.vars (nodes before.vars (live_sets before ++ none.own ++ none.rough ++ none.pieces)) (nodes_of_slots (live_count before + most) before.vars) fits (none.tight fluents)
  where
    call_within : (pieces : List Function) → IsOneCall before.vars pieces → nodes before.vars pieces ≤ 4 ^ before.vars
    call_within pieces (inl one) =
        let few : grow before.vars [] (one.0 ∷ []) < 2 ^ before.vars = grow_piece before.vars [] one.0 in
        let same : nodes before.vars pieces ≡ grow before.vars [] (one.0 ∷ []) = nodes_grow before.vars pieces ∙ ap (grow before.vars []) one.1 in
        omega (arith, power_within before.vars)
    call_within pieces (inr made) =
        let few = grow_subst before.vars [] made.set made.is_listed made.replaced made.fluents in
        let same = nodes_grow before.vars pieces ∙ ap (grow before.vars []) made.are in
        omega (arith, few, same)

    fits : nodes before.vars (live_sets before ++ none.own ++ none.rough ++ none.pieces) ≤ nodes_of_slots (live_count before + most) before.vars
    fits =
        let first = nodes-append before.vars (live_sets before ++ none.own ++ none.rough) none.pieces in
        let second = nodes-append before.vars (live_sets before ++ none.own) none.rough in
        let third = nodes-append before.vars (live_sets before) none.own in
        let live_few : nodes before.vars (live_sets before) ≤ length (live_sets before) * 2 ^ before.vars = nodes_within before.vars (live_sets before) in
        let own_few : nodes before.vars none.own ≤ length none.own * 2 ^ before.vars = nodes_within before.vars none.own in
        let rough_few : nodes before.vars none.rough ≤ length none.rough * 2 ^ before.vars = nodes_within before.vars none.rough in
        let live : length (live_sets before) * 2 ^ before.vars ≡ live_count before * 2 ^ before.vars = ap (λ n. n * 2 ^ before.vars) (count_sets before) in
        let fewer : length none.own + length none.rough ≤ most = none.few in
        let own : (length none.own + length none.rough) * 2 ^ before.vars ≤ most * 2 ^ before.vars = mul-le-mul_right (2 ^ before.vars) fewer in
        let parts : (length none.own + length none.rough) * 2 ^ before.vars ≡ length none.own * 2 ^ before.vars + length none.rough * 2 ^ before.vars = omega arith in
        let sum : (live_count before + most) * 2 ^ before.vars ≡ live_count before * 2 ^ before.vars + most * 2 ^ before.vars = omega arith in
        let call : nodes before.vars none.pieces ≤ 4 ^ before.vars = call_within none.pieces none.one_call in
        omega (arith, first, second, third)

-- and by sizes
pub no_room_small : (w : ℕ) (before after : LiveSets) (most others : ℕ) → NoRoom w most others before after → before.order ≡ []
    → before.limit < nodes before.vars (live_sets before) + most * w + (others + 1) * (w * w)
unfolding Tight AreRough
no_room_small w before after most others none fluents =
    let first = nodes-append before.vars (live_sets before ++ none.own ++ none.rough) none.pieces in
    let second = nodes-append before.vars (live_sets before ++ none.own) none.rough in
    let third = nodes-append before.vars (live_sets before) none.own in
    let below : before.limit < nodes before.vars (live_sets before ++ none.own ++ none.rough ++ none.pieces) = (none.tight fluents).0 in
    let own : nodes before.vars none.own ≤ length none.own * w = nodes_small before.vars w none.own none.each in
    let rough : nodes before.vars none.rough ≤ length none.rough * (w * w) = nodes_rough before.vars w none.rough none.each_rough in
    let made : nodes before.vars none.pieces ≤ w * w = none.made in
    let few : length none.own + length none.rough ≤ most = none.few in
    let few_rough : length none.rough ≤ others = none.few_rough in
    let own_few : length none.own * w ≤ most * w = mul-le-mul_right w (omega arith) in
    let rough_few : length none.rough * (w * w) ≤ others * (w * w) = mul-le-mul_right (w * w) few_rough in
    let sum : (others + 1) * (w * w) ≡ others * (w * w) + w * w = omega arith in
    omega (arith, first, second, third)

-- an operation in the place of the slots that end after it
pub no_room_one : (w : ℕ) (before middle after : LiveSets) (piece : Function) (slot : ℕ) → IsFull before middle (piece ∷ []) → KeepsSets before middle → Releases middle after slot → Rough before.vars w piece → NoRoom w 0 0 before after
no_room_one w before middle after piece slot full kept ended rough = no_room_released w before middle after slot 0 0 (no_room_of_piece w before middle piece full kept.vars kept.limit rough) ended

pub no_room_two : (w : ℕ) (before middle next after : LiveSets) (piece : Function) (first second : ℕ) → IsFull before middle (piece ∷ []) → KeepsSets before middle → Releases middle next first → Releases next after second
    → Rough before.vars w piece → NoRoom w 0 0 before after
no_room_two w before middle next after piece first second full kept ended last rough =
    no_room_released w before next after second 0 0 (no_room_one w before middle next piece first full kept ended rough) last
