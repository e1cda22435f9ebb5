-- One fluent more that outcomes share, or not.
use Rattle.std.proofs.Common.{◌≡◌, ℕ, zero, suc, ◌+◌, ◌<◌, ◌≤◌, Bool, true, cond, List, [], ◌∷◌, ◌++◌, length, Option, Some, None, IsSome, slice_index_or, refl, sym, ap, subst, ◌∙◌, ⊎_elim, arith}
use Rattle.std.proofs.lemmas.Bool.{both_ways, cases_lt}
use Rattle.std.proofs.lemmas.Option.{none-some, same_Some}
use Rattle.dd_ops.specs.Operations.{variable}
use Rattle.dd_sets.specs.Calls.{KeepsSets}
use Rattle.dd_sets.specs.LiveSets.{LiveSets, live_count}
use Rattle.dd_sets.specs.declared.slots.SetId.{SetId}
use Rattle.dd_sets.proofs.FrameLemmas.{kept_same}
use Rattle.encode_task.specs.Counts.{some_leaves}
use Rattle.encode_task.specs.Made.{Holds}
use Rattle.encode_task.specs.Slots.{ActionSlots}
use Rattle.encode_task.specs.Tables.{IsShared, IsSharedSlot, SharesLeft}
use Rattle.encode_task.proofs.MadeLemmas.{holds_kept}
use Rattle.dd_sets.proofs.OwnedLemmas.{one_live, own_set}

-- the elements of a list with one more
at_front : (shared : List (Option SetId)) (slot : Option SetId) (g : ℕ) → g < length shared → slice_index_or (shared ++ slot ∷ []) g None ≡ slice_index_or shared g None
at_front [] slot g within = absurd (omega arith)
at_front (x ∷ shared) slot zero within = refl
at_front (x ∷ shared) slot (suc g) within = at_front shared slot g (omega arith)

at_last : (shared : List (Option SetId)) (slot : Option SetId) (g : ℕ) → g ≡ length shared → slice_index_or (shared ++ slot ∷ []) g None ≡ slot
at_last [] slot zero is = refl
at_last [] slot (suc g) is = absurd (omega arith)
at_last (x ∷ shared) slot zero is = absurd (omega arith)
at_last (x ∷ shared) slot (suc g) is = at_last shared slot g (omega arith)

at_end : (shared : List (Option SetId)) (slot : Option SetId) (g : ℕ) → length shared < g → slice_index_or (shared ++ slot ∷ []) g None ≡ None
at_end [] slot zero past = absurd (omega arith)
at_end [] slot (suc g) past = refl
at_end (x ∷ shared) slot zero past = absurd (omega arith)
at_end (x ∷ shared) slot (suc g) past = at_end shared slot g (omega arith)

pub shared_kept : (before after : LiveSets) (left : Bool) (f : ℕ) (slot : Option SetId) → IsSharedSlot before after left f slot → KeepsSets before after
shared_kept before after left f (Some slot) is = is.1.kept
shared_kept before after left f None is = subst (KeepsSets before) (sym is.1) (kept_same before)

-- each shared slot holds its fluent's value
slot_holds : (before after : LiveSets) (left : Bool) (f : ℕ) (slot : Option SetId) (own : SetId) → IsSharedSlot before after left f slot → slot ≡ Some own → Holds after own (variable f)
slot_holds before after left f (Some slot) own is same =
    subst (λ s. Holds after s (variable f)) (same_Some slot own same) (record { live = one_live before after slot.0 (variable f) is.1; holds = own_set before after slot.0 (variable f) [] [] is.1 })
slot_holds before after left f None own is same = absurd (none-some own same)

pub shared_more : (before after : LiveSets) (left : Bool) (f : ℕ) (shared all : List (Option SetId)) (slot : Option SetId) → all ≡ shared ++ slot ∷ [] → length shared ≡ f → IsSharedSlot before after left f slot → IsShared before shared → IsShared after all
shared_more before after left f shared all slot whole long is holds =
    subst (IsShared after) (sym whole) (record { holds = at })
  where
    at : (g : ℕ) (own : SetId) → slice_index_or (shared ++ slot ∷ []) g None ≡ Some own → Holds after own (variable g)
    at g own found = ⊎_elim
        (λ (front : g < f). holds_kept before after (shared_kept before after left f slot is) own _ (holds.holds g own (sym (at_front shared slot g (omega arith)) ∙ found)))
        (λ (rest : f ≤ g). ⊎_elim
        (λ (past : f < g). absurd (none-some own (sym (at_end shared slot g (omega arith)) ∙ found)))
        (λ (here : g ≤ f).
        let same : f ≡ g = omega arith in
        subst (λ h. Holds after own (variable h)) same (slot_holds before after left f slot own is (sym (at_last shared slot g (omega arith)) ∙ found)))
        (cases_lt f g))
        (cases_lt g f)

-- each fluent that is left alone has a shared slot
slot_some : (before after : LiveSets) (left : Bool) (f : ℕ) (slot : Option SetId) → IsSharedSlot before after left f slot → left ≡ true → IsSome slot
slot_some before after left f (Some slot) is so = refl
slot_some before after left f None is so = absurd (both_ways left is.0 so)

pub all_more : (before after : LiveSets) (actions : List ActionSlots) (f : ℕ) (shared all : List (Option SetId)) (slot : Option SetId) → all ≡ shared ++ slot ∷ [] → length shared ≡ f
    → IsSharedSlot before after (some_leaves actions f) f slot → SharesLeft f actions shared → SharesLeft (f + 1) actions all
all_more before after actions f shared all slot whole long is shares g small left =
    subst (λ (l : List (Option SetId)). IsSome (slice_index_or l g None)) (sym whole)
    (⊎_elim
    (λ (front : g < f). subst IsSome (sym (at_front shared slot g (omega arith))) (shares g front left))
    (λ (rest : f ≤ g).
    let same : g ≡ f = omega arith in
    subst IsSome (sym (at_last shared slot g (omega arith))) (slot_some before after (some_leaves actions f) f slot is (ap (some_leaves actions) (sym same) ∙ left)))
    (cases_lt g f))

-- one slot more, or none
pub count_slot : (before after : LiveSets) (left : Bool) (f : ℕ) (slot : Option SetId) → IsSharedSlot before after left f slot → live_count after ≡ live_count before + cond left 1 0
count_slot before after left f (Some slot) is =
    let one : ◌≡◌ {A = ℕ} (cond left 1 0) 1 = ap (λ b. cond b 1 0) is.0 in
    let more : live_count after ≡ live_count before + 1 = is.1.count in
    omega arith
count_slot before after left f None is =
    let none : ◌≡◌ {A = ℕ} (cond left 1 0) 0 = ap (λ b. cond b 1 0) is.0 in
    let same : live_count after ≡ live_count before = ap live_count is.1 in
    omega arith
