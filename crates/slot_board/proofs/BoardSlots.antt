-- How the slots of a search change by each call.
use Rattle.std.proofs.Common.{◌≡◌, ◌≢◌, ◌↔◌, IsTrue, Bool, true, ℕ, zero, suc, ◌+◌, ◌<◌, ◌≤◌, false, List, [], ◌∷◌, ◌++◌, length, slice_set, Some, IfOk, IsErrOf, Result, Ok, Err, OnErr, OnOk, refl, sym, ap, subst, ◌∙◌, ⊎_elim, inl, inr, ◌⊎◌, arith, length-append}
use Rattle.std.proofs.lemmas.Bool.{both_ways, cases_eq, cases_lt}
use Rattle.std.proofs.Math.Seq.{get_or-append_seam}
use Rattle.std.proofs.lemmas.List.{get_or_append_left, get_or-set_same, get_or-set_other}
use Rattle.dd_nodes.specs.Subfunctions.{Function}
use Rattle.dd_nodes.specs.NodeList.{Values}
use Rattle.dd_sets.specs.Calls.{Adds, AddsNone, KeepsSets, Releases}
use Rattle.dd_sets.specs.Frames.{Owns, OwnsAnswer}
use Rattle.dd_sets.specs.LiveSets.{LiveSets, IsLive, IsSets, is_live, live_count, nothing, set_of}
use Rattle.dd_sets.specs.Rooms.{NoRoom}
use Rattle.dd_sets.proofs.OwnedLemmas.{answer_kept}
use Rattle.dd_sets.specs.declared.errors.SetErr.TheVariants.{Full}
use Rattle.encode_task.specs.Slots.{Encoded}
use Rattle.encode_task.specs.Made.{MadeOf}
use Rattle.preimage.proofs.FrameSteps.{made_now, same_chain}
use Rattle.task_core.specs.Tasks.{action_count, fluent_count, initial_states}
use Rattle.task_core.specs.Vectors.{value_of}
use Rattle.std.specs.List.{list_all}
use Rattle.dd_sets.specs.declared.errors.SetErr.{SetErr}
use Rattle.dd_sets.specs.declared.slots.SetId.{SetId}
use Rattle.dd_sets.proofs.FrameLemmas.{kept_chain, kept_release, kept_same, not_before}
use Rattle.dd_sets.proofs.OwnLemmas.{own_one}
use Rattle.dd_nodes.specs.Subfunctions.{DependsOnly}
use Rattle.dd_sets.proofs.SetLemmas.{set_depends}
use Rattle.encode_task.specs.TaskSets.{initial_set}
use Rattle.encode_task.proofs.MadeLemmas.{goal_slot}
use Rattle.slot_board.specs.Board.{AllNothing, At, Fits, HasNoRoom, Left, Moved, Start, Stayed, Working, set_at, slot_at}
use Rattle.slot_board.proofs.BoardSizes.{room_at}
use Rattle.slot_board.proofs.InitialStates.{inside_is}

length_set : (slots : List SetId) (at : ℕ) (new : SetId) → length (slice_set slots at new) ≡ length slots
length_set [] at new = refl
length_set (x ∷ slots) zero new = refl
length_set (x ∷ slots) (suc at) new = ap suc (length_set slots at new)

-- the slot at the place that was written, and at another
pub slot_here : (slots : List SetId) (place : ℕ) (new : SetId) → place < length slots → slot_at (slice_set slots place new) place ≡ new.0
slot_here slots place new within = ap (λ (s : SetId). s.0) (get_or-set_same slots place new (record { 0 = 0 }) within)

pub slot_other : (slots : List SetId) (place other : ℕ) (new : SetId) → other ≢ place → slot_at (slice_set slots place new) other ≡ slot_at slots other
slot_other slots place other new differs = ap (λ (s : SetId). s.0) (get_or-set_other slots place other new (record { 0 = 0 }) differs)

module _ (before mid now after : LiveSets) (slots : List SetId) (place : ℕ) (new : SetId) (set : Function) (within : place < length slots) (work : Working before mid slots) (answer : Owns mid now ((new.0, set) ∷ [])) (ends : Releases now after (slot_at slots place)) where
  adds : Adds mid now new.0 set
  adds = own_one mid now new.0 set answer

  -- a new slot is none of the old ones
  new_apart : (i : ℕ) → i < length slots → slot_at slots i ≢ new.0
  new_apart i l e = both_ways (is_live mid new.0) adds.free (ap (is_live mid) (sym e) ∙ work.live i l)

  live_now : (i : ℕ) → i < length slots → IsLive now (slot_at slots i)
  live_now i l = answer.kept.live (slot_at slots i) (work.live i l)

  -- each slot of the new list is live, and was not before
  each : (i : ℕ) → i < length slots → IsLive after (slot_at (slice_set slots place new) i) × (is_live before (slot_at (slice_set slots place new) i) ≡ false)
  each i l =
      ⊎_elim
      (λ (same : i ≡ place).
      let e : slot_at (slice_set slots place new) i ≡ new.0 = ap (slot_at (slice_set slots place new)) same ∙ slot_here slots place new within in (
        ap (is_live after) e ∙ ends.live new.0 (λ h. new_apart place within (sym h)) ∙ adds.live,
        ap (is_live before) e ∙ not_before before mid work.kept new.0 adds.free,
      ))
      (λ (differs : i ≢ place).
      let e : slot_at (slice_set slots place new) i ≡ slot_at slots i = slot_other slots place i new differs in (
        ap (is_live after) e ∙ ends.live (slot_at slots i) (work.apart i place l within differs) ∙ live_now i l,
        ap (is_live before) e ∙ work.free i l,
      ))
      (cases_eq i place)

  all_apart : (i j : ℕ) → i < length slots → j < length slots → i ≢ j → slot_at (slice_set slots place new) i ≢ slot_at (slice_set slots place new) j
  all_apart i j l m differ e =
      ⊎_elim
      (λ (same : i ≡ place).
      let other : j ≢ place = λ h. differ (same ∙ sym h) in
      new_apart j m (sym (slot_other slots place j new other) ∙ sym e ∙ ap (slot_at (slice_set slots place new)) same ∙ slot_here slots place new within))
      (λ (first : i ≢ place).
      ⊎_elim
      (λ (same : j ≡ place). new_apart i l (sym (slot_other slots place i new first) ∙ e ∙ ap (slot_at (slice_set slots place new)) same ∙ slot_here slots place new within))
      (λ (second : j ≢ place). work.apart i j l m differ (sym (slot_other slots place i new first) ∙ e ∙ slot_other slots place j new second))
      (cases_eq j place))
      (cases_eq i place)

  outside : (slot : ℕ) → ((i : ℕ) → i < length slots → slot_at (slice_set slots place new) i ≢ slot) → is_live after slot ≡ is_live before slot
  outside slot none =
      ⊎_elim
      (λ (same : slot ≡ slot_at slots place). ap (is_live after) same ∙ ends.ended ∙ sym (ap (is_live before) same ∙ work.free place within))
      (λ (differs : slot ≢ slot_at slots place).
      ends.live slot differs
      ∙ adds.others slot (λ e. none place within (slot_here slots place new within ∙ sym e))
      ∙ work.others slot (λ i l e. ⊎_elim
      (λ (same : i ≡ place). differs (sym e ∙ ap (slot_at slots) same))
      (λ (other : i ≢ place). none i l (slot_other slots place i new other ∙ e))
      (cases_eq i place)))
      (cases_eq slot (slot_at slots place))

  pub working_put : Working before after (slice_set slots place new)
  working_put =
      let long : length (slice_set slots place new) ≡ length slots = length_set slots place new in
      let a : live_count now ≡ live_count mid + 1 = adds.count in
      let b : live_count after + 1 ≡ live_count now = ends.count in
      let c : live_count mid ≡ live_count before + length slots = work.count in
      record {
        kept = kept_release before now after (slot_at slots place) (kept_chain before mid now work.kept answer.kept) ends (work.free place within);
        live = λ i l. (each i (omega arith)).0;
        free = λ i l. (each i (omega arith)).1;
        apart = λ i j l m. all_apart i j (omega arith) (omega arith);
        others = λ slot none. outside slot (λ i l. none i (omega arith));
        count = omega arith;
      }

  -- the sets at the places
  pub set_here : set_at after (slice_set slots place new) place ≡ set
  set_here = ap (set_of after) (slot_here slots place new within) ∙ ends.sets new.0 (λ h. new_apart place within (sym h)) ∙ adds.holds

  pub set_other : (other : ℕ) → other < length slots → other ≢ place → set_at after (slice_set slots place new) other ≡ set_at mid slots other
  set_other other l differs =
      ap (set_of after) (slot_other slots place other new differs)
      ∙ ends.sets (slot_at slots other) (work.apart other place l within differs)
      ∙ answer.kept.sets (slot_at slots other) (work.live other l)

-- the sets are still those of the task
pub made_at : (start : Start) (enc : Encoded) (slots : List SetId) → At start enc slots → MadeOf start.task enc
made_at start enc slots here = made_now start.task start.enc enc here.same here.working.kept start.made

-- the sets at the places fit still, where one place has a set that fits and the others have theirs
fit_now : (start : Start) (before after : LiveSets) (old new : List SetId) (place : ℕ) (set : Function) → ((k : ℕ) → k < length old → Fits start k (set_at before old k)) → Fits start place set → set_at after new place ≡ set
    → ((k : ℕ) → k < length old → k ≢ place → set_at after new k ≡ set_at before old k) → (k : ℕ) → k < length old → Fits start k (set_at after new k)
fit_now start before after old new place set each fits here others k l = ⊎_elim
    (λ (same : k ≡ place). subst (λ p. Fits start p (set_at after new p)) (sym same) (subst (Fits start place) (sym here) fits))
    (λ (differs : k ≢ place). subst (Fits start k) (sym (others k l differs)) (each k l))
    (cases_eq k place)

-- they do where no place changes
fit_still : (start : Start) (before after : LiveSets) (old new : List SetId) → new ≡ old → ((k : ℕ) → k < length old → set_at after old k ≡ set_at before old k)
    → ((k : ℕ) → k < length old → Fits start k (set_at before old k)) → (k : ℕ) → k < length new → Fits start k (set_at after new k)
fit_still start before after old new same stays each =
    subst (λ slots. (k : ℕ) → k < length slots → Fits start k (set_at after slots k)) (sym same) (λ k l. subst (Fits start k) (sym (stays k l)) (each k l))

-- an answer was put at a place
pub placed : (start : Start) (enc mid now : Encoded) (old new : List SetId) (place : ℕ) (set : Function) (answer : Result SetId SetErr) (result : Result Unit SetErr)
    → At start enc old → Fits start place set → mid ≡ record enc { sets = mid.sets } → now ≡ record mid { sets = now.sets } → OwnsAnswer enc.sets mid.sets set answer → (few fewer : ℕ) → few ≤ start.spare + 8 → fewer ≤ 4
    → (IsErrOf answer Full → NoRoom start.width few fewer enc.sets mid.sets)
    → ((before other : LiveSets) (g : Function) → Working before other old → OwnsAnswer other mid.sets g answer → Working before now.sets new)
    → ((before other : LiveSets) (g : Function) → Working before other old → OwnsAnswer other mid.sets g answer → OnOk result (set_at now.sets new place ≡ g))
    → ((before other : LiveSets) (g : Function) → Working before other old → OwnsAnswer other mid.sets g answer → OnOk result ((k : ℕ) → k < length old → k ≢ place → set_at now.sets new k ≡ set_at other old k))
    → length new ≡ length old → (IsErrOf result Full → IsErrOf answer Full) → OnOk result (IsSets now.sets) → OnErr result (now ≡ mid) → OnErr result (new ≡ old)
    → Left start now new (Moved start enc.sets old now new place set) result
placed start enc mid now old new place set answer (Ok x) here fits first second owns few fewer within rougher tight frame at others long full sound refused stays =
    let is : set_at now.sets new place ≡ set = at start.enc.sets enc.sets set here.working owns in
    record {
      at = record {
        same = same_chain start.enc enc now here.same (same_chain enc mid now first second);
        working = frame start.enc.sets enc.sets set here.working owns;
        long = long ∙ here.long;
        each = λ k l. fit_now start enc.sets now.sets old new place set here.each fits is (others start.enc.sets enc.sets set here.working owns) k (omega arith);
      };
      sound = sound;
      here = is;
      others = λ k l differs. others start.enc.sets enc.sets set here.working owns k (omega arith) differs;
    }
placed start enc mid now old new place set answer (Err e) here fits first second owns few fewer within rougher tight frame at others long full sound refused stays = (
  record {
    same = same_chain start.enc enc now here.same (same_chain enc mid now first second);
    working = frame start.enc.sets enc.sets set here.working owns;
    long = long ∙ here.long;
    each = fit_still start enc.sets now.sets old new stays (λ k l. ap (λ (e : Encoded). set_at e.sets old k) refused ∙ (answer_kept enc.sets mid.sets set answer owns).sets (slot_at old k) (here.working.live k l)) here.each;
  },
  λ is. subst (λ (e : Encoded). HasNoRoom start e) (sym refused) (room_at start enc mid old here few fewer within rougher (tight (full (ap Err is)))),
)

-- what is left of an answer, and of what is made of it
pub went : {T : Type 0} (start : Start) (now : Encoded) (slots : List SetId) (P : Type 0) (result : Result T SetErr) (x : T) → result ≡ Ok x → Left start now slots P result → P
went start now slots P result x is left = subst (Left start now slots P) is left

pub left_with : {T : Type 0} (start : Start) (now : Encoded) (slots : List SetId) (P Q : Type 0) (result : Result T SetErr) → (P → Q) → Left start now slots P result → Left start now slots Q result
left_with start now slots P Q (Ok x) f left = f left
left_with start now slots P Q (Err e) f left = left

pub action_within : (start : Start) (enc : Encoded) (slots : List SetId) (a : ℕ) → At start enc slots → a < length enc.actions → a < action_count start.task
action_within start enc slots a here within =
    let e : length enc.actions ≡ action_count start.task = (made_at start enc slots here).actions in omega arith

-- a refusal that is passed on
pub passed : {S T : Type 0} (start : Start) (now : Encoded) (slots : List SetId) (P Q : Type 0) (inner : Result S SetErr) (outer : Result T SetErr) (e : SetErr) → inner ≡ Err e → (x : SetErr) × (outer ≡ Err x) × (x ≡ e) → Left start now slots P inner → Left start now slots Q outer
passed start now slots P Q inner outer e was p left =
    subst (Left start now slots Q) (sym p.1) (let kept = subst (Left start now slots P) was left in (kept.0, λ full. kept.1 (sym p.2 ∙ full)))

pub same_actions : (start : Start) (enc now : Encoded) (old new : List SetId) → At start enc old → At start now new → length now.actions ≡ length enc.actions
same_actions start enc now old new first second =
    ap (λ (e : Encoded). length e.actions) second.same ∙ sym (ap (λ (e : Encoded). length e.actions) first.same)

pub same_fluents : (start : Start) (enc : Encoded) (slots : List SetId) → At start enc slots → enc.fluents ≡ fluent_count start.task
same_fluents start enc slots here = (made_at start enc slots here).fluents

-- each slot's set depends on the task's fluents alone
pub depends : (start : Start) (enc : Encoded) (slots : List SetId) → At start enc slots → IsSets enc.sets → (place : ℕ) → DependsOnly 0 (fluent_count start.task) (set_at enc.sets slots place)
depends start enc slots at sound place =
    let vars : enc.sets.vars ≡ fluent_count start.task = at.working.kept.vars ∙ start.made.ready.vars ∙ start.made.fluents in
    subst (λ n. DependsOnly 0 n (set_at enc.sets slots place)) vars (set_depends enc.sets sound _)

-- the initial states
pub initial_is : (start : Start) (enc : Encoded) (slots : List SetId) → At start enc slots → set_of enc.sets enc.initial.0 ≡ initial_set start.task
initial_is start enc slots at =
    ap (λ (e : Encoded). set_of enc.sets e.initial.0) at.same ∙ at.working.kept.sets start.enc.initial.0 start.made.initial.live ∙ start.made.initial.holds

-- one slot more at the end, and one less
at_end : (slots : List SetId) (new : SetId) → slot_at (slots ++ new ∷ []) (length slots) ≡ new.0
at_end slots new = ap (λ (s : SetId). s.0) (get_or-append_seam slots new [] (record { 0 = 0 }))

at_front : (slots : List SetId) (new : SetId) (i : ℕ) → i < length slots → slot_at (slots ++ new ∷ []) i ≡ slot_at slots i
at_front slots new i l = ap (λ (s : SetId). s.0) (get_or_append_left slots (new ∷ []) (record { 0 = 0 }) i l)

one_longer : (slots : List SetId) (new : SetId) → length (slots ++ new ∷ []) ≡ length slots + 1
one_longer slots new = length-append slots (new ∷ [])

front_or_end : (slots : List SetId) (new : SetId) (i : ℕ) → i < length (slots ++ new ∷ []) → (i < length slots) ⊎ (i ≡ length slots)
front_or_end slots new i l = let e : length (slots ++ new ∷ []) ≡ length slots + 1 = one_longer slots new in ⊎_elim (λ a. inl a) (λ b. inr (omega arith)) (cases_lt i (length slots))

module _ (before mid now : LiveSets) (slots : List SetId) (new : SetId) (set : Function) (work : Working before mid slots) (answer : Owns mid now ((new.0, set) ∷ [])) where
  adds_one : Adds mid now new.0 set
  adds_one = own_one mid now new.0 set answer

  none_is : (i : ℕ) → i < length slots → slot_at slots i ≢ new.0
  none_is i l e = both_ways (is_live mid new.0) adds_one.free (ap (is_live mid) (sym e) ∙ work.live i l)

  each_now : (i : ℕ) → i < length (slots ++ new ∷ []) → IsLive now (slot_at (slots ++ new ∷ []) i) × (is_live before (slot_at (slots ++ new ∷ []) i) ≡ false)
  each_now i l =
      ⊎_elim
      (λ (front : i < length slots). (
        ap (is_live now) (at_front slots new i front) ∙ answer.kept.live (slot_at slots i) (work.live i front),
        ap (is_live before) (at_front slots new i front) ∙ work.free i front,
      ))
      (λ (last : i ≡ length slots).
      let e : slot_at (slots ++ new ∷ []) i ≡ new.0 = ap (slot_at (slots ++ new ∷ [])) last ∙ at_end slots new in
      (ap (is_live now) e ∙ adds_one.live, ap (is_live before) e ∙ not_before before mid work.kept new.0 adds_one.free))
      (front_or_end slots new i l)

  all_differ : (i j : ℕ) → i < length (slots ++ new ∷ []) → j < length (slots ++ new ∷ []) → i ≢ j → slot_at (slots ++ new ∷ []) i ≢ slot_at (slots ++ new ∷ []) j
  all_differ i j l m differ e =
      ⊎_elim
      (λ (first : i < length slots).
      ⊎_elim (λ (second : j < length slots). work.apart i j first second differ (sym (at_front slots new i first) ∙ e ∙ at_front slots new j second))
      (λ (last : j ≡ length slots). none_is i first (sym (at_front slots new i first) ∙ e ∙ ap (slot_at (slots ++ new ∷ [])) last ∙ at_end slots new))
      (front_or_end slots new j m))
      (λ (last : i ≡ length slots).
      ⊎_elim (λ (second : j < length slots). none_is j second (sym (at_front slots new j second) ∙ sym e ∙ ap (slot_at (slots ++ new ∷ [])) last ∙ at_end slots new))
      (λ (other : j ≡ length slots). differ (last ∙ sym other))
      (front_or_end slots new j m))
      (front_or_end slots new i l)

  pub working_pushed : Working before now (slots ++ new ∷ [])
  working_pushed =
      let long : length (slots ++ new ∷ []) ≡ length slots + 1 = one_longer slots new in
      let a : live_count now ≡ live_count mid + 1 = adds_one.count in
      let b : live_count mid ≡ live_count before + length slots = work.count in
      record {
        kept = kept_chain before mid now work.kept answer.kept;
        live = λ i l. (each_now i l).0;
        free = λ i l. (each_now i l).1;
        apart = all_differ;
        others = λ slot none.
            adds_one.others slot (λ e. none (length slots) (omega arith) (at_end slots new ∙ sym e))
            ∙ work.others slot (λ i l e. none i (omega arith) (at_front slots new i l ∙ e));
        count = omega arith;
      }

  pub nothing_pushed : set ≡ nothing → AllNothing mid slots → AllNothing now (slots ++ new ∷ [])
  nothing_pushed is empty i l =
      ⊎_elim
      (λ (front : i < length slots). ap (set_of now) (at_front slots new i front) ∙ answer.kept.sets (slot_at slots i) (work.live i front) ∙ empty i front)
      (λ (last : i ≡ length slots). ap (λ k. set_of now (slot_at (slots ++ new ∷ []) k)) last ∙ ap (set_of now) (at_end slots new) ∙ adds_one.holds ∙ is)
      (front_or_end slots new i l)

  -- where it is ended at once
  pub working_undone : (after : LiveSets) → Releases now after new.0 → Working before after slots
  working_undone after ends = record {
    kept = kept_release before now after new.0 (kept_chain before mid now work.kept answer.kept) ends (not_before before mid work.kept new.0 adds_one.free);
    live = λ i l. ends.live (slot_at slots i) (none_is i l) ∙ answer.kept.live (slot_at slots i) (work.live i l);
    free = work.free;
    apart = work.apart;
    others = λ slot none.
        ⊎_elim
        (λ (same : slot ≡ new.0). ap (is_live after) same ∙ ends.ended ∙ sym (ap (is_live before) same ∙ not_before before mid work.kept new.0 adds_one.free))
        (λ (differs : slot ≢ new.0). ends.live slot differs ∙ adds_one.others slot differs ∙ work.others slot none)
        (cases_eq slot new.0);
    count = let a : live_count now ≡ live_count mid + 1 = adds_one.count in let b : live_count mid ≡ live_count before + length slots = work.count in let d : live_count after + 1 ≡ live_count now = ends.count in omega arith;
  }

pub working_popped : (before now after : LiveSets) (slots : List SetId) (last : SetId) → Working before now (slots ++ last ∷ []) → Releases now after last.0 → Working before after slots
working_popped before now after slots last work ends =
    let long : length (slots ++ last ∷ []) ≡ length slots + 1 = one_longer slots last in
    let a : live_count after + 1 ≡ live_count now = ends.count in
    let b : live_count now ≡ live_count before + length (slots ++ last ∷ []) = work.count in
    record {
      kept = kept_release before now after last.0 work.kept ends free_last;
      live = λ i l. ends.live (slot_at slots i) (differs i l) ∙ ap (is_live now) (sym (at_front slots last i l)) ∙ work.live i (omega arith);
      free = λ i l. ap (is_live before) (sym (at_front slots last i l)) ∙ work.free i (omega arith);
      apart = λ i j l m differ e. work.apart i j (omega arith) (omega arith) differ (at_front slots last i l ∙ e ∙ sym (at_front slots last j m));
      others = λ slot none.
          ⊎_elim
          (λ (same : slot ≡ last.0). ap (is_live after) same ∙ ends.ended ∙ sym (ap (is_live before) same ∙ free_last))
          (λ (other : slot ≢ last.0).
          ends.live slot other
          ∙ work.others slot (λ i l e. ⊎_elim (λ (front : i < length slots). none i front (sym (at_front slots last i front) ∙ e)) (λ (is : i ≡ length slots). other (sym e ∙ ap (slot_at (slots ++ last ∷ [])) is ∙ at_end slots last)) (front_or_end slots last i l)))
          (cases_eq slot last.0);
      count = omega arith;
    }
  where
    long_now : length (slots ++ last ∷ []) ≡ length slots + 1
    long_now = one_longer slots last

    free_last : is_live before last.0 ≡ false
    free_last = let long = long_now in ap (is_live before) (sym (at_end slots last)) ∙ work.free (length slots) (omega arith)

    differs : (i : ℕ) → i < length slots → slot_at slots i ≢ last.0
    differs i l e =
        let long = long_now in
        let other : i ≢ length slots = λ h. absurd (omega arith) in
        work.apart i (length slots) (omega arith) (omega arith) other (at_front slots last i l ∙ e ∙ sym (at_end slots last))

-- no slot
pub working_none : (sets : LiveSets) → Working sets sets []
working_none sets = record {
  kept = kept_same sets;
  live = λ i l. absurd (omega arith);
  free = λ i l. absurd (omega arith);
  apart = λ i j l m. absurd (omega arith);
  others = λ slot none. refl;
  count = omega arith;
}

pub working_owns : (before now : LiveSets) → Working before now [] → Owns before now []
working_owns before now work = record {
  kept = work.kept;
  new = tt;
  live = λ slot. work.others slot (λ i l. absurd (omega arith));
  count = work.count;
}

pub on_ok : {T E : Type 0} (result : Result T E) (P : Type 0) (x : T) → result ≡ Ok x → OnOk result P → P
on_ok result P x is h = subst (λ (r : Result _ _). OnOk r P) is h

pub nothing_none : (sets : LiveSets) → AllNothing sets []
nothing_none sets k l = absurd (omega arith)

-- a call that changes no slot
pub working_same : (before now after : LiveSets) (slots : List SetId) → Working before now slots → KeepsSets now after → AddsNone now after → Working before after slots
working_same before now after slots work kept none = record {
  kept = kept_chain before now after work.kept kept;
  live = λ i l. kept.live (slot_at slots i) (work.live i l);
  free = work.free;
  apart = work.apart;
  others = λ slot out. none.others slot ∙ work.others slot out;
  count = none.count ∙ work.count;
}

pub at_same : (start : Start) (enc now : Encoded) (slots : List SetId) → At start enc slots → now ≡ record enc { sets = now.sets } → KeepsSets enc.sets now.sets → AddsNone enc.sets now.sets → At start now slots
at_same start enc now slots here same kept none = record {
  same = same_chain start.enc enc now here.same same;
  working = working_same start.enc.sets enc.sets now.sets slots here.working kept none;
  long = here.long;
  each = fit_still start enc.sets now.sets slots slots refl (λ k l. kept.sets (slot_at slots k) (here.working.live k l)) here.each;
}

-- the test of the initial states
pub tested : (start : Start) (enc now : Encoded) (slots : List SetId) (result : Result Bool SetErr) → At start enc slots → now ≡ record enc { sets = now.sets } → KeepsSets enc.sets now.sets → AddsNone enc.sets now.sets → IsSets now.sets → (IsErrOf result Full → NoRoom start.width 0 0 enc.sets now.sets)
    → Left start now slots (Stayed start enc.sets now slots) result
tested start enc now slots (Ok covered) here same kept none sound full = record {
  at = at_same start enc now slots here same kept none;
  sound = sound;
  each = λ place l. kept.sets (slot_at slots place) (here.working.live place l);
}
tested start enc now slots (Err e) here same kept none sound full = (
  at_same start enc now slots here same kept none,
  λ is. room_at start enc now slots here 0 0 (omega arith) (omega arith) (full (ap Err is)),
)

pub covered_is : (start : Start) (enc now : Encoded) (slots : List SetId) (place : ℕ) (covered : Bool) → At start enc slots → place < length slots → now ≡ record enc { sets = now.sets } → KeepsSets enc.sets now.sets → AddsNone enc.sets now.sets → IsSets now.sets
    → IsTrue covered ↔ ((values : Values) → set_of enc.sets enc.initial.0 values ≡ true → set_at enc.sets slots place values ≡ true) → covered ≡ list_all (λ state. set_at enc.sets slots place (value_of state)) (initial_states start.task)
covered_is start enc now slots place covered here within same kept none sound is =
    let stays : set_at now.sets slots place ≡ set_at enc.sets slots place = kept.sets (slot_at slots place) (here.working.live place within) in
    inside_is start.task (set_at enc.sets slots place)
    (subst (DependsOnly 0 (fluent_count start.task)) stays (depends start now slots (at_same start enc now slots here same kept none) sound place))
    covered
    (subst (λ (f : Function). IsTrue covered ↔ ((values : Values) → f values ≡ true → set_at enc.sets slots place values ≡ true)) (initial_is start enc slots here) is)

pub covered_answer : (start : Start) (enc now : Encoded) (slots : List SetId) (place : ℕ) (result : Result Bool SetErr) → At start enc slots → place < length slots → now ≡ record enc { sets = now.sets } → KeepsSets enc.sets now.sets → AddsNone enc.sets now.sets → IsSets now.sets
    → IfOk result (λ inside. IsTrue inside ↔ ((values : Values) → set_of enc.sets enc.initial.0 values ≡ true → set_at enc.sets slots place values ≡ true)) → IfOk result (λ covered. covered ≡ list_all (λ state. set_at enc.sets slots place (value_of state)) (initial_states start.task))
covered_answer start enc now slots place (Ok covered) here within same kept none sound is = covered_is start enc now slots place covered here within same kept none sound is
covered_answer start enc now slots place (Err e) here within same kept none sound is = tt

-- where the last slot is ended, the others hold their sets
pub sets_popped : (before now after : LiveSets) (slots : List SetId) (last : SetId) → Working before now (slots ++ last ∷ []) → Releases now after last.0 → (place : ℕ) → place < length slots → set_at after slots place ≡ set_at now (slots ++ last ∷ []) place
sets_popped before now after slots last work ends place l =
    let long : length (slots ++ last ∷ []) ≡ length slots + 1 = one_longer slots last in
    let other : place ≢ length slots = λ h. absurd (omega arith) in
    ends.sets (slot_at slots place) (λ e. work.apart place (length slots) (omega arith) (omega arith) other (at_front slots last place l ∙ e ∙ sym (at_end slots last)))
    ∙ ap (set_of now) (sym (at_front slots last place l))

pub working_ended : (before now : LiveSets) (slots : List SetId) → length slots ≡ 0 → Working before now slots → Owns before now []
working_ended before now [] none work = working_owns before now work
working_ended before now (x ∷ slots) none work = absurd (omega arith)

-- the slot of the goal is live
pub goal_live : (start : Start) (enc : Encoded) (slots : List SetId) (slot : SetId) → At start enc slots → enc.goal ≡ Some slot → IsLive enc.sets slot.0
goal_live start enc slots slot at is = (goal_slot start.task enc slot (made_at start enc slots at) is).2.live
