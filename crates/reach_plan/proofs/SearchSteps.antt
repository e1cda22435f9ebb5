-- One step of the search: what it leaves on the board.
use Rattle.std.proofs.Common.{inl, inr, true≢false, ◌≡◌, ◌≢◌, ℕ, zero, suc, ◌+◌, ◌<◌, ◌≤◌, ◌==◌, get_or, Bool, true, false, not, ◌&&◌, ◌||◌, List, [], ◌∷◌, ◌++◌, length, nat_lt, take, take_all, Option, Some, refl, sym, ap, subst, ◌∙◌, ⊎_elim, arith}
use Rattle.std.specs.Prelude.{slice_index_or, slice_set}
use Rattle.std.specs.List.{list_all, list_any, range_with_len}
use Rattle.std.specs.Option.{option_map_or}
use Rattle.std.proofs.Math.Path.{fun_ext}
use Rattle.std.proofs.lemmas.Bool.{cases_eq, cases_lt, cond-false, cond-true, eq-eqb, lt-ltb, ltb-true, ne_eqb, false_from_ne_true}
use Rattle.std.proofs.lemmas.List.{get_or_past, get_or-set_same, get_or-set_other, length_push, take-append-le}
use Rattle.std.proofs.lemmas.List.Folds.{list_all-append}
use Rattle.list_laws.proofs.Booleans.{and_first, and_second, or_assoc, or_none, or_same, or_true}
use Rattle.dd_nodes.specs.Subfunctions.{DependsOnly, Function}
use Rattle.dd_ops.specs.Operations.{minus_of, or_of}
use Rattle.dd_sets.specs.LiveSets.{nothing, set_of}
use Rattle.dd_nodes.specs.NodeList.{Values}
use Rattle.dd_sets.specs.declared.slots.SetId.{SetId}
use Rattle.encode_task.specs.Slots.{Encoded}
use Rattle.encode_task.specs.TaskSets.{exec_set, goal_set}
use Rattle.encode_task.proofs.MadeLemmas.{goal_slot}
use Rattle.preimage.specs.Laws.{StrongLeadsToAll, WeakLeadsToSome}
use Rattle.preimage.specs.Preimages.{every_outcome_in, some_outcome_in}
use Rattle.preimage.proofs.Leads.{any_more}
use Rattle.slot_board.specs.Board.{At, HasNothing, IsSmall, Moved, Start, Stayed, set_at}
use Rattle.slot_board.proofs.BoardSlots.{depends, made_at}
use Rattle.task_core.specs.Tasks.{action_count, fluent_count, initial_states, system_of}
use Rattle.task_core.specs.Vectors.{all_vectors, value_of}
use Rattle.task_core.specs.declared.classes.Class.{Class}
use Rattle.task_core.specs.declared.classes.Class.TheVariants.{Weak, Strong, Cyclic}
use Rattle.task_core.specs.declared.literals.ActionId.{ActionId}
use Rattle.task_core.specs.declared.conditions.Cond.{Cond}
use Rattle.task_core.specs.declared.tasks.Task.{Task}
use Rattle.task_core.proofs.TaskSystem.{is_system}
use Rattle.plan_theory.specs.Classes.{IsFoundByLayers}
use Rattle.plan_theory.specs.Layers.{covers, layer}
use Rattle.reach_plan.specs.LayerSets.{AreTakers, IsLayerSet, IsRound, class_preimage, grown, taken_by}
use Rattle.reach_plan.specs.Searches.{AreSpent, BeginsRound, FoundLast, FoundNone, HasGrown, HasHits, HasJoined, HasLayer, HasNext, HasRound, IsCovered, IsMore, IsStill}
use Rattle.reach_plan.specs.Steps.{HaveLed, IsWithinRound, Progress, after_step, after_steps, at_goal, goal_layer, is_step_of, untaken, with_set}
use Rattle.slot_board.specs.declared.steps.Step.{Step}
use Rattle.slot_board.specs.declared.steps.Step.TheVariants.{Advance, Grow}
use Rattle.plan_theory.proofs.LeastBounds.{none_once_stable}
use Rattle.reach_plan.specs.WorkingSets.{BoundsReachSets}
use Rattle.reach_plan.proofs.SmallSets.{at_layer, grown_none, within_round}
use Rattle.reach_plan.proofs.SetLayers.{fewer_next, goal_is_layer, missed, next_layer_set, next_takers, none_take, stable_same}
use Rattle.list_laws.proofs.Elements.{list_all-agree}

-- at first no action is done
not_below_zero : (a : ℕ) → nat_lt a 0 ≡ false
not_below_zero a = false_from_ne_true (nat_lt a 0) (λ lt. let l : a < 0 = ltb-true a 0 lt in absurd (omega arith))

taken_none : (class : Class) (task : Task) (f : Function) (h : ℕ → Function) → h ≡ taken_by class task f h 0
taken_none class task f h = fun_ext (λ a. sym (cond-false (nat_lt a 0) (or_of (h a) (minus_of (class_preimage class task a f) (grown class task f a))) (h a) (not_below_zero a)))

pub grown_more : (class : Class) (task : Task) (f : Function) (a : ℕ) → or_of (grown class task f a) (class_preimage class task a f) ≡ grown class task f (a + 1)
grown_more class task f a = fun_ext step
  where
    step : (values : ℕ → Bool) → (grown class task f a values || class_preimage class task a f values) ≡ grown class task f (a + 1) values
    step values =
        let p : ℕ → Bool = λ b. class_preimage class task b f values in
        or_assoc (f values) (list_any p (range_with_len 0 a)) (p a) ∙ ap (λ l. f values || l) (any_more p a)

taken_more : (class : Class) (task : Task) (f : Function) (h : ℕ → Function) (a : ℕ)
    → with_set (taken_by class task f h a) a (or_of (taken_by class task f h a a) (minus_of (class_preimage class task a f) (grown class task f a))) ≡ taken_by class task f h (a + 1)
taken_more class task f h a = fun_ext (λ k. ⊎_elim (here k) (other k) (cases_eq k a))
  where
    new : ℕ → Function
    new k = or_of (h k) (minus_of (class_preimage class task k f) (grown class task f k))

    old_is : (k n : ℕ) → n ≤ k → taken_by class task f h n k ≡ h k
    old_is k n le = cond-false (nat_lt k n) (new k) (h k) (false_from_ne_true (nat_lt k n) (λ lt. let l : k < n = ltb-true k n lt in absurd (omega arith)))

    new_is : (k n : ℕ) → k < n → taken_by class task f h n k ≡ new k
    new_is k n lt = cond-true (nat_lt k n) (new k) (h k) (lt-ltb k n lt)

    here : (k : ℕ) → k ≡ a → with_set (taken_by class task f h a) a (or_of (taken_by class task f h a a) (minus_of (class_preimage class task a f) (grown class task f a))) k ≡ taken_by class task f h (a + 1) k
    here k e =
        cond-true (k == a) (or_of (taken_by class task f h a a) (minus_of (class_preimage class task a f) (grown class task f a))) (taken_by class task f h a k) (eq-eqb k a e)
        ∙ ap (λ (g : Function). or_of g (minus_of (class_preimage class task a f) (grown class task f a))) (old_is a a (omega arith))
        ∙ ap new (sym e) ∙ sym (new_is k (a + 1) (omega arith))

    other : (k : ℕ) → k ≢ a → with_set (taken_by class task f h a) a (or_of (taken_by class task f h a a) (minus_of (class_preimage class task a f) (grown class task f a))) k ≡ taken_by class task f h (a + 1) k
    other k differs =
        cond-false (k == a) (or_of (taken_by class task f h a a) (minus_of (class_preimage class task a f) (grown class task f a))) (taken_by class task f h a k) (ne_eqb k a differs)
        ∙ ⊎_elim (λ (l : k < a). new_is k a l ∙ sym (new_is k (a + 1) (omega arith))) (λ (l : a ≤ k). old_is k a l ∙ sym (old_is k (a + 1) (omega arith))) (cases_lt k a)

-- a place behind the layer is written
module _ (start : Start) (x now : Encoded) (old new : List SetId) (n p : ℕ) (set : Function) (long : length old ≡ n + 4) (at : At start x old) (m : Moved start x.sets old now new p set) where
  within : (k : ℕ) → k < n + 4 → k < length new
  within k l = let a : length old ≡ start.places = at.long in let b : length new ≡ start.places = m.at.long in omega arith

  pub layer_still : n < p → (f : Function) (h : ℕ → Function) → HasLayer start x old n f h → HasLayer start now new n f h
  layer_still behind f h has = record {
    at = m.at;
    sound = m.sound;
    holds_layer = m.others n (within n (omega arith)) (λ e. absurd (omega arith)) ∙ has.holds_layer;
    holds_taken = λ a l. m.others a (within a (omega arith)) (λ e. absurd (omega arith)) ∙ has.holds_taken a l;
  }

  pub next_still : n + 1 < p → (f : Function) (h : ℕ → Function) (g : Function) → HasNext start x old n f h g → HasNext start now new n f h g
  next_still behind f h g has = record {
    by_layer = layer_still (omega arith) f h has.by_layer;
    holds_next = m.others (n + 1) (within (n + 1) (omega arith)) (λ e. absurd (omega arith)) ∙ has.holds_next;
  }

  pub hits_still : n + 2 < p → (f : Function) (h : ℕ → Function) (g hits : Function) → HasHits start x old n f h g hits → HasHits start now new n f h g hits
  hits_still behind f h g hits has = record {
    by_next = next_still (omega arith) f h g has.by_next;
    holds_hits = m.others (n + 2) (within (n + 2) (omega arith)) (λ e. absurd (omega arith)) ∙ has.holds_hits;
    joined = has.joined;
  }

-- the hits of an action
pub hits_found : (start : Start) (x now : Encoded) (old new : List SetId) (n : ℕ) (class : Class) (a : ℕ) (f : Function) (h : ℕ → Function) (g : Function) (lead : Function → Function) → length old ≡ n + 4 → HasNext start x old n f h g → ((s : Function) → lead s ≡ class_preimage class start.task a s)
    → IsSmall start (or_of g (class_preimage class start.task a f)) → Moved start x.sets old now new (n + 2) (lead (set_at x.sets old n)) → HasHits start now new n f h g (class_preimage class start.task a f)
hits_found start x now old new n class a f h g lead long has is small m = record {
  by_next = next_still start x now old new n (n + 2) _ long has.by_layer.at m (omega arith) f h g has;
  holds_hits = m.here ∙ is (set_at x.sets old n) ∙ ap (class_preimage class start.task a) has.by_layer.holds_layer;
  joined = small;
}

-- what an action takes
pub take_one : (start : Start) (x mid now : Encoded) (old half new : List SetId) (n a : ℕ) (f : Function) (h : ℕ → Function) (g hits : Function) → length old ≡ n + 4 → a < n → HasHits start x old n f h g hits
    → Moved start x.sets old mid half (n + 3) (minus_of (set_at x.sets old (n + 2)) (set_at x.sets old (n + 1))) → Moved start mid.sets half now new a (or_of (set_at mid.sets half a) (set_at mid.sets half (n + 3)))
    → HasHits start now new n f (with_set h a (or_of (h a) (minus_of hits g))) g hits
take_one start x mid now old half new n a f h g hits long low has first second =
    let begun = hits_still start x mid old half n (n + 3) _ long has.by_next.by_layer.at first (omega arith) f h g hits has in
    let at = begun.by_next.by_layer.at in
    let half_long : length half ≡ n + 4 = let b : length half ≡ start.places = first.at.long in let d : length old ≡ start.places = has.by_next.by_layer.at.long in omega arith in
    let there : (k : ℕ) → k < n + 4 → k < length new = within start mid now half new n a _ half_long at second in
    let fresh : set_at mid.sets half (n + 3) ≡ minus_of hits g = first.here ∙ ap (λ (s : Function). minus_of s (set_at x.sets old (n + 1))) has.holds_hits ∙ ap (minus_of hits) has.by_next.holds_next in
    let here : set_at now.sets new a ≡ or_of (h a) (minus_of hits g) = second.here ∙ ap (λ (s : Function). or_of s (set_at mid.sets half (n + 3))) (begun.by_next.by_layer.holds_taken a low) ∙ ap (or_of (h a)) fresh in
    record {
      by_next = record {
        by_layer = record {
          at = second.at;
          sound = second.sound;
          holds_layer = second.others n (there n (omega arith)) (λ e. absurd (omega arith)) ∙ begun.by_next.by_layer.holds_layer;
          holds_taken = λ b l.
              ⊎_elim
              (λ (same : b ≡ a). ap (set_at now.sets new) same ∙ here ∙ sym (cond-true (b == a) (or_of (h a) (minus_of hits g)) (h b) (eq-eqb b a same)))
              (λ (differs : b ≢ a). second.others b (there b (omega arith)) differs ∙ begun.by_next.by_layer.holds_taken b l ∙ sym (cond-false (b == a) (or_of (h a) (minus_of hits g)) (h b) (ne_eqb b a differs)))
              (cases_eq b a);
        };
        holds_next = second.others (n + 1) (there (n + 1) (omega arith)) (λ e. absurd (omega arith)) ∙ begun.by_next.holds_next;
      };
      holds_hits = second.others (n + 2) (there (n + 2) (omega arith)) (λ e. absurd (omega arith)) ∙ begun.holds_hits;
      joined = has.joined;
    }

-- the hits are joined to the next layer at its place
pub next_joined : (start : Start) (x now : Encoded) (old new : List SetId) (n : ℕ) (f : Function) (h : ℕ → Function) (g hits : Function) → length old ≡ n + 4 → HasHits start x old n f h g hits → Moved start x.sets old now new (n + 1) (or_of (set_at x.sets old (n + 1)) (set_at x.sets old (n + 2)))
    → HasNext start now new n f h (or_of g hits)
next_joined start x now old new n f h g hits long has m = record {
  by_layer = layer_still start x now old new n (n + 1) _ long has.by_next.by_layer.at m (omega arith) f h has.by_next.by_layer;
  holds_next = m.here ∙ ap (λ (s : Function). or_of s (set_at x.sets old (n + 2))) has.by_next.holds_next ∙ ap (or_of g) has.holds_hits;
}

-- the next layer takes the place of this one
pub advanced : (start : Start) (x now : Encoded) (old new : List SetId) (n : ℕ) (f : Function) (h : ℕ → Function) (g : Function) → length old ≡ n + 4 → HasNext start x old n f h g → Moved start x.sets old now new n (set_at x.sets old (n + 1)) → HasNext start now new n g h g
advanced start x now old new n f h g long has m =
    let there : (k : ℕ) → k < n + 4 → k < length new = within start x now old new n n _ long has.by_layer.at m in
    record {
      by_layer = record {
        at = m.at;
        sound = m.sound;
        holds_layer = m.here ∙ has.holds_next;
        holds_taken = λ a l. m.others a (there a (omega arith)) (λ e. absurd (omega arith)) ∙ has.by_layer.holds_taken a l;
      };
      holds_next = m.others (n + 1) (there (n + 1) (omega arith)) (λ e. absurd (omega arith)) ∙ has.holds_next;
    }

-- a copy of this layer is the next one
pub copied_next : (start : Start) (x now : Encoded) (old new : List SetId) (n : ℕ) (f : Function) (h : ℕ → Function) → length old ≡ n + 4 → HasLayer start x old n f h → Moved start x.sets old now new (n + 1) (set_at x.sets old n) → HasNext start now new n f h f
copied_next start x now old new n f h long has m = record {
  by_layer = layer_still start x now old new n (n + 1) _ long has.at m (omega arith) f h has;
  holds_next = m.here ∙ has.holds_layer;
}

-- one step more
after_more : (class : Class) (task : Task) (here : Progress) (steps : List Step) (step : Step) → after_steps class task here (steps ++ step ∷ []) ≡ after_step class task (after_steps class task here steps) step
after_more class task here [] step = refl
after_more class task here (first ∷ steps) step = after_more class task (after_step class task here first) steps step

within_more : (p : Step → Bool) (steps : List Step) (step : Step) → list_all p steps ≡ true → p step ≡ true → list_all p (steps ++ step ∷ []) ≡ true
within_more p steps step all is = list_all-append p steps (step ∷ []) ∙ ap (λ b. b && (p step && true)) all ∙ ap (λ b. b && true) is

-- and where it leads is within a round
along_more : {top : ℕ} (class : Class) (task : Task) (steps : List Step) (step : Step) → ((i : ℕ) → IsWithinRound class task top (after_steps class task (at_goal task) (take i steps))) → IsWithinRound class task top (after_steps class task (at_goal task) (steps ++ step ∷ []))
    → (i : ℕ) → IsWithinRound class task top (after_steps class task (at_goal task) (take i (steps ++ step ∷ [])))
along_more {top} class task steps step along last i = ⊎_elim
    (λ (low : i < length steps + 1). subst (λ (front : List Step). IsWithinRound class task top (after_steps class task (at_goal task) front)) (sym (take-append-le i steps (step ∷ []) (omega arith))) (along i))
    (λ (high : length steps + 1 ≤ i).
    let long : length (steps ++ step ∷ []) ≡ length steps + 1 = length_push steps step in
    subst (λ (front : List Step). IsWithinRound class task top (after_steps class task (at_goal task) front)) (sym (take_all i (steps ++ step ∷ []) (omega arith))) last)
    (cases_lt i (length steps + 1))

pub led_more : {top : ℕ} (class : Class) (task : Task) (steps : List Step) (here : Progress) (step : Step) → is_step_of (action_count task) step ≡ true → IsWithinRound class task top (after_step class task here step) → HaveLed class task top steps here
    → HaveLed class task top (steps ++ step ∷ []) (after_step class task here step)
led_more {top} class task steps here step is within led = record {
  there = after_more class task (at_goal task) steps step ∙ ap (λ (p : Progress). after_step class task p step) led.there;
  along = along_more class task steps step led.along (subst (IsWithinRound class task top) (sym (after_more class task (at_goal task) steps step ∙ ap (λ (p : Progress). after_step class task p step) led.there)) within);
  within = within_more (is_step_of (action_count task)) steps step led.within is;
}

-- within a round below a rank they are within one below a greater
higher : (class : Class) (task : Task) (top : ℕ) (here : Progress) → IsWithinRound class task top here → IsWithinRound class task (suc top) here
higher class task top here at = record {
  rank = at.rank;
  is_layer = at.is_layer;
  grown_by = at.grown_by;
  few = at.few;
  is_grown = at.is_grown;
  is_taken = λ a within. let is = at.is_taken a within in record { rank = is.rank; low = omega (arith, is.low); takes = is.takes };
}

led_higher : (class : Class) (task : Task) (top : ℕ) (steps : List Step) (here : Progress) → HaveLed class task top steps here → HaveLed class task (suc top) steps here
led_higher class task top steps here led = record { there = led.there; along = λ i. higher class task top _ (led.along i); within = led.within }

-- an action leads into a set from where it can be executed
pub preimage_inside : (class : Class) (task : Task) (a : ℕ) (set : Function) (values : Values) → class_preimage class task a set values ≡ true → exec_set task a values ≡ true
preimage_inside Weak task a set values is = and_first (exec_set task a values) (some_outcome_in task a set values) is
preimage_inside Strong task a set values is = and_first (exec_set task a values) (every_outcome_in task a set values) is
preimage_inside Cyclic task a set values is = and_first (exec_set task a values) (some_outcome_in task a set values) is

-- joined with a part of itself a set is itself
pub joined_part : (g p : Function) → ((values : Values) → p values ≡ true → g values ≡ true) → or_of g p ≡ g
joined_part g p part = fun_ext (λ values. sym (or_same (g values) (p values) (part values)))

-- and what is new of the part is nothing
nothing_new : (x g p : Bool) → (g || p) ≡ g → (x || (p && not g)) ≡ x
nothing_new x true true e = sym (or_none x)
nothing_new x true false e = sym (or_none x)
nothing_new x false false e = sym (or_none x)
nothing_new x false true e = absurd (true≢false e)

with_own : (h : ℕ → Function) (a : ℕ) (set : Function) → set ≡ h a → with_set h a set ≡ h
with_own h a set same = fun_ext (λ k. ⊎_elim
    (λ (e : k ≡ a). cond-true (k == a) set (h k) (eq-eqb k a e) ∙ same ∙ sym (ap h e))
    (λ (differs : k ≢ a). cond-false (k == a) set (h k) (ne_eqb k a differs))
    (cases_eq k a))

taken_same : (class : Class) (task : Task) (f : Function) (h : ℕ → Function) (a : ℕ) → or_of (grown class task f a) (class_preimage class task a f) ≡ grown class task f a → taken_by class task f h a ≡ taken_by class task f h (a + 1)
taken_same class task f h a none =
    let own : or_of (taken_by class task f h a a) (minus_of (class_preimage class task a f) (grown class task f a)) ≡ taken_by class task f h a a =
    fun_ext (λ values. nothing_new (taken_by class task f h a a values) (grown class task f a values) (class_preimage class task a f values) (ap (λ (s : Function). s values) none)) in
    sym (with_own (taken_by class task f h a) a _ own) ∙ taken_more class task f h a

-- one action more
module _ {k : ℕ} (class : Class) (start : Start) (x now : Encoded) (old new : List SetId) (f : Function) (h : ℕ → Function) (a : ActionId) (before after : List Step) (spent : List Bool) (has : HasGrown class start x old k f h a.0 before spent) (within : a.0 < action_count start.task)
    (joined : HasJoined start now new f (grown class start.task f a.0) (class_preimage class start.task a.0 f) a before after) where
  task : Task
  task = start.task

  led_on : HaveLed class start.task (suc k) after (record { layer = f; taken = taken_by class start.task f h (a.0 + 1); next = grown class start.task f (a.0 + 1) })
  led_on = ⊎_elim
      (λ (is : after ≡ before ++ Grow a ∷ []).
      subst (HaveLed class start.task (suc k) after) (λ j. record { layer = f; taken = taken_more class start.task f h a.0 j; next = grown_more class start.task f a.0 j })
      (subst (λ (steps : List Step). HaveLed class start.task (suc k) steps (after_step class start.task (record { layer = f; taken = taken_by class start.task f h a.0; next = grown class start.task f a.0 }) (Grow a))) (sym is)
      (led_more class start.task before _ (Grow a) (lt-ltb a.0 (action_count start.task) within)
      (subst (IsWithinRound class start.task (suc k)) (λ j. record { layer = f; taken = sym (taken_more class start.task f h a.0) j; next = sym (grown_more class start.task f a.0) j })
      (within_round class start.task k f has.known.is_layer h has.known.are_takers (a.0 + 1) (omega arith))) has.led)))
      (λ (same : (after ≡ before) × (or_of (grown class start.task f a.0) (class_preimage class start.task a.0 f) ≡ grown class start.task f a.0)).
      subst (HaveLed class start.task (suc k) after) (λ j. record { layer = f; taken = taken_same class start.task f h a.0 same.1 j; next = (sym same.1 ∙ grown_more class start.task f a.0) j })
      (subst (λ (steps : List Step). HaveLed class start.task (suc k) steps (record { layer = f; taken = taken_by class start.task f h a.0; next = grown class start.task f a.0 })) (sym same.0) has.led))
      joined.noted

  grows : (values : Values) → grown class start.task f a.0 values ≡ true → grown class start.task f (a.0 + 1) values ≡ true
  grows values is = ap (λ (s : Function). s values) (sym (grown_more class start.task f a.0)) ∙ ap (λ b. b || class_preimage class start.task a.0 f values) is

  gains : (values : Values) → class_preimage class start.task a.0 f values ≡ true → grown class start.task f (a.0 + 1) values ≡ true
  gains values is = ap (λ (s : Function). s values) (sym (grown_more class start.task f a.0)) ∙ ap (λ b. grown class start.task f a.0 values || b) is ∙ or_true (grown class start.task f a.0 values)

  next_on : HasNext start now new 0 f untaken (grown class start.task f (a.0 + 1))
  next_on = subst (λ (s : Function). HasNext start now new 0 f untaken s) (grown_more class start.task f a.0) joined.by_next

  -- where the action's mark is as it was
  pub grown_still : HasGrown class start now new k f h (a.0 + 1) after spent
  grown_still = record {
    by_next = next_on;
    known = has.known;
    led = led_on;
    are_spent = record { long = has.are_spent.long; inside = λ b is values exec. grows values (has.are_spent.inside b is values exec) };
  }

  -- where it is written
  pub grown_on : (is_spent : Bool) → (is_spent ≡ true → class_preimage class start.task a.0 f ≡ exec_set start.task a.0) → length (slice_set spent a.0 is_spent) ≡ length spent → HasGrown class start now new k f h (a.0 + 1) after (slice_set spent a.0 is_spent)
  grown_on is_spent all long = record {
    by_next = next_on;
    known = has.known;
    led = led_on;
    are_spent = record { long = long ∙ has.are_spent.long; inside = inside };
  }
    where
      inside : (b : ℕ) → slice_index_or (slice_set spent a.0 is_spent) b false ≡ true → (values : Values) → exec_set start.task b values ≡ true → grown class start.task f (a.0 + 1) values ≡ true
      inside b is values exec = ⊎_elim
          (λ (e : b ≡ a.0).
          let here : is_spent ≡ true = sym (get_or-set_same spent a.0 is_spent false (omega (arith, has.are_spent.long))) ∙ sym (ap (λ (i : ℕ). slice_index_or (slice_set spent a.0 is_spent) i false) e) ∙ is in
          gains values (ap (λ (s : Function). s values) (all here) ∙ sym (ap (λ (i : ℕ). exec_set start.task i values) e) ∙ exec))
          (λ (differs : b ≢ a.0). grows values (has.are_spent.inside b (sym (get_or-set_other spent a.0 b is_spent false differs) ∙ is) values exec))
          (cases_eq b a.0)

-- an action that is spent adds nothing
pub spent_adds_nothing : (class : Class) (task : Task) (f g : Function) (a : ℕ) (spent : List Bool) → AreSpent task g spent → slice_index_or spent a false ≡ true → or_of g (class_preimage class task a f) ≡ g
spent_adds_nothing class task f g a spent are is = joined_part g (class_preimage class task a f) (λ values p. are.inside a is values (preimage_inside class task a f values p))

pub grown_spent : {k : ℕ} (class : Class) (start : Start) (x : Encoded) (slots : List SetId) (f : Function) (h : ℕ → Function) (a : ActionId) (steps : List Step) (spent : List Bool) → HasGrown class start x slots k f h a.0 steps spent → a.0 < action_count start.task
    → slice_index_or spent a.0 false ≡ true → HasGrown class start x slots k f h (a.0 + 1) steps spent
grown_spent {k} class start x slots f h a steps spent has within is =
    let none = spent_adds_nothing class start.task f (grown class start.task f a.0) a.0 spent has.are_spent is in
    grown_still class start x x slots slots f h a steps steps spent has within
    (record { by_next = subst (λ (s : Function). HasNext start x slots 0 f untaken s) (sym none) has.by_next; noted = inr (refl, none) })

-- the hits are joined, whether they are new or not
pub joined_none : (start : Start) (x mid : Encoded) (old half : List SetId) (f g hits : Function) (a : ActionId) (steps : List Step) → length old ≡ 4 → HasHits start x old 0 f untaken g hits → Moved start x.sets old mid half 3 (or_of (set_at x.sets old 1) (set_at x.sets old 2))
    → set_at mid.sets half 3 ≡ set_at mid.sets half 1 → HasJoined start mid half f g hits a steps steps
joined_none start x mid old half f g hits a steps long has first same =
    let begun = hits_still start x mid old half 0 3 _ long has.by_next.by_layer.at first (omega arith) f untaken g hits has in
    let grown : set_at mid.sets half 3 ≡ or_of g hits = first.here ∙ ap (λ (s : Function). or_of s (set_at x.sets old 2)) has.by_next.holds_next ∙ ap (or_of g) has.holds_hits in
    let none : or_of g hits ≡ g = sym grown ∙ same ∙ begun.by_next.holds_next in
    record { by_next = subst (λ (s : Function). HasNext start mid half 0 f untaken s) (sym none) begun.by_next; noted = inr (refl, none) }

pub joined_new : (start : Start) (x mid now : Encoded) (old half new : List SetId) (f g hits : Function) (a : ActionId) (before after : List Step) → length old ≡ 4 → HasHits start x old 0 f untaken g hits → Moved start x.sets old mid half 3 (or_of (set_at x.sets old 1) (set_at x.sets old 2))
    → Moved start mid.sets half now new 1 (set_at mid.sets half 3) → after ≡ before ++ Grow a ∷ [] → HasJoined start now new f g hits a before after
joined_new start x mid now old half new f g hits a before after long has first second noted =
    let begun = hits_still start x mid old half 0 3 _ long has.by_next.by_layer.at first (omega arith) f untaken g hits has in
    let half_long : length half ≡ 4 = let b : length half ≡ start.places = first.at.long in let d : length old ≡ start.places = has.by_next.by_layer.at.long in omega arith in
    let grown : set_at mid.sets half 3 ≡ or_of g hits = first.here ∙ ap (λ (s : Function). or_of s (set_at x.sets old 2)) has.by_next.holds_next ∙ ap (or_of g) has.holds_hits in
    record {
      by_next = record { by_layer = layer_still start mid now half new 0 1 _ half_long begun.by_next.by_layer.at second (omega arith) f untaken begun.by_next.by_layer; holds_next = second.here ∙ grown };
      noted = inl noted;
    }

-- at first the next layer is this one
pub grown_first : {k : ℕ} (class : Class) (start : Start) (x now : Encoded) (old new : List SetId) (f : Function) (h : ℕ → Function) (steps : List Step) (spent : List Bool) → length old ≡ 4 → BeginsRound class start x old k f h steps spent → Moved start x.sets old now new 1 (set_at x.sets old 0) → HasGrown class start now new k f h 0 steps spent
grown_first {k} class start x now old new f h steps spent long begins m = record {
  by_next = subst (λ (s : Function). HasNext start now new 0 f untaken s) (grown_none class start.task f) (copied_next start x now old new 0 f untaken long begins.by_layer m);
  known = begins.known;
  led = subst (HaveLed class start.task (suc k) steps) (λ j. record { layer = f; taken = taken_none class start.task f h j; next = grown_none class start.task f j }) (led_higher class start.task k steps _ begins.led);
  are_spent = subst (λ (s : Function). AreSpent start.task s spent) (grown_none class start.task f) begins.are_spent;
}

-- the test of the initial states leaves the layer
pub layer_stays : (start : Start) (x now : Encoded) (slots : List SetId) (n : ℕ) (f : Function) (h : ℕ → Function) → length slots ≡ n + 4 → Stayed start x.sets now slots → HasLayer start x slots n f h → HasLayer start now slots n f h
layer_stays start x now slots n f h long stayed has = record {
  at = stayed.at;
  sound = stayed.sound;
  holds_layer = stayed.each n (omega arith) ∙ has.holds_layer;
  holds_taken = λ a l. stayed.each a (omega arith) ∙ has.holds_taken a l;
}

pub begins_still : {k : ℕ} (class : Class) (start : Start) (x now : Encoded) (slots : List SetId) (f : Function) (h : ℕ → Function) (steps : List Step) (spent : List Bool) → length slots ≡ 4 → Stayed start x.sets now slots → BeginsRound class start x slots k f h steps spent → BeginsRound class start now slots k f h steps spent
begins_still {k} class start x now slots f h steps spent long stayed begins = record {
  by_layer = layer_stays start x now slots 0 f untaken long stayed begins.by_layer;
  known = begins.known;
  led = begins.led;
  are_spent = begins.are_spent;
}

pub covered_at : (class : Class) (start : Start) (x : Encoded) (slots : List SetId) (k : ℕ) (steps : List Step) (spent : List Bool) (covered : Bool) → HasRound class start x slots k steps spent → covered ≡ list_all (λ state. set_at x.sets slots 0 (value_of state)) (initial_states start.task) → covered ≡ covers class (system_of start.task) k
covered_at class start x slots k steps spent covered has is =
    is
    ∙ list_all-agree (λ state. set_at x.sets slots 0 (value_of state)) (layer class (system_of start.task) k) (initial_states start.task)
    (λ s c. ap (λ (f : Function). f (value_of s)) has.begins.by_layer.holds_layer ∙ has.round.is_layer.agrees s ((is_system start.task).initial s c).vector)

-- one layer more
next_round : WeakLeadsToSome → StrongLeadsToAll → (class : Class) (task : Task) (k : ℕ) (f : Function) (h : ℕ → Function) (actions : ℕ) → IsRound class task k f h → covers class (system_of task) k ≡ false → actions ≡ action_count task
    → DependsOnly 0 (fluent_count task) (grown class task f actions) → IsRound class task (suc k) (grown class task f actions) (taken_by class task f h actions)
next_round weak strong class task k f h actions round short all depends = record {
  is_layer = next_layer_set weak strong task k f class round.is_layer (grown class task f actions) (ap (grown class task f) all) depends;
  are_takers = subst (λ (n : ℕ). AreTakers class task (suc k) (taken_by class task f h n)) (sym all) (next_takers weak strong task k f class round.is_layer h round.are_takers);
  before = λ j low. ⊎_elim (λ (l : j < k). round.before j l) (λ (l : k ≤ j). let e : k ≡ j = omega arith in subst (λ (n : ℕ). covers class (system_of task) n ≡ false) e short) (cases_lt j k);
}

module _ (weak : WeakLeadsToSome) (strong : StrongLeadsToAll) (class : Class) (start : Start) (x : Encoded) (slots : List SetId) (k actions : ℕ) (f : Function) (h : ℕ → Function) (steps : List Step) (spent : List Bool) (round : IsRound class start.task k f h) (short : covers class (system_of start.task) k ≡ false)
    (all : actions ≡ action_count start.task) (has : HasGrown class start x slots k f h actions steps spent) where
  next : IsRound class start.task (suc k) (grown class start.task f actions) (taken_by class start.task f h actions)
  next =
      next_round weak strong class start.task k f h actions round short all
      (subst (DependsOnly 0 (fluent_count start.task)) has.by_next.holds_next (depends start x slots has.by_next.by_layer.at has.by_next.by_layer.sound 1))

  pub is_still : set_at x.sets slots 1 ≡ set_at x.sets slots 0 → IsStill class start x slots k
  is_still same = record {
    at = has.by_next.by_layer.at;
    is_layer = subst (IsLayerSet class start.task k) (sym has.by_next.by_layer.holds_layer) round.is_layer;
    stable = stable_same class start.task k f (grown class start.task f actions) round.is_layer next.is_layer (sym has.by_next.holds_next ∙ same ∙ has.by_next.by_layer.holds_layer);
    short = short;
  }

  pub is_more : (now : Encoded) (new : List SetId) (after : List Step) (before : Function) → before ≡ f → (set_at x.sets slots 1 ≡ set_at x.sets slots 0 → ⊥) → HasLayer start now new 0 (grown class start.task f actions) untaken × (after ≡ steps ++ Advance ∷ []) → IsMore class start before now new k after spent
  is_more now new after before was differ done = record {
    has = record {
      f = grown class start.task f actions;
      h = taken_by class start.task f h actions;
      begins = record {
        by_layer = done.0;
        known = record { wide = has.known.wide; is_layer = next.is_layer; are_takers = next.are_takers };
        led = subst (λ (s : List Step). HaveLed class start.task (suc k) s (record { layer = grown class start.task f actions; taken = taken_by class start.task f h actions; next = grown class start.task f actions })) (sym done.1)
            (led_more class start.task steps (record { layer = f; taken = taken_by class start.task f h actions; next = grown class start.task f actions }) Advance refl
            (at_layer class start.task (suc k) (grown class start.task f actions) (taken_by class start.task f h actions) next.is_layer next.are_takers) has.led);
        are_spent = has.are_spent;
      };
      round = next;
    };
    differs = λ same. differ (has.by_next.holds_next ∙ sym done.0.holds_layer ∙ same ∙ was ∙ sym has.by_next.by_layer.holds_layer);
  }

-- none is spent at first
no_mark : (spent : List Bool) (n : ℕ) → length spent ≡ n → ((a : ℕ) → a < n → slice_index_or spent a false ≡ false) → (a : ℕ) → slice_index_or spent a false ≡ true → ⊥
no_mark spent n long none a is = ⊎_elim
    (λ (low : a < n). true≢false (sym is ∙ none a low))
    (λ (high : n ≤ a). true≢false (sym is ∙ get_or_past spent a false (omega arith)))
    (cases_lt a n)

take_none : (i : ℕ) → take {A = Step} i [] ≡ []
take_none zero = refl
take_none (suc i) = refl

pub first_round : (class : Class) (start : Start) (x now : Encoded) (old new : List SetId) (slot : SetId) (steps : List Step) (spent : List Bool) → BoundsReachSets start.width class start.task → length old ≡ 4 → HasNothing start x old → x.goal ≡ Some slot → steps ≡ [] → length spent ≡ length x.actions
    → ((a : ℕ) → a < length x.actions → slice_index_or spent a false ≡ false) → Moved start x.sets old now new 0 (set_of x.sets slot.0) → HasRound class start now new 0 steps spent
first_round class start x now old new slot steps spent wide long has is no_steps marks none m =
    let goal = goal_slot start.task x slot (made_at start x old has.at) is in
    let held : set_at now.sets new 0 ≡ goal_set start.task goal.0 = m.here ∙ goal.2.holds in
    let layer = goal_is_layer class start.task goal.0 goal.1 (subst (DependsOnly 0 (fluent_count start.task)) held (depends start now new m.at m.sound 0)) in
    let states : goal_layer start.task ≡ goal_set start.task goal.0 = ap (λ (o : Option Cond). option_map_or (goal_set start.task) o nothing) goal.1 in
    record {
      f = goal_set start.task goal.0;
      h = untaken;
      begins = record {
        by_layer = record { at = m.at; sound = m.sound; holds_layer = held; holds_taken = λ a l. absurd (omega arith) };
        known = record { wide = wide; is_layer = layer; are_takers = none_take class start.task };
        led = record {
          along = λ i.
              subst (λ (front : List Step). IsWithinRound class start.task 0 (after_steps class start.task (at_goal start.task) front)) (sym (ap (take i) no_steps ∙ take_none i))
              (subst (λ (s : Function). IsWithinRound class start.task 0 (record { layer = s; taken = untaken; next = s })) (sym states)
              (at_layer class start.task 0 (goal_set start.task goal.0) untaken layer (none_take class start.task)));
          there = ap (after_steps class start.task (at_goal start.task)) no_steps ∙ ap (λ (s : Function). record { layer = s; taken = untaken; next = s }) states;
          within = ap (list_all (is_step_of (action_count start.task))) no_steps;
        };
        are_spent = record { long = marks ∙ (made_at start x old has.at).actions; inside = λ a mark values exec. absurd (no_mark spent (length x.actions) marks none a mark) };
      };
      round = record {
        is_layer = layer;
        are_takers = none_take class start.task;
        before = λ j low. absurd (omega arith);
      };
    }

-- the layer after it misses fewer states
pub fewer_after : (class : Class) (start : Start) (x now : Encoded) (old new : List SetId) (k : ℕ) (s t : List Step) (u v : List Bool) → HasRound class start x old k s u → IsMore class start (set_at x.sets old 0) now new k t v
    → missed (set_at now.sets new 0) (all_vectors now.fluents) < missed (set_at x.sets old 0) (all_vectors x.fluents)
fewer_after class start x now old new k s t u v has more =
    let m = fluent_count start.task in
    let less : missed more.has.f (all_vectors m) < missed has.f (all_vectors m) =
    fewer_next class start.task k has.f more.has.f has.round.is_layer more.has.round.is_layer (λ same. more.differs (more.has.begins.by_layer.holds_layer ∙ same ∙ sym has.begins.by_layer.holds_layer)) in
    let was : missed (set_at x.sets old 0) (all_vectors x.fluents) ≡ missed has.f (all_vectors m) =
    ap (λ (g : Function). missed g (all_vectors x.fluents)) has.begins.by_layer.holds_layer ∙ ap (λ (i : ℕ). missed has.f (all_vectors i)) (made_at start x old has.begins.by_layer.at).fluents in
    let is : missed (set_at now.sets new 0) (all_vectors now.fluents) ≡ missed more.has.f (all_vectors m) =
    ap (λ (g : Function). missed g (all_vectors now.fluents)) more.has.begins.by_layer.holds_layer ∙ ap (λ (i : ℕ). missed more.has.f (all_vectors i)) (made_at start now new more.has.begins.by_layer.at).fluents in
    omega arith

pub found_last : (class : Class) (start : Start) (now : Encoded) (slots : List SetId) (k : ℕ) (steps : List Step) (spent : List Bool) → IsCovered class start now slots k steps spent → FoundLast class start now slots steps
found_last class start now slots k steps spent is = record {
  at = is.has.begins.by_layer.at;
  leads = record {
    layers = k;
    last = record { covered = is.covered; first = is.has.round.before };
    here = record { layer = is.has.f; taken = is.has.h; next = is.has.f };
    led = is.has.begins.led;
    are_takers = is.has.round.are_takers;
  };
}

pub found_none : (class : Class) → IsFoundByLayers class → (start : Start) (now : Encoded) (slots : List SetId) (k : ℕ) → IsStill class start now slots k → FoundNone class start now slots
found_none class by_layers start now slots k still = record {
  at = still.at;
  none = none_once_stable class by_layers (system_of start.task) k (is_system start.task) still.stable still.short;
  rank = k;
  stable = still.stable;
  is_layer = still.is_layer;
}

-- the second pass: the goal's states at first
pub at_first : (start : Start) (x now : Encoded) (old new : List SetId) (n : ℕ) (slot : SetId) → length old ≡ n + 4 → HasNothing start x old → x.goal ≡ Some slot → Moved start x.sets old now new n (set_of x.sets slot.0) → HasLayer start now new n (goal_layer start.task) untaken
at_first start x now old new n slot long has is m =
    let goal = goal_slot start.task x slot (made_at start x old has.at) is in
    let states : goal_layer start.task ≡ goal_set start.task goal.0 = ap (λ (o : Option Cond). option_map_or (goal_set start.task) o nothing) goal.1 in
    record {
      at = m.at;
      sound = m.sound;
      holds_layer = m.here ∙ goal.2.holds ∙ sym states;
      holds_taken = λ a l. m.others a (let b : length new ≡ start.places = m.at.long in let d : length old ≡ start.places = has.at.long in omega arith) (λ e. absurd (omega arith)) ∙ has.holds_nothing a (omega arith);
    }

-- each of the steps is one of the task
pub step_passes : (n : ℕ) (steps : List Step) (i : ℕ) (x : Step) → list_all (is_step_of n) steps ≡ true → i < length steps → is_step_of n (get_or steps i x) ≡ true
step_passes n [] i x all within = absurd (omega arith)
step_passes n (step ∷ steps) zero x all within = and_first (is_step_of n step) (list_all (is_step_of n) steps) all
step_passes n (step ∷ steps) (suc i) x all within = step_passes n steps i x (and_second (is_step_of n step) (list_all (is_step_of n) steps) all) (omega arith)

-- a list of steps and one more
pub after_one_more : (class : Class) (task : Task) (here : Progress) (front rest : List Step) (step : Step) → rest ≡ front ++ step ∷ [] → after_step class task (after_steps class task here front) step ≡ after_steps class task here rest
after_one_more class task here front rest step is = sym (ap (after_steps class task here) is ∙ after_more class task here front step)
