-- Which states take which action: from one action to the next, and from one round to the next.
use Rattle.std.proofs.Common.{◌≡◌, ◌≢◌, ℕ, ◌+◌, ◌<◌, ◌≤◌, Bool, true, false, not, ◌&&◌, ◌||◌, length, refl, sym, ap, subst, ◌∙◌, ⊎_elim, arith}
use Rattle.std.specs.List.{list_any, range_with_len}
use Rattle.std.proofs.lemmas.Bool.{cases_eq}
use Rattle.list_laws.proofs.Booleans.{and_one, or_assoc, or_none}
use Rattle.dd_ops.specs.Operations.{and_of, minus_of, or_of}
use Rattle.preimage.proofs.Leads.{any_more}
use Rattle.slot_board.specs.Board.{Scene, set_at}
use Rattle.plan_theory.specs.StageSets.{near}
use Rattle.plan_theory.specs.Layers.{must_lead}
use Rattle.plan_theory.proofs.FirstActions.{first_is}
use Rattle.task_core.specs.Cubes.{SetOfVectors}
use Rattle.task_core.specs.Tasks.{action_count}
use Rattle.context_plan.specs.Scenes.{IsGuarded, Moved, SameStates, Start, led_inside, states_at, sys_in}
use Rattle.context_plan.specs.Rounds.{first_lead, turn_by}
use Rattle.context_plan.specs.Steps.{Climbs, FirstTaken, Shared}
use Rattle.context_plan.specs.declared.rounds.Way.TheVariants.{Growing}
use Rattle.context_plan.proofs.SceneSteps.{changed_chain_in, copied_states, joined_states, led_states, met_states, moved_changed_in, moved_in, moved_low, moved_other, moved_worked_in, rest_states, same_length, worked_chain_in, worked_changed_in}

-- no action yet
pub shared_none : (start : Start) (x : Scene) (takers : ℕ) → IsGuarded start x → Shared start x x takers 0
shared_none start x takers ready = record {
  changed = record { ready = ready; kept = λ k high within out. refl };
  near = refl;
  next = refl;
  rest = λ v is. and_one (states_at x 3 v);
  taken = λ a within below. absurd (omega arith);
  later = λ a within from. refl;
}

turned : (r s t : Bool) → ((r && not s) && t) ≡ (r && (t && not s))
turned true true true = refl
turned true true false = refl
turned true false true = refl
turned true false false = refl
turned false s t = refl

left : (r s t : Bool) → ((r && not s) && not (r && (t && not s))) ≡ (r && not (s || t))
left true true t = refl
left true false true = refl
left true false false = refl
left false s t = refl

-- one action more: the states that take it, step by step
module _ (start : Start) (x w one : Scene) (takers a : ℕ) (high : 8 ≤ takers) (fits : takers + action_count start.task ≤ length w.1) (below : a < action_count start.task) (h : Shared start x w takers a)
    (first : Moved start w one 2 (led_inside start w a)) where
  pub share_met : SameStates start (λ v. states_at one 3 v && states_at one 2 v) (first_lead (sys_in start) (states_at x 0) (states_at x 3) a)
  share_met v is =
      ap (λ (f : SetOfVectors). f v && states_at one 2 v) (moved_low start w one 2 _ first 3 (omega arith) (λ e. absurd (omega arith)))
      ∙ ap (λ b. b && states_at one 2 v) (h.rest v is)
      ∙ ap (λ b. (states_at x 3 v && not (list_any (must_lead (sys_in start) (states_at x 0) v) (range_with_len 0 a))) && b)
      (led_states start w one a h.changed.ready first v is ∙ ap (λ (f : SetOfVectors). must_lead (sys_in start) f v a) h.near)
      ∙ turned (states_at x 3 v) (list_any (must_lead (sys_in start) (states_at x 0) v) (range_with_len 0 a)) (must_lead (sys_in start) (states_at x 0) v a)
      ∙ ap (λ b. states_at x 3 v && b) (first_is (must_lead (sys_in start) (states_at x 0) v) (action_count start.task) a below)

  module _ (two : Scene) (second : Moved start one two 2 (and_of (set_at one.0.sets one.1 3) (set_at one.0.sets one.1 2))) where
    share_two : SameStates start (states_at two 2) (first_lead (sys_in start) (states_at x 0) (states_at x 3) a)
    share_two v is = ap (λ (f : SetOfVectors). f v) (met_states start one two 2 3 2 second) ∙ share_met v is

    pub share_joined : SameStates start (λ v. states_at two (takers + a) v || states_at two 2 v) (λ v. states_at x (takers + a) v || first_lead (sys_in start) (states_at x 0) (states_at x 3) a v)
    share_joined v is =
        let e1 : length one.1 ≡ length w.1 = same_length start w one h.changed.ready.at first.at in
        let e2 : length two.1 ≡ length w.1 = same_length start w two h.changed.ready.at second.at in
        ap (λ (f : SetOfVectors). f v || states_at two 2 v)
        (moved_other start one two 2 _ second (takers + a) (omega arith) (λ e. absurd (omega arith))
        ∙ moved_other start w one 2 _ first (takers + a) (omega arith) (λ e. absurd (omega arith))
        ∙ h.later a below (omega arith))
        ∙ ap (λ b. states_at x (takers + a) v || b) (share_two v is)

    module _ (three : Scene) (third : Moved start two three (takers + a) (or_of (set_at two.0.sets two.1 (takers + a)) (set_at two.0.sets two.1 2))) where
      pub share_left : SameStates start (λ v. states_at three 3 v && not (states_at three 2 v)) (λ v. states_at x 3 v && not (list_any (must_lead (sys_in start) (states_at x 0) v) (range_with_len 0 (a + 1))))
      share_left v is =
          ap (λ (f : SetOfVectors). f v && not (states_at three 2 v))
          (moved_low start two three (takers + a) _ third 3 (omega arith) (λ e. absurd (omega arith))
          ∙ moved_low start one two 2 _ second 3 (omega arith) (λ e. absurd (omega arith))
          ∙ moved_low start w one 2 _ first 3 (omega arith) (λ e. absurd (omega arith)))
          ∙ ap (λ b. b && not (states_at three 2 v)) (h.rest v is)
          ∙ ap (λ (f : SetOfVectors). (states_at x 3 v && not (list_any (must_lead (sys_in start) (states_at x 0) v) (range_with_len 0 a))) && not (f v)) (moved_low start two three (takers + a) _ third 2 (omega arith) (λ e. absurd (omega arith)))
          ∙ ap (λ b. (states_at x 3 v && not (list_any (must_lead (sys_in start) (states_at x 0) v) (range_with_len 0 a))) && not b) (share_two v is)
          ∙ ap (λ b. (states_at x 3 v && not (list_any (must_lead (sys_in start) (states_at x 0) v) (range_with_len 0 a))) && not (states_at x 3 v && b)) (sym (first_is (must_lead (sys_in start) (states_at x 0) v) (action_count start.task) a below))
          ∙ left (states_at x 3 v) (list_any (must_lead (sys_in start) (states_at x 0) v) (range_with_len 0 a)) (must_lead (sys_in start) (states_at x 0) v a)
          ∙ ap (λ b. states_at x 3 v && not b) (any_more (must_lead (sys_in start) (states_at x 0) v) a)

-- and then
module _ (start : Start) (x w one two three last : Scene) (takers a : ℕ) (high : 8 ≤ takers) (fits : takers + action_count start.task ≤ length w.1) (below : a < action_count start.task) (h : Shared start x w takers a)
    (first : Moved start w one 2 (led_inside start w a))
    (second : Moved start one two 2 (and_of (set_at one.0.sets one.1 3) (set_at one.0.sets one.1 2)))
    (third : Moved start two three (takers + a) (or_of (set_at two.0.sets two.1 (takers + a)) (set_at two.0.sets two.1 2)))
    (fourth : Moved start three last 3 (minus_of (set_at three.0.sets three.1 3) (set_at three.0.sets three.1 2))) where
  ready_one : IsGuarded start one
  ready_one = moved_in start w one 2 _ h.changed.ready (λ e. absurd (omega arith)) first

  ready_two : IsGuarded start two
  ready_two = moved_in start one two 2 _ ready_one (λ e. absurd (omega arith)) second

  ready_three : IsGuarded start three
  ready_three = moved_in start two three (takers + a) _ ready_two (λ e. absurd (omega arith)) third

  long_one : length one.1 ≡ length w.1
  long_one = same_length start w one h.changed.ready.at first.at

  long_two : length two.1 ≡ length w.1
  long_two = same_length start w two h.changed.ready.at second.at

  long_three : length three.1 ≡ length w.1
  long_three = same_length start w three h.changed.ready.at third.at

  long_last : length last.1 ≡ length w.1
  long_last = same_length start w last h.changed.ready.at fourth.at

  unwritten : (k : ℕ) → k < length w.1 → k ≢ 2 → k ≢ 3 → k ≢ takers + a → states_at last k ≡ states_at w k
  unwritten k within b c d =
      let e1 = long_one in let e2 = long_two in let e3 = long_three in let e4 = long_last in
      moved_other start three last 3 _ fourth k (omega arith) c
      ∙ moved_other start two three (takers + a) _ third k (omega arith) d
      ∙ moved_other start one two 2 _ second k (omega arith) b
      ∙ moved_other start w one 2 _ first k (omega arith) b

  here : SameStates start (states_at last (takers + a)) (λ v. states_at x (takers + a) v || first_lead (sys_in start) (states_at x 0) (states_at x 3) a v)
  here v is =
      let e1 = long_one in let e2 = long_two in let e3 = long_three in let e4 = long_last in
      ap (λ (f : SetOfVectors). f v) (moved_other start three last 3 _ fourth (takers + a) (omega arith) (λ e. absurd (omega arith)))
      ∙ ap (λ (f : SetOfVectors). f v) (joined_states start two three (takers + a) (takers + a) 2 third)
      ∙ share_joined start x w one takers a high fits below h first two second v is

  rest_now : SameStates start (states_at last 3) (λ v. states_at x 3 v && not (list_any (must_lead (sys_in start) (states_at x 0) v) (range_with_len 0 (a + 1))))
  rest_now v is =
      ap (λ (f : SetOfVectors). f v) (rest_states start three last 3 3 2 fourth)
      ∙ share_left start x w one takers a high fits below h first two second three third v is

  pub shared_more : Shared start x last takers (a + 1)
  shared_more = record {
    changed =
        changed_chain_in start x w last takers (takers + action_count start.task) h.changed
        (changed_chain_in start w two last takers (takers + action_count start.task)
        (worked_changed_in start w two takers (takers + action_count start.task) (worked_chain_in start w one two (moved_worked_in start w one 2 _ h.changed.ready first (omega arith)) (moved_worked_in start one two 2 _ ready_one second (omega arith))))
        (changed_chain_in start two three last takers (takers + action_count start.task)
        (moved_changed_in start two three (takers + a) _ ready_two third (omega arith) takers (takers + action_count start.task) (omega arith) (omega arith))
        (worked_changed_in start three last takers (takers + action_count start.task) (moved_worked_in start three last 3 _ ready_three fourth (omega arith)))));
    near = unwritten 0 (omega arith) (λ e. absurd (omega arith)) (λ e. absurd (omega arith)) (λ e. absurd (omega arith)) ∙ h.near;
    next = unwritten 1 (omega arith) (λ e. absurd (omega arith)) (λ e. absurd (omega arith)) (λ e. absurd (omega arith)) ∙ h.next;
    rest = rest_now;
    taken = λ b within less.
        ⊎_elim
        (λ (same : b ≡ a).
        subst (λ k. SameStates start (states_at last (takers + k)) (λ v. states_at x (takers + k) v || first_lead (sys_in start) (states_at x 0) (states_at x 3) k v)) (sym same) here)
        (λ (differs : b ≢ a).
        λ v is.
        ap (λ (f : SetOfVectors). f v) (unwritten (takers + b) (omega arith) (λ e. absurd (omega arith)) (λ e. absurd (omega arith)) (λ e. differs (omega arith)))
        ∙ h.taken b within (omega (arith, differs)) v is)
        (cases_eq b a);
    later = λ b within from.
        unwritten (takers + b) (omega arith) (λ e. absurd (omega arith)) (λ e. absurd (omega arith)) (λ e. absurd (omega arith))
        ∙ h.later b within (omega arith);
  }

pub shared_all : (start : Start) (x y : Scene) (takers n : ℕ) → n ≡ action_count start.task → Shared start x y takers n → Shared start x y takers (action_count start.task)
shared_all start x y takers n e h = subst (Shared start x y takers) e h

-- a round that begins with a copy of the first states
pub climbs_none : (start : Start) (x y : Scene) (takers : ℕ) → 8 ≤ takers → takers + action_count start.task ≤ length x.1 → IsGuarded start x → Moved start x y 1 (set_at x.0.sets x.1 0) → Climbs start x y takers 0
climbs_none start x y takers high fits ready m =
    let long : length y.1 ≡ length x.1 = same_length start x y ready.at m.at in
    record {
      changed = worked_changed_in start x y takers (takers + action_count start.task) (moved_worked_in start x y 1 _ ready m (omega arith));
      near = moved_low start x y 1 _ m 0 (omega arith) (λ e. absurd (omega arith));
      next = λ v is. ap (λ (f : SetOfVectors). f v) (copied_states start x y 1 0 m) ∙ or_none (states_at x 0 v);
      taken = λ a within below. absurd (omega arith);
      later = λ a within from. moved_other start x y 1 _ m (takers + a) (omega arith) (λ e. absurd (omega arith));
    }

-- where the action leads from states that are joined already, it has none that are new
pub never_new : (n s t : Bool) → (t ≡ true → (n || s) ≡ true) → false ≡ (not n && (t && not s))
never_new true s t up = refl
never_new false s false up = refl
never_new false true true up = refl
never_new false false true up = up refl

new_ones : (r s t : Bool) → (t && not (r || s)) ≡ (not r && (t && not s))
new_ones true s true = refl
new_ones true s false = refl
new_ones false s t = refl

-- one action more: the states that are found, step by step
module _ (start : Start) (x w one : Scene) (takers a : ℕ) (high : 8 ≤ takers) (fits : takers + action_count start.task ≤ length w.1) (below : a < action_count start.task) (h : Climbs start x w takers a)
    (first : Moved start w one 2 (led_inside start w a)) where
  pub climb_hit : SameStates start (states_at one 2) (λ v. must_lead (sys_in start) (states_at x 0) v a)
  climb_hit v is = led_states start w one a h.changed.ready first v is ∙ ap (λ (f : SetOfVectors). must_lead (sys_in start) f v a) h.near

  module _ (two : Scene) (second : Moved start one two 4 (minus_of (set_at one.0.sets one.1 2) (set_at one.0.sets one.1 1))) where
    -- those of them that are new take the action
    climb_new : SameStates start (states_at two 4) (first_lead (sys_in start) (states_at x 0) (λ u. not (states_at x 0 u)) a)
    climb_new v is =
        ap (λ (f : SetOfVectors). f v) (rest_states start one two 4 2 1 second)
        ∙ ap (λ (f : SetOfVectors). states_at one 2 v && not (f v)) (moved_low start w one 2 _ first 1 (omega arith) (λ e. absurd (omega arith)))
        ∙ ap (λ b. b && not (states_at w 1 v)) (climb_hit v is)
        ∙ ap (λ b. must_lead (sys_in start) (states_at x 0) v a && not b) (h.next v is)
        ∙ new_ones (states_at x 0 v) (list_any (must_lead (sys_in start) (states_at x 0) v) (range_with_len 0 a)) (must_lead (sys_in start) (states_at x 0) v a)
        ∙ ap (λ b. not (states_at x 0 v) && b) (first_is (must_lead (sys_in start) (states_at x 0) v) (action_count start.task) a below)

    pub climb_joined : SameStates start (λ v. states_at two (takers + a) v || states_at two 4 v) (λ v. states_at x (takers + a) v || first_lead (sys_in start) (states_at x 0) (λ u. not (states_at x 0 u)) a v)
    climb_joined v is =
        let e1 : length one.1 ≡ length w.1 = same_length start w one h.changed.ready.at first.at in
        let e2 : length two.1 ≡ length w.1 = same_length start w two h.changed.ready.at second.at in
        ap (λ (f : SetOfVectors). f v || states_at two 4 v)
        (moved_other start one two 4 _ second (takers + a) (omega arith) (λ e. absurd (omega arith))
        ∙ moved_other start w one 2 _ first (takers + a) (omega arith) (λ e. absurd (omega arith))
        ∙ h.later a below (omega arith))
        ∙ ap (λ b. states_at x (takers + a) v || b) (climb_new v is)

    module _ (three : Scene) (third : Moved start two three (takers + a) (or_of (set_at two.0.sets two.1 (takers + a)) (set_at two.0.sets two.1 4))) where
      pub climb_widened : SameStates start (λ v. states_at three 1 v || states_at three 2 v) (turn_by Growing (sys_in start) (states_at x 0) (a + 1))
      climb_widened v is =
          ap (λ (f : SetOfVectors). f v || states_at three 2 v)
          (moved_low start two three (takers + a) _ third 1 (omega arith) (λ e. absurd (omega arith))
          ∙ moved_low start one two 4 _ second 1 (omega arith) (λ e. absurd (omega arith))
          ∙ moved_low start w one 2 _ first 1 (omega arith) (λ e. absurd (omega arith)))
          ∙ ap (λ (f : SetOfVectors). states_at w 1 v || f v)
          (moved_low start two three (takers + a) _ third 2 (omega arith) (λ e. absurd (omega arith))
          ∙ moved_low start one two 4 _ second 2 (omega arith) (λ e. absurd (omega arith)))
          ∙ ap (λ b. states_at w 1 v || b) (climb_hit v is)
          ∙ ap (λ b. b || must_lead (sys_in start) (states_at x 0) v a) (h.next v is)
          ∙ or_assoc (states_at x 0 v) (list_any (must_lead (sys_in start) (states_at x 0) v) (range_with_len 0 a)) (must_lead (sys_in start) (states_at x 0) v a)
          ∙ ap (λ b. states_at x 0 v || b) (any_more (must_lead (sys_in start) (states_at x 0) v) a)

-- and then
module _ (start : Start) (x w one two three last : Scene) (takers a : ℕ) (high : 8 ≤ takers) (fits : takers + action_count start.task ≤ length w.1) (below : a < action_count start.task) (h : Climbs start x w takers a)
    (first : Moved start w one 2 (led_inside start w a))
    (second : Moved start one two 4 (minus_of (set_at one.0.sets one.1 2) (set_at one.0.sets one.1 1)))
    (third : Moved start two three (takers + a) (or_of (set_at two.0.sets two.1 (takers + a)) (set_at two.0.sets two.1 4)))
    (fourth : Moved start three last 1 (or_of (set_at three.0.sets three.1 1) (set_at three.0.sets three.1 2))) where
  first_ready : IsGuarded start one
  first_ready = moved_in start w one 2 _ h.changed.ready (λ e. absurd (omega arith)) first

  second_ready : IsGuarded start two
  second_ready = moved_in start one two 4 _ first_ready (λ e. absurd (omega arith)) second

  third_ready : IsGuarded start three
  third_ready = moved_in start two three (takers + a) _ second_ready (λ e. absurd (omega arith)) third

  steps_one : length one.1 ≡ length w.1
  steps_one = same_length start w one h.changed.ready.at first.at

  steps_two : length two.1 ≡ length w.1
  steps_two = same_length start w two h.changed.ready.at second.at

  steps_three : length three.1 ≡ length w.1
  steps_three = same_length start w three h.changed.ready.at third.at

  steps_last : length last.1 ≡ length w.1
  steps_last = same_length start w last h.changed.ready.at fourth.at

  unmoved : (k : ℕ) → k < length w.1 → k ≢ 1 → k ≢ 2 → k ≢ 4 → k ≢ takers + a → states_at last k ≡ states_at w k
  unmoved k within b c d e =
      let e1 = steps_one in let e2 = steps_two in let e3 = steps_three in let e4 = steps_last in
      moved_other start three last 1 _ fourth k (omega arith) b
      ∙ moved_other start two three (takers + a) _ third k (omega arith) e
      ∙ moved_other start one two 4 _ second k (omega arith) d
      ∙ moved_other start w one 2 _ first k (omega arith) c

  taken_here : SameStates start (states_at last (takers + a)) (λ v. states_at x (takers + a) v || first_lead (sys_in start) (states_at x 0) (λ u. not (states_at x 0 u)) a v)
  taken_here v is =
      let e1 = steps_one in let e2 = steps_two in let e3 = steps_three in let e4 = steps_last in
      ap (λ (f : SetOfVectors). f v) (moved_other start three last 1 _ fourth (takers + a) (omega arith) (λ e. absurd (omega arith)))
      ∙ ap (λ (f : SetOfVectors). f v) (joined_states start two three (takers + a) (takers + a) 4 third)
      ∙ climb_joined start x w one takers a high fits below h first two second v is

  next_now : SameStates start (states_at last 1) (turn_by Growing (sys_in start) (states_at x 0) (a + 1))
  next_now v is =
      ap (λ (f : SetOfVectors). f v) (joined_states start three last 1 1 2 fourth)
      ∙ climb_widened start x w one takers a high fits below h first two second three third v is

  pub climbs_more : Climbs start x last takers (a + 1)
  climbs_more = record {
    changed =
        changed_chain_in start x w last takers (takers + action_count start.task) h.changed
        (changed_chain_in start w two last takers (takers + action_count start.task)
        (worked_changed_in start w two takers (takers + action_count start.task) (worked_chain_in start w one two (moved_worked_in start w one 2 _ h.changed.ready first (omega arith)) (moved_worked_in start one two 4 _ first_ready second (omega arith))))
        (changed_chain_in start two three last takers (takers + action_count start.task)
        (moved_changed_in start two three (takers + a) _ second_ready third (omega arith) takers (takers + action_count start.task) (omega arith) (omega arith))
        (worked_changed_in start three last takers (takers + action_count start.task) (moved_worked_in start three last 1 _ third_ready fourth (omega arith)))));
    near = unmoved 0 (omega arith) (λ e. absurd (omega arith)) (λ e. absurd (omega arith)) (λ e. absurd (omega arith)) (λ e. absurd (omega arith)) ∙ h.near;
    next = next_now;
    taken = λ b within less.
        ⊎_elim
        (λ (same : b ≡ a).
        subst (λ k. SameStates start (states_at last (takers + k)) (λ v. states_at x (takers + k) v || first_lead (sys_in start) (states_at x 0) (λ u. not (states_at x 0 u)) k v)) (sym same) taken_here)
        (λ (differs : b ≢ a).
        λ v is.
        ap (λ (f : SetOfVectors). f v) (unmoved (takers + b) (omega arith) (λ e. absurd (omega arith)) (λ e. absurd (omega arith)) (λ e. absurd (omega arith)) (λ e. differs (omega arith)))
        ∙ h.taken b within (omega (arith, differs)) v is)
        (cases_eq b a);
    later = λ b within from.
        unmoved (takers + b) (omega arith) (λ e. absurd (omega arith)) (λ e. absurd (omega arith)) (λ e. absurd (omega arith)) (λ e. absurd (omega arith))
        ∙ h.later b within (omega arith);
  }

-- of the states at a place each takes the first action that leads into those at another
pub first_taken : (start : Start) (x one two y : Scene) (near rest takers : ℕ) → 8 ≤ near → 8 ≤ rest → near < takers → rest < takers → takers + action_count start.task ≤ length x.1 → IsGuarded start x
    → Moved start x one 0 (set_at x.0.sets x.1 near) → Moved start one two 3 (set_at one.0.sets one.1 rest) → Shared start two y takers (action_count start.task) → FirstTaken start x y near rest takers
first_taken start x one two y near rest takers high also apart beside fits ready first second h =
    let sys = sys_in start in
    let long : length one.1 ≡ length x.1 = same_length start x one ready.at first.at in
    let longer : length two.1 ≡ length x.1 = same_length start x two ready.at second.at in
    let near_is : states_at two 0 ≡ states_at x near = moved_low start one two 3 _ second 0 (omega arith) (λ e. absurd (omega arith)) ∙ copied_states start x one 0 near first in
    let rest_is : states_at two 3 ≡ states_at x rest = copied_states start one two 3 rest second ∙ moved_other start x one 0 _ first rest (omega arith) (λ e. absurd (omega arith)) in
    let first_ready = moved_in start x one 0 _ ready (λ e. absurd (omega arith)) first in
    record {
      changed =
          changed_chain_in start x two y takers (takers + action_count start.task)
          (worked_changed_in start x two takers (takers + action_count start.task) (worked_chain_in start x one two (moved_worked_in start x one 0 _ ready first (omega arith)) (moved_worked_in start one two 3 _ first_ready second (omega arith)))) h.changed;
      taken = λ a below v is.
          h.taken a below below v is
          ∙ ap (λ (f : SetOfVectors). f v || first_lead sys (states_at two 0) (states_at two 3) a v)
          (moved_other start one two 3 _ second (takers + a) (omega arith) (λ e. absurd (omega arith)) ∙ moved_other start x one 0 _ first (takers + a) (omega arith) (λ e. absurd (omega arith)))
          ∙ ap (λ (f : SetOfVectors). states_at x (takers + a) v || first_lead sys f (states_at two 3) a v) near_is
          ∙ ap (λ (f : SetOfVectors). states_at x (takers + a) v || first_lead sys (states_at x near) f a v) rest_is;
    }
