-- An action is passed over: what stays where nothing would be added, or taken.
use Rattle.std.proofs.Common.{◌≡◌, ◌≢◌, ℕ, ◌+◌, ◌<◌, ◌≤◌, Bool, true, false, not, ◌&&◌, ◌||◌, List, [], ◌∷◌, length, refl, sym, ap, subst, ◌∙◌, ⊎_elim, arith}
use Rattle.std.specs.List.{list_all, list_any, range_with_len}
use Rattle.std.proofs.lemmas.Bool.{and_parts, cases_eq, false≢true, true≢false}
use Rattle.dd_nodes.specs.Subfunctions.{Function}
use Rattle.dd_ops.specs.Operations.{and_of, minus_of}
use Rattle.dd_sets.specs.LiveSets.{nothing, set_of}
use Rattle.dd_sets.specs.declared.slots.SetId.{SetId}
use Rattle.dd_sets.proofs.SetLemmas.{inside_to}
use Rattle.encode_task.specs.Slots.{exec_slot}
use Rattle.encode_task.specs.TaskSets.{exec_set}
use Rattle.preimage.proofs.FrameSteps.{exec_holds}
use Rattle.preimage.specs.Preimages.{every_outcome_in, strong_preimage}
use Rattle.slot_board.proofs.BoardSlots.{made_at}
use Rattle.slot_board.specs.Board.{Scene, set_at}
use Rattle.list_laws.proofs.Booleans.{or_never, or_same}
use Rattle.list_laws.proofs.Elements.{list_any-witness}
use Rattle.plan_theory.proofs.FirstActions.{first_is}
use Rattle.plan_theory.proofs.Weak.{HasOutcome-Exec}
use Rattle.preimage.proofs.Leads.{any_more}
use Rattle.preimage.proofs.OutcomeLemmas.{strong_leads}
use Rattle.task_core.proofs.TaskSystem.{exec_executable}
use Rattle.plan_theory.specs.Layers.{must_lead}
use Rattle.task_core.specs.Cubes.{SetOfVectors}
use Rattle.task_core.specs.Systems.{IsVector}
use Rattle.task_core.specs.Tasks.{action_count, next_states}
use Rattle.task_core.specs.Vectors.{Vector, value_of}
use Rattle.context_plan.specs.Scenes.{IsGuarded, Moved, SameStates, Start, WorkedIn, board_of, led_inside, states_at, sys_in, sys_of}
use Rattle.context_plan.specs.Rounds.{first_lead, hits_by, turn_by}
use Rattle.context_plan.specs.Steps.{AddsHits, Climbs, HitsAmong, IsSpent, OnlyHits, Shared}
use Rattle.context_plan.specs.declared.rounds.Way.{Way}
use Rattle.context_plan.specs.declared.rounds.Way.TheVariants.{Growing, Shrinking}
use Rattle.context_plan.proofs.RoundSteps.{turned_more}
use Rattle.context_plan.proofs.SceneSteps.{changed_chain_in, led_states, low, moved_low, moved_other, moved_in, same_length, worked_changed_in}
use Rattle.context_plan.proofs.Guards.{must_inside}
use Rattle.context_plan.proofs.TakerSteps.{never_new}

-- one place was written, or none
pub same_hits : (start : Start) (x : Scene) → IsGuarded start x → OnlyHits start x x
same_hits start x ready = record { ready = ready; kept = λ k within differs apart. refl }

pub moved_hits : (start : Start) (x m y : Scene) (f g : Function) → IsGuarded start x → Moved start x m 2 f → Moved start m y 4 g → OnlyHits start x y
moved_hits start x m y f g ready first second = record {
  ready = moved_in start m y 4 g (moved_in start x m 2 f ready (λ e. absurd (omega arith)) first) (λ e. absurd (omega arith)) second;
  kept = λ k within differs apart.
      let long : length y.1 ≡ length m.1 = same_length start m y first.at second.at in
      moved_other start m y 4 g second k within apart ∙ moved_other start x m 2 f first k (omega arith) differs;
}

hits_worked : (start : Start) (x y : Scene) → OnlyHits start x y → WorkedIn start x y
hits_worked start x y h = record { ready = h.ready; kept = λ k high within. h.kept k within (λ e. absurd (omega arith)) (λ e. absurd (omega arith)) }

-- a set is among another where it is its part there
meet_all : (x y : Bool) → (x && y) ≡ x → x ≡ true → y ≡ true
meet_all true y e h = e
meet_all false y e h = absurd (false≢true h)

all_true : (xs : List Vector) → list_all (λ (t : Vector). true) xs ≡ true
all_true [] = refl
all_true (x ∷ xs) = all_true xs

-- an action leads into a set only from where it can be executed
pub leads_among : (start : Start) (x m y : Scene) (a : ℕ) (exec : SetId) → IsGuarded start x → a < length x.0.actions → exec ≡ exec_slot x.0 a
    → Moved start x m 2 (set_of x.0.sets exec.0) → Moved start m y 4 (and_of (set_at m.0.sets m.1 2) (set_at m.0.sets m.1 1)) → set_at y.0.sets y.1 4 ≡ set_at y.0.sets y.1 2 → IsSpent Growing start (states_at x 1) a
leads_among start x m y a exec ready within is_exec first second same set v is leads =
    let task = start.task in
    let holds = (exec_holds task x.0 a exec (made_at (board_of start) x.0 x.1 ready.at) within is_exec).holds in
    let led : must_lead (sys_of start) set v a ≡ true = (and_parts (start.guard v) (must_lead (sys_of start) set v a) (sym (must_inside (sys_of start) start.guard set v a) ∙ leads)).1 in
    let some = list_any-witness set (next_states task v a) (and_parts (list_any set (next_states task v a)) (list_all set (next_states task v a)) led).0 in
    let can = exec_executable task v a (HasOutcome-Exec (sys_of start) v a some.0 some.1) in
    let strong : strong_preimage task a (λ values. true) (value_of v) ≡ true = strong_leads task a (λ values. true) v (λ s t within. refl) ∙ ap (λ b. b && list_all (λ (t : Vector). true) (next_states task v a)) can ∙ all_true (next_states task v a) in
    let exec_is = (and_parts (exec_set task a (value_of v)) (every_outcome_in task a (λ values. true) (value_of v)) strong).0 in
    meet_all (exec_set task a (value_of v)) (states_at x 1 v)
    (ap (λ (g : Function). g (value_of v) && states_at x 1 v) (sym holds ∙ sym first.here)
    ∙ ap (λ (g : _). states_at m 2 v && g v) (sym (moved_low start x m 2 _ first 1 (omega arith) (λ e. absurd (omega arith))))
    ∙ ap (λ (g : Function). g (value_of v)) (sym second.here ∙ same)
    ∙ ap (λ (g : _). g v) (moved_low start m y 4 _ second 2 (omega arith) (λ e. absurd (omega arith)))
    ∙ ap (λ (g : Function). g (value_of v)) (first.here ∙ holds)) exec_is

-- a round that shrinks adds states that it began with, and one that grows those that the action
-- leads from
pub adds_among : (start : Start) (x : Scene) (a : ℕ) → set_at x.0.sets x.1 1 ≡ set_at x.0.sets x.1 0 → HitsAmong Shrinking start x a
adds_among start x a same v is hit =
    ap (λ (f : Function). f (value_of v)) same ∙ (and_parts (states_at x 0 v) (must_lead (sys_in start) (states_at x 0) v a) hit).0

pub leads_hits : (start : Start) (x : Scene) (a : ℕ) → IsSpent Growing start (states_at x 1) a → HitsAmong Growing start x a
leads_hits start x a among v is hit = among (states_at x 0) v is hit

pub adds_same : (way : Way) (start : Start) (x y : Scene) (a : ℕ) → OnlyHits start x y → HitsAmong way start x a → AddsHits way start x y a
adds_same way start x y a h among = record {
  worked = hits_worked start x y h;
  near = h.kept 0 (low start y h.ready.at 0 (omega arith)) (λ e. absurd (omega arith)) (λ e. absurd (omega arith));
  next = λ v is.
      ap (λ (f : _). f v) (h.kept 1 (low start y h.ready.at 1 (omega arith)) (λ e. absurd (omega arith)) (λ e. absurd (omega arith)))
      ∙ or_same (states_at x 1 v) (hits_by way (states_at x 0) (λ u. must_lead (sys_in start) (states_at x 0) u a) v) (among v is);
}

-- the same after a change that no round sees
pub adds_after : (way : Way) (start : Start) (x y z : Scene) (a : ℕ) → OnlyHits start x y → AddsHits way start y z a → AddsHits way start x z a
adds_after way start x y z a h adds =
    let near_is : states_at y 0 ≡ states_at x 0 = h.kept 0 (low start y h.ready.at 0 (omega arith)) (λ e. absurd (omega arith)) (λ e. absurd (omega arith)) in
    record {
      worked = record {
        ready = adds.worked.ready;
        kept = λ k high within.
            let long : length z.1 ≡ length y.1 = same_length start y z h.ready.at adds.worked.ready.at in
            adds.worked.kept k high within ∙ h.kept k (omega arith) (λ e. absurd (omega arith)) (λ e. absurd (omega arith));
      };
      near = adds.near ∙ near_is;
      next = λ v is.
          adds.next v is
          ∙ ap (λ (f : _). f v || hits_by way (states_at y 0) (λ u. must_lead (sys_in start) (states_at y 0) u a) v) (h.kept 1 (low start y h.ready.at 1 (omega arith)) (λ e. absurd (omega arith)) (λ e. absurd (omega arith)))
          ∙ ap (λ (f : _). states_at x 1 v || hits_by way f (λ u. must_lead (sys_in start) f u a) v) near_is;
    }

-- an action that adds nothing to a round
module _ (start : Start) (x y : Scene) (takers : ℕ) where
  abbrev pub AddsNone : ℕ → Type 0
  AddsNone a = (v : Vector) → IsVector (sys_in start) v → must_lead (sys_in start) (states_at x 0) v a ≡ true → turn_by Growing (sys_in start) (states_at x 0) a v ≡ true

  taken_none : (a : ℕ) → a < action_count start.task → AddsNone a → Climbs start x y takers a → SameStates start (states_at y (takers + a)) (λ v. states_at x (takers + a) v || first_lead (sys_in start) (states_at x 0) (λ u. not (states_at x 0 u)) a v)
  taken_none a below none h v is =
      ap (λ (f : SetOfVectors). f v) (h.later a below (omega arith))
      ∙ or_never (states_at x (takers + a) v) (first_lead (sys_in start) (states_at x 0) (λ u. not (states_at x 0 u)) a v)
      (never_new (states_at x 0 v) (list_any (must_lead (sys_in start) (states_at x 0) v) (range_with_len 0 a)) (must_lead (sys_in start) (states_at x 0) v a) (none v is)
      ∙ ap (λ b. not (states_at x 0 v) && b) (first_is (must_lead (sys_in start) (states_at x 0) v) (action_count start.task) a below))

  pub climbs_once : (a : ℕ) → a < action_count start.task → AddsNone a → Climbs start x y takers a → Climbs start x y takers (a + 1)
  climbs_once a below none h = record {
    changed = h.changed;
    near = h.near;
    next = λ v is.
        h.next v is
        ∙ or_same (turn_by Growing (sys_in start) (states_at x 0) a v) (must_lead (sys_in start) (states_at x 0) v a) (none v is)
        ∙ turned_more Growing (sys_in start) (states_at x 0) a v;
    taken = λ b within less.
        ⊎_elim
        (λ (same : b ≡ a).
        subst (λ k. SameStates start (states_at y (takers + k)) (λ v. states_at x (takers + k) v || first_lead (sys_in start) (states_at x 0) (λ u. not (states_at x 0 u)) k v)) (sym same) (taken_none a below none h))
        (λ (differs : b ≢ a). h.taken b within (omega (arith, differs)))
        (cases_eq b a);
    later = λ b within from. h.later b within (omega arith);
  }

-- a round as far as the first actions have it
module _ (start : Start) (x w y : Scene) (takers a : ℕ) (high : 8 ≤ takers) (fits : takers + action_count start.task ≤ length w.1) (climbs : Climbs start x w takers a) (h : OnlyHits start w y) where
  same_long : length y.1 ≡ length w.1
  same_long = same_length start w y climbs.changed.ready.at h.ready.at

  place_kept : (k : ℕ) → k < length w.1 → 8 ≤ k → states_at y k ≡ states_at w k
  place_kept k within above = let e = same_long in h.kept k (omega arith) (λ e. absurd (omega arith)) (λ e. absurd (omega arith))

  low_kept : (k : ℕ) → k < 2 → states_at y k ≡ states_at w k
  low_kept k less = h.kept k (low start y h.ready.at k (omega arith)) (λ e. absurd (omega arith)) (λ e. absurd (omega arith))

  pub climbs_after : Climbs start x y takers a
  climbs_after = record {
    changed = changed_chain_in start x w y takers (takers + action_count start.task) climbs.changed (worked_changed_in start w y takers (takers + action_count start.task) (hits_worked start w y h));
    near = low_kept 0 (omega arith) ∙ climbs.near;
    next = λ v is. ap (λ (f : _). f v) (low_kept 1 (omega arith)) ∙ climbs.next v is;
    taken = λ b within less v is. ap (λ (f : _). f v) (place_kept (takers + b) (omega arith) (omega arith)) ∙ climbs.taken b within less v is;
    later = λ b within from. place_kept (takers + b) (omega arith) (omega arith) ∙ climbs.later b within from;
  }

  pub climbs_same : a < action_count start.task → ((v : Vector) → IsVector (sys_in start) v → must_lead (sys_in start) (states_at x 0) v a ≡ true → states_at w 1 v ≡ true) → Climbs start x y takers (a + 1)
  climbs_same below among = climbs_once start x y takers a below (λ v is leads. sym (climbs.next v is) ∙ among v is leads) climbs_after

-- where an action leads from no new states, none takes it
pub climbs_none_new : (start : Start) (x w one two : Scene) (takers a : ℕ) → 8 ≤ takers → takers + action_count start.task ≤ length w.1 → a < action_count start.task → Climbs start x w takers a → Moved start w one 2 (led_inside start w a)
    → Moved start one two 4 (minus_of (set_at one.0.sets one.1 2) (set_at one.0.sets one.1 1)) → set_at two.0.sets two.1 4 ≡ nothing → Climbs start x two takers (a + 1)
climbs_none_new start x w one two takers a high fits below h first second none =
    climbs_same start x w two takers a high fits h (moved_hits start w one two _ _ h.changed.ready first second) below
    (λ v is leads.
    inside_to (states_at one 2 v) (states_at w 1 v)
    (ap (λ (g : SetOfVectors). states_at one 2 v && not (g v)) (sym (moved_low start w one 2 _ first 1 (omega arith) (λ e. absurd (omega arith))))
    ∙ ap (λ (g : Function). g (value_of v)) (sym second.here ∙ none))
    (led_states start w one a h.changed.ready first v is ∙ ap (λ (f : SetOfVectors). must_lead (sys_in start) f v a) h.near ∙ leads))

-- where no state is without an action, none takes one more
module _ (start : Start) (x w : Scene) (takers a : ℕ) (below : a < action_count start.task) (h : Shared start x w takers a) (none : set_at w.0.sets w.1 3 ≡ nothing) where
  rest_none : (v : Vector) → IsVector (sys_in start) v → (states_at x 3 v && not (list_any (must_lead (sys_in start) (states_at x 0) v) (range_with_len 0 a))) ≡ false
  rest_none v is = sym (h.rest v is) ∙ ap (λ (f : Function). f (value_of v)) none

  gone : (r s t : Bool) → (r && not s) ≡ false → (r && not s) ≡ (r && not (s || t))
  gone true true t e = refl
  gone true false t e = absurd (true≢false e)
  gone false s t e = refl

  no_first : (r s t : Bool) → (r && not s) ≡ false → false ≡ (r && (t && not s))
  no_first true true true e = refl
  no_first true true false e = refl
  no_first true false t e = absurd (true≢false e)
  no_first false s t e = refl

  pub shared_same : Shared start x w takers (a + 1)
  shared_same =
      let p = λ (v : Vector). must_lead (sys_in start) (states_at x 0) v in
      record {
        changed = h.changed;
        near = h.near;
        next = h.next;
        rest = λ v is.
            h.rest v is
            ∙ gone (states_at x 3 v) (list_any (p v) (range_with_len 0 a)) (p v a) (rest_none v is)
            ∙ ap (λ b. states_at x 3 v && not b) (any_more (p v) a);
        taken = λ b within less.
            ⊎_elim
            (λ (same : b ≡ a).
            subst (λ k. SameStates start (states_at w (takers + k)) (λ v. states_at x (takers + k) v || first_lead (sys_in start) (states_at x 0) (states_at x 3) k v)) (sym same)
            (λ v is.
            ap (λ (f : _). f v) (h.later a below (omega arith))
            ∙ or_never (states_at x (takers + a) v) (first_lead (sys_in start) (states_at x 0) (states_at x 3) a v)
            (no_first (states_at x 3 v) (list_any (p v) (range_with_len 0 a)) (p v a) (rest_none v is)
            ∙ ap (λ b. states_at x 3 v && b) (first_is (p v) (action_count start.task) a below))))
            (λ (differs : b ≢ a). h.taken b within (omega (arith, differs)))
            (cases_eq b a);
        later = λ b within from. h.later b within (omega arith);
      }
