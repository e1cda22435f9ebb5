-- How the sets of states on a board change by each call.
use Rattle.std.proofs.Common.{◌≡◌, ◌≢◌, ℕ, suc, ◌+◌, ◌*◌, ◌<◌, ◌≤◌, not, ◌&&◌, ◌||◌, length, refl, sym, ap, ◌∙◌, inl, inr, ⊎_elim, arith}
use Rattle.std.specs.List.{list_all, list_any}
use Rattle.dd_nodes.specs.Subfunctions.{DependsOnly, Function}
use Rattle.dd_ops.specs.Operations.{and_of, minus_of, or_of}
use Rattle.slot_board.specs.Board.{Scene, led, set_at}
use Rattle.slot_board.specs.declared.board.Outcomes.TheVariants as Outcomes
use Rattle.slot_board.proofs.BoardSlots.{depends}
use Rattle.preimage.specs.Preimages.{strong_preimage}
use Rattle.preimage.proofs.Leads.{strong_agrees}
use Rattle.plan_theory.specs.Safe.{some_must_lead}
use Rattle.plan_theory.specs.Layers.{action_numbers, must_lead}
use Rattle.list_laws.proofs.Elements.{list_all-agree, list_any-agree}
use Rattle.task_core.specs.Cubes.{SetOfVectors}
use Rattle.task_core.specs.Systems.{HasOutcome, IsVector}
use Rattle.task_core.specs.Tasks.{action_count, fluent_count}
use Rattle.task_core.specs.Vectors.{Vector, value_of}
use Rattle.context_plan.specs.Scenes.{Changed, ChangedIn, IsAt, IsGuarded, IsReady, Moved, Outside, SameStates, Start, Worked, WorkedIn, board_of, guarded, led_inside, states_at, sys_in, sys_of}
use Rattle.context_plan.proofs.Guards.{in_system, must_inside}

-- the places of a board
pub same_length : (start : Start) (x y : Scene) → IsAt start x → IsAt start y → length y.1 ≡ length x.1
same_length start x y first second = second.long ∙ sym first.long

pub long_enough : (start : Start) (x : Scene) → IsAt start x → (k : ℕ) → k < 10 + 2 * start.stages → k < length x.1
long_enough start x at k low = go (suc (suc start.stages) * action_count start.task) at.long
  where
    go : (t : ℕ) → length x.1 ≡ 10 + 2 * start.stages + t → k < length x.1
    go t e = omega arith

pub low : (start : Start) (x : Scene) → IsAt start x → (k : ℕ) → k < 10 → k < length x.1
low start x at k less = long_enough start x at k (omega arith)

-- what a condition may need
pub spare_enough : (start : Start) → 196 ≤ action_count start.task + 6 * start.stages + 218
spare_enough start = omega arith

-- a set as its states
abbrev as_states : Function → SetOfVectors
as_states f v = f (value_of v)

-- the place that was written, and the others
pub moved_ready : (start : Start) (x y : Scene) (place : ℕ) (g : Function) → Moved start x y place g → IsReady start y
moved_ready start x y place g m = record { at = m.at; sound = m.sound }

pub moved_here : (start : Start) (x y : Scene) (place : ℕ) (g : Function) → Moved start x y place g → states_at y place ≡ (λ v. g (value_of v))
moved_here start x y place g m = ap as_states m.here

pub moved_other : (start : Start) (x y : Scene) (place : ℕ) (g : Function) → Moved start x y place g → (k : ℕ) → k < length y.1 → k ≢ place → states_at y k ≡ states_at x k
moved_other start x y place g m k within differs = ap as_states (m.others k within differs)

pub moved_low : (start : Start) (x y : Scene) (place : ℕ) (g : Function) → Moved start x y place g → (k : ℕ) → k < 10 → k ≢ place → states_at y k ≡ states_at x k
moved_low start x y place g m k less differs = moved_other start x y place g m k (low start y m.at k less) differs

pub moved_worked : (start : Start) (x y : Scene) (place : ℕ) (g : Function) → Moved start x y place g → place < 8 → Worked start x y
moved_worked start x y place g m less = record {
  ready = moved_ready start x y place g m;
  kept = λ k high within. moved_other start x y place g m k within (λ e. absurd (omega arith));
}

pub moved_changed : (start : Start) (x y : Scene) (place : ℕ) (g : Function) → Moved start x y place g → (from to : ℕ) → from ≤ place → place < to → Changed start x y from to
moved_changed start x y place g m from to first last = record {
  ready = moved_ready start x y place g m;
  kept = λ k high within out. moved_other start x y place g m k within (λ e. ⊎_elim (λ (l : k < from). absurd (omega arith)) (λ (l : to ≤ k). absurd (omega arith)) out);
}

-- one change after another
pub worked_same : (start : Start) (x : Scene) → IsReady start x → Worked start x x
worked_same start x ready = record { ready = ready; kept = λ k high within. refl }

pub worked_chain : (start : Start) (x y z : Scene) → Worked start x y → Worked start y z → Worked start x z
worked_chain start x y z first second = record {
  ready = second.ready;
  kept = λ k high within.
      let same : length z.1 ≡ length y.1 = same_length start y z first.ready.at second.ready.at in
      second.kept k high within ∙ first.kept k high (omega arith);
}

pub changed_chain : (start : Start) (x y z : Scene) (from to : ℕ) → Changed start x y from to → Changed start y z from to → Changed start x z from to
changed_chain start x y z from to first second = record {
  ready = second.ready;
  kept = λ k high within out.
      let same : length z.1 ≡ length y.1 = same_length start y z first.ready.at second.ready.at in
      second.kept k high within out ∙ first.kept k high (omega arith) out;
}

pub worked_changed : (start : Start) (x y : Scene) (from to : ℕ) → Worked start x y → Changed start x y from to
worked_changed start x y from to w = record { ready = w.ready; kept = λ k high within out. w.kept k high within }

pub outside_wider : (a b from to k : ℕ) → from ≤ a → b ≤ to → Outside from to k → Outside a b k
outside_wider a b from to k first last out = ⊎_elim (λ (l : k < from). inl (let l2 : k < a = omega arith in l2)) (λ (l : to ≤ k). inr (let l2 : b ≤ k = omega arith in l2)) out

pub changed_wider : (start : Start) (x y : Scene) (a b from to : ℕ) → from ≤ a → b ≤ to → Changed start x y a b → Changed start x y from to
changed_wider start x y a b from to first last c = record {
  ready = c.ready;
  kept = λ k high within out. c.kept k high within (outside_wider a b from to k first last out);
}

-- the same of places beside the guard, which stays
pub unguarded : (start : Start) (x : Scene) → IsGuarded start x → IsReady start x
unguarded start x ready = record { at = ready.at; sound = ready.sound }

pub moved_in : (start : Start) (x y : Scene) (place : ℕ) (g : Function) → IsGuarded start x → place ≢ 5 → Moved start x y place g → IsGuarded start y
moved_in start x y place g ready other m = record {
  at = m.at;
  sound = m.sound;
  guard = λ v is. ap (λ (f : SetOfVectors). f v) (moved_low start x y place g m 5 (omega arith) (λ e. other (sym e))) ∙ ready.guard v is;
}

pub moved_worked_in : (start : Start) (x y : Scene) (place : ℕ) (g : Function) → IsGuarded start x → Moved start x y place g → place < 5 → WorkedIn start x y
moved_worked_in start x y place g ready m less = record {
  ready = moved_in start x y place g ready (λ e. absurd (omega arith)) m;
  kept = λ k high within. moved_other start x y place g m k within (λ e. absurd (omega arith));
}

pub moved_changed_in : (start : Start) (x y : Scene) (place : ℕ) (g : Function) → IsGuarded start x → Moved start x y place g → 8 ≤ place → (from to : ℕ) → from ≤ place → place < to → ChangedIn start x y from to
moved_changed_in start x y place g ready m high from to first last = record {
  ready = moved_in start x y place g ready (λ e. absurd (omega arith)) m;
  kept = λ k high within out. moved_other start x y place g m k within (λ e. ⊎_elim (λ (l : k < from). absurd (omega arith)) (λ (l : to ≤ k). absurd (omega arith)) out);
}

pub worked_same_in : (start : Start) (x : Scene) → IsGuarded start x → WorkedIn start x x
worked_same_in start x ready = record { ready = ready; kept = λ k high within. refl }

pub worked_chain_in : (start : Start) (x y z : Scene) → WorkedIn start x y → WorkedIn start y z → WorkedIn start x z
worked_chain_in start x y z first second = record {
  ready = second.ready;
  kept = λ k high within.
      let same : length z.1 ≡ length y.1 = same_length start y z first.ready.at second.ready.at in
      second.kept k high within ∙ first.kept k high (omega arith);
}

pub changed_chain_in : (start : Start) (x y z : Scene) (from to : ℕ) → ChangedIn start x y from to → ChangedIn start y z from to → ChangedIn start x z from to
changed_chain_in start x y z from to first second = record {
  ready = second.ready;
  kept = λ k high within out.
      let same : length z.1 ≡ length y.1 = same_length start y z first.ready.at second.ready.at in
      second.kept k high within out ∙ first.kept k high (omega arith) out;
}

pub worked_changed_in : (start : Start) (x y : Scene) (from to : ℕ) → WorkedIn start x y → ChangedIn start x y from to
worked_changed_in start x y from to w = record { ready = w.ready; kept = λ k high within out. w.kept k high within }

-- whatever the guard was
pub worked_out : (start : Start) (guard : SetOfVectors) (x y : Scene) → WorkedIn (guarded start guard) x y → Worked start x y
worked_out start guard x y w = record {
  ready = record { at = w.ready.at; sound = w.ready.sound };
  kept = w.kept;
}

pub changed_out : (start : Start) (guard : SetOfVectors) (x y : Scene) (from to : ℕ) → ChangedIn (guarded start guard) x y from to → Changed start x y from to
changed_out start guard x y from to w = record {
  ready = record { at = w.ready.at; sound = w.ready.sound };
  kept = w.kept;
}

-- a guard that was put at its place
pub guard_put : (start : Start) (x y : Scene) (g : Function) → Moved start x y 5 g → IsGuarded (guarded start (λ v. g (value_of v))) y
guard_put start x y g m = record { at = m.at; sound = m.sound; guard = λ v is. ap (λ (f : SetOfVectors). f v) (moved_here start x y 5 g m) }

pub guard_put_as : (start : Start) (x y : Scene) (g : Function) (guard : SetOfVectors) → Moved start x y 5 g → SameStates start (λ v. g (value_of v)) guard → IsGuarded (guarded start guard) y
guard_put_as start x y g guard m same = record { at = m.at; sound = m.sound; guard = λ v is. ap (λ (f : SetOfVectors). f v) (moved_here start x y 5 g m) ∙ same v is }

-- what is taken as the same
pub same_all : (start : Start) (f g : SetOfVectors) → f ≡ g → SameStates start f g
same_all start f g e v is = ap (λ (h : SetOfVectors). h v) e

pub same_then : (start : Start) (f g h : SetOfVectors) → SameStates start f g → SameStates start g h → SameStates start f h
same_then start f g h first second v is = first v is ∙ second v is

pub same_back : (start : Start) (f g : SetOfVectors) → SameStates start f g → SameStates start g f
same_back start f g same v is = sym (same v is)

-- where an action leads into a set of states
pub depends_at : (start : Start) (x : Scene) → IsReady start x → (place : ℕ) → DependsOnly 0 (fluent_count start.task) (set_at x.0.sets x.1 place)
depends_at start x ready place = depends (board_of start) x.0 x.1 ready.at ready.sound place

pub leads_same : (start : Start) (f g : SetOfVectors) → SameStates start f g → (v : Vector) (a : ℕ) → IsVector (sys_in start) v → must_lead (sys_in start) f v a ≡ must_lead (sys_in start) g v a
leads_same start f g same v a is =
    let each : (t : Vector) → HasOutcome (sys_in start) v a t → f t ≡ g t = λ t o. same t ((in_system start).next v a t o).vector in
    ap (λ b. b && list_all f ((sys_in start).next v a)) (list_any-agree f g ((sys_in start).next v a) each)
    ∙ ap (λ b. list_any g ((sys_in start).next v a) && b) (list_all-agree f g ((sys_in start).next v a) each)

pub some_leads_same : (start : Start) (f g : SetOfVectors) → SameStates start f g → SameStates start (some_must_lead (sys_in start) f) (some_must_lead (sys_in start) g)
some_leads_same start f g same v is =
    list_any-agree (must_lead (sys_in start) f v) (must_lead (sys_in start) g v) (action_numbers (sys_in start)) (λ a c. leads_same start f g same v a is)

pub led_states : (start : Start) (x y : Scene) (a : ℕ) → IsGuarded start x → Moved start x y 2 (led_inside start x a)
    → SameStates start (states_at y 2) (λ v. must_lead (sys_in start) (states_at x 0) v a)
led_states start x y a ready m v is =
    ap (λ (f : SetOfVectors). f v) (moved_here start x y 2 _ m)
    ∙ ap (λ b. b && strong_preimage start.task a (set_at x.0.sets x.1 0) (value_of v)) (ready.guard v is)
    ∙ ap (λ b. start.guard v && b) (strong_agrees start.task a (set_at x.0.sets x.1 0) (states_at x 0) (depends_at start x (unguarded start x ready) 0) (λ u at. refl) v is)
    ∙ sym (must_inside (sys_of start) start.guard (states_at x 0) v a)

-- where an action leads, and then the guard
pub led_joined : (start : Start) (x m y : Scene) (a : ℕ) → IsAt start x → Moved start x m 2 (led Outcomes.Every start.task a (set_at x.0.sets x.1 0)) → Moved start m y 2 (and_of (set_at m.0.sets m.1 5) (set_at m.0.sets m.1 2)) → Moved start x y 2 (led_inside start x a)
led_joined start x m y a at first second =
    let long : length y.1 ≡ length m.1 = same_length start m y first.at second.at in
    record {
      at = second.at;
      sound = second.sound;
      here =
          second.here
          ∙ ap (λ (f : Function). and_of f (set_at m.0.sets m.1 2)) (first.others 5 (low start m first.at 5 (omega arith)) (λ e. absurd (omega arith)))
          ∙ ap (λ (f : Function). and_of (set_at x.0.sets x.1 5) f) first.here;
      others = λ o within differs. second.others o within differs ∙ first.others o (omega arith) differs;
    }

-- two sets put together
pub met_states : (start : Start) (x y : Scene) (place a b : ℕ) → Moved start x y place (and_of (set_at x.0.sets x.1 a) (set_at x.0.sets x.1 b)) → states_at y place ≡ (λ v. states_at x a v && states_at x b v)
met_states start x y place a b m = moved_here start x y place _ m

pub joined_states : (start : Start) (x y : Scene) (place a b : ℕ) → Moved start x y place (or_of (set_at x.0.sets x.1 a) (set_at x.0.sets x.1 b)) → states_at y place ≡ (λ v. states_at x a v || states_at x b v)
joined_states start x y place a b m = moved_here start x y place _ m

pub rest_states : (start : Start) (x y : Scene) (place a b : ℕ) → Moved start x y place (minus_of (set_at x.0.sets x.1 a) (set_at x.0.sets x.1 b)) → states_at y place ≡ (λ v. states_at x a v && not (states_at x b v))
rest_states start x y place a b m = moved_here start x y place _ m

pub copied_states : (start : Start) (x y : Scene) (place a : ℕ) → Moved start x y place (set_at x.0.sets x.1 a) → states_at y place ≡ states_at x a
copied_states start x y place a m = moved_here start x y place _ m
