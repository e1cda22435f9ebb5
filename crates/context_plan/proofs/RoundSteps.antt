-- The rounds on sets of states: from one to the next, and the last one.
use Rattle.std.proofs.Common.{◌≡◌, ℕ, suc, ◌+◌, ◌<◌, not, ◌&&◌, ◌||◌, refl, sym, ap, subst, ◌∙◌, arith}
use Rattle.std.specs.List.{list_any, range_with_len}
use Rattle.std.proofs.Math.Bool.{and-or_distrib_left}
use Rattle.std.proofs.lemmas.Bool.{and_parts, or_left}
use Rattle.dd_ops.specs.Operations.{and_of, minus_of}
use Rattle.encode_task.proofs.StateVectors.{same_functions}
use Rattle.preimage.proofs.Leads.{any_more}
use Rattle.slot_board.specs.Board.{Scene, set_at}
use Rattle.plan_theory.proofs.FewerStates.{fewer, fewer_outside}
use Rattle.plan_theory.proofs.RoundSteps.{held}
use Rattle.plan_theory.specs.Safe.{some_must_lead}
use Rattle.plan_theory.proofs.SafeSets.{last_round}
use Rattle.plan_theory.proofs.StageSets.{last_near}
use Rattle.plan_theory.specs.Layers.{must_lead}
use Rattle.list_laws.proofs.Booleans.{and_false, and_not, or_assoc, or_none}
use Rattle.task_core.specs.Cubes.{SetOfVectors}
use Rattle.task_core.specs.Systems.{IsVector, System}
use Rattle.task_core.specs.Tasks.{action_count, fluent_count}
use Rattle.task_core.specs.Vectors.{Vector, all_vectors, value_of}
use Rattle.context_plan.proofs.Guards.{in_system}
use Rattle.context_plan.specs.Scenes.{IsGuarded, Moved, SameStates, Start, led_inside, states_at, sys_in}
use Rattle.context_plan.specs.Rounds.{hits_by, last_turn, turn, turn_by, turns}
use Rattle.context_plan.specs.Steps.{AddsHits, HasLast, HasTurned, KeepsHits, Leads, TurnedFrom}
use Rattle.context_plan.specs.declared.rounds.Way.{Way}
use Rattle.context_plan.specs.declared.rounds.Way.TheVariants.{Growing, Shrinking}
use Rattle.context_plan.proofs.SceneSteps.{copied_states, depends_at, led_states, met_states, moved_low, moved_worked_in, rest_states, some_leads_same, unguarded, worked_chain_in, worked_same_in}

-- what one action adds to a round
pub keeps_some : (start : Start) (x y : Scene) → IsGuarded start x → Moved start x y 2 (and_of (set_at x.0.sets x.1 0) (set_at x.0.sets x.1 2)) → KeepsHits Shrinking start x y
keeps_some start x y ready m = record {
  worked = moved_worked_in start x y 2 _ ready m (omega arith);
  near = moved_low start x y 2 _ m 0 (omega arith) (λ e. absurd (omega arith));
  next = moved_low start x y 2 _ m 1 (omega arith) (λ e. absurd (omega arith));
  hits = met_states start x y 2 0 2 m;
}

pub keeps_all : (start : Start) (x : Scene) → IsGuarded start x → KeepsHits Growing start x x
keeps_all start x ready = record { worked = worked_same_in start x ready; near = refl; next = refl; hits = refl }

hits_same : (way : Way) (start : Start) (set f g : SetOfVectors) → SameStates start f g → SameStates start (hits_by way set f) (hits_by way set g)
hits_same Shrinking start set f g same v is = ap (λ b. set v && b) (same v is)
hits_same Growing start set f g same v is = same v is

-- what is joined to the next states
pub hits_joined : (way : Way) (start : Start) (x m k : Scene) (a : ℕ) → IsGuarded start x → Moved start x m 2 (led_inside start x a) → KeepsHits way start m k
    → SameStates start (λ v. states_at k 1 v || states_at k 2 v) (λ v. states_at x 1 v || hits_by way (states_at x 0) (λ u. must_lead (sys_in start) (states_at x 0) u a) v)
hits_joined way start x m k a ready first kept v is =
    let near_is : states_at m 0 ≡ states_at x 0 = moved_low start x m 2 _ first 0 (omega arith) (λ e. absurd (omega arith)) in
    ap (λ (f : SetOfVectors). f v || states_at k 2 v) (kept.next ∙ moved_low start x m 2 _ first 1 (omega arith) (λ e. absurd (omega arith)))
    ∙ ap (λ (f : SetOfVectors). states_at x 1 v || f v) kept.hits
    ∙ ap (λ (f : SetOfVectors). states_at x 1 v || hits_by way f (states_at m 2) v) near_is
    ∙ ap (λ b. states_at x 1 v || b) (hits_same way start (states_at x 0) (states_at m 2) (λ u. must_lead (sys_in start) (states_at x 0) u a) (led_states start x m a ready first) v is)

-- no action yet, and one more
pub leads_none : (start : Start) (x y : Scene) → IsGuarded start x → Moved start x y 1 (minus_of (set_at x.0.sets x.1 0) (set_at x.0.sets x.1 0)) → Leads Shrinking start x y 0
leads_none start x y ready m = record {
  worked = moved_worked_in start x y 1 _ ready m (omega arith);
  near = moved_low start x y 1 _ m 0 (omega arith) (λ e. absurd (omega arith));
  next = λ v is. ap (λ (f : SetOfVectors). f v) (rest_states start x y 1 0 0 m) ∙ and_not (states_at x 0 v) ∙ sym (and_false (states_at x 0 v));
}

pub leads_copied : (start : Start) (x y : Scene) → IsGuarded start x → Moved start x y 1 (set_at x.0.sets x.1 0) → Leads Growing start x y 0
leads_copied start x y ready m = record {
  worked = moved_worked_in start x y 1 _ ready m (omega arith);
  near = moved_low start x y 1 _ m 0 (omega arith) (λ e. absurd (omega arith));
  next = λ v is. ap (λ (f : SetOfVectors). f v) (copied_states start x y 1 0 m) ∙ or_none (states_at x 0 v);
}

pub turned_more : (way : Way) (sys : System) (set : SetOfVectors) (n : ℕ) (v : Vector) → (turn_by way sys set n v || hits_by way set (λ u. must_lead sys set u n) v) ≡ turn_by way sys set (n + 1) v
turned_more Shrinking sys set n v = sym (and-or_distrib_left (set v) (list_any (must_lead sys set v) (range_with_len 0 n)) (must_lead sys set v n)) ∙ ap (λ b. set v && b) (any_more (must_lead sys set v) n)
turned_more Growing sys set n v = or_assoc (set v) (list_any (must_lead sys set v) (range_with_len 0 n)) (must_lead sys set v n) ∙ ap (λ b. set v || b) (any_more (must_lead sys set v) n)

pub leads_more : (way : Way) (start : Start) (x y z : Scene) (n : ℕ) → Leads way start x y n → AddsHits way start y z n → Leads way start x z (n + 1)
leads_more way start x y z n h more = record {
  worked = worked_chain_in start x y z h.worked more.worked;
  near = more.near ∙ h.near;
  next = λ v is.
      more.next v is
      ∙ ap (λ (f : SetOfVectors). states_at y 1 v || hits_by way f (λ u. must_lead (sys_in start) f u n) v) h.near
      ∙ ap (λ b. b || hits_by way (states_at x 0) (λ u. must_lead (sys_in start) (states_at x 0) u n) v) (h.next v is)
      ∙ turned_more way (sys_in start) (states_at x 0) n v;
}

pub leads_all : (way : Way) (start : Start) (x y : Scene) (n : ℕ) → n ≡ action_count start.task → Leads way start x y n → Leads way start x y (action_count start.task)
leads_all way start x y n e h = subst (Leads way start x y) e h

-- from the states at a place
pub turned_from : (way : Way) (start : Start) (x m z : Scene) (place : ℕ) → IsGuarded start x → Moved start x m 0 (set_at x.0.sets x.1 place) → Leads way start m z (action_count start.task) → TurnedFrom way start x z place
turned_from way start x m z place ready first h =
    let copied = copied_states start x m 0 place first in
    record {
      worked = worked_chain_in start x m z (moved_worked_in start x m 0 _ ready first (omega arith)) h.worked;
      near = h.near ∙ copied;
      next = subst (λ (f : SetOfVectors). SameStates start (states_at z 1) (turn way (sys_in start) f)) copied (all_turned way h.next);
    }
  where
    all_turned : (way : Way) → SameStates start (states_at z 1) (turn_by way (sys_in start) (states_at m 0) (action_count start.task)) → SameStates start (states_at z 1) (turn way (sys_in start) (states_at m 0))
    all_turned Shrinking same = same
    all_turned Growing same = same

-- rounds, one after another
turns_next : (way : Way) (sys : System) (set : SetOfVectors) (k : ℕ) (v : Vector) → turn way sys (turns way sys set k) v ≡ turns way sys set (suc k) v
turns_next Shrinking sys set k v = refl
turns_next Growing sys set k v = refl

pub turns_none : (way : Way) (sys : System) (set : SetOfVectors) (v : Vector) → set v ≡ turns way sys set 0 v
turns_none Shrinking sys set v = refl
turns_none Growing sys set v = refl

pub turn_same : (way : Way) (start : Start) (f g : SetOfVectors) → SameStates start f g → SameStates start (turn way (sys_in start) f) (turn way (sys_in start) g)
turn_same Shrinking start f g same v is = ap (λ b. b && some_must_lead (sys_in start) f v) (same v is) ∙ ap (λ b. g v && b) (some_leads_same start f g same v is)
turn_same Growing start f g same v is = ap (λ b. b || some_must_lead (sys_in start) f v) (same v is) ∙ ap (λ b. g v || b) (some_leads_same start f g same v is)

pub turned_first : (way : Way) (start : Start) (x y : Scene) (place : ℕ) → TurnedFrom way start x y place → HasTurned way start x y (states_at x place) 0
turned_first way start x y place h =
    let sys = sys_in start in
    let none : SameStates start (states_at x place) (turns way sys (states_at x place) 0) = λ v is. turns_none way sys (states_at x place) v in
    record {
      worked = h.worked;
      near = λ v is. ap (λ (f : SetOfVectors). f v) h.near ∙ none v is;
      next = λ v is. h.next v is ∙ turn_same way start (states_at x place) (turns way sys (states_at x place) 0) none v is ∙ turns_next way sys (states_at x place) 0 v;
    }

pub turned_next : (way : Way) (start : Start) (x y z : Scene) (set : SetOfVectors) (k : ℕ) → HasTurned way start x y set k → TurnedFrom way start y z 1 → HasTurned way start x z set (suc k)
turned_next way start x y z set k h more =
    let sys = sys_in start in
    record {
      worked = worked_chain_in start x y z h.worked more.worked;
      near = λ v is. ap (λ (f : SetOfVectors). f v) more.near ∙ h.next v is;
      next = λ v is. more.next v is ∙ turn_same way start (states_at y 1) (turns way sys set (suc k)) h.next v is ∙ turns_next way sys set (suc k) v;
    }

last_is : (way : Way) (start : Start) (set : SetOfVectors) (k : ℕ) → SameStates start (turns way (sys_in start) set (suc k)) (turns way (sys_in start) set k) → SameStates start (turns way (sys_in start) set k) (last_turn way (sys_in start) set)
last_is Shrinking start set k last v is = sym (last_round (sys_in start) set (in_system start) k last v is)
last_is Growing start set k last v is = sym (last_near (sys_in start) set (in_system start) k last v is)

pub turned_last : (way : Way) (start : Start) (x y : Scene) (set : SetOfVectors) (k : ℕ) → HasTurned way start x y set k → set_at y.0.sets y.1 1 ≡ set_at y.0.sets y.1 0 → HasLast way start x y set
turned_last way start x y set k h same = record {
  worked = h.worked;
  near = λ v is.
      h.near v is
      ∙ last_is way start set k (λ u at. sym (h.next u at) ∙ ap (λ (f : _). f (value_of u)) same ∙ h.near u at) v is;
}

-- how many states may still go, or come
pub left_over : Way → SetOfVectors → ℕ → ℕ
left_over Shrinking set n = held set (all_vectors n)
left_over Growing set n = held (λ v. not (set v)) (all_vectors n)

module _ (start : Start) (y z : Scene) (n : ℕ) (is_n : n ≡ fluent_count start.task) (ready : IsGuarded start y) (differ : set_at y.0.sets y.1 1 ≡ set_at y.0.sets y.1 0 → ⊥) (next : SameStates start (states_at z 0) (states_at y 1)) where
  not_alike : ((v : Vector) → IsVector (sys_in start) v → states_at z 0 v ≡ states_at y 0 v) → ⊥
  not_alike same =
      differ (same_functions (fluent_count start.task) (set_at y.0.sets y.1 1) (set_at y.0.sets y.1 0) (depends_at start y (unguarded start y ready) 1) (depends_at start y (unguarded start y ready) 0)
      (λ v is. sym (next v is) ∙ same v is))

  pub fewer_left : (way : Way) (set : SetOfVectors) (k : ℕ) → SameStates start (states_at y 0) (turns way (sys_in start) set k) → SameStates start (states_at y 1) (turns way (sys_in start) set (suc k)) → left_over way (states_at z 0) n < left_over way (states_at y 0) n
  unfolding left_over
  fewer_left Shrinking set k near more =
      fewer n (states_at y 0) (states_at z 0)
      (λ v long h.
      let is : IsVector (sys_in start) v = long ∙ is_n in
      near v is ∙ (and_parts (turns Shrinking (sys_in start) set k v) _ (sym (more v is) ∙ sym (next v is) ∙ h)).0)
      (λ same. not_alike (λ v is. same v (is ∙ sym is_n)))
  fewer_left Growing set k near more =
      fewer_outside n (states_at y 0) (states_at z 0)
      (λ v long inside.
      let is : IsVector (sys_in start) v = long ∙ is_n in
      next v is ∙ more v is ∙ or_left (turns Growing (sys_in start) set k v) _ (sym (near v is) ∙ inside))
      (λ same. not_alike (λ v is. same v (is ∙ sym is_n)))

pub turned_less : (way : Way) (start : Start) (x y z : Scene) (set : SetOfVectors) (k n : ℕ) → HasTurned way start x y set k → (set_at y.0.sets y.1 1 ≡ set_at y.0.sets y.1 0 → ⊥) → n ≡ fluent_count start.task → TurnedFrom way start y z 1
    → left_over way (states_at z 0) n < left_over way (states_at y 0) n
turned_less way start x y z set k n h differ is_n more = fewer_left start y z n is_n h.worked.ready differ (λ v is. ap (λ (f : SetOfVectors). f v) more.near) way set k h.near h.next
