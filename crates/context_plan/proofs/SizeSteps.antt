-- Which sets of a search are small: those that have the states of sets that are, whatever else is
-- known of them.
use Rattle.std.proofs.Common.{◌≡◌, ℕ, zero, suc, ◌+◌, ◌<◌, ◌≤◌, ◌⊎◌, Bool, true, false, not, ◌&&◌, ◌||◌, Contains, length, refl, sym, ap, subst, ◌∙◌, inl, inr, ⊎_elim, arith}
use Rattle.std.specs.List.{list_any, range_with_len}
use Rattle.std.proofs.Math.Path.{fun_ext}
use Rattle.dd_nodes.specs.Subfunctions.{Function}
use Rattle.dd_ops.specs.Operations.{and_of, minus_of}
use Rattle.dd_sets.specs.LiveSets.{set_of}
use Rattle.dd_sets.specs.Rooms.{Rough, Small}
use Rattle.dd_sets.specs.declared.slots.SetId.{SetId}
use Rattle.dd_sets.proofs.OperationSizes.{agreeing_sized, difference_rough, meet_rough}
use Rattle.encode_task.specs.Slots.{exec_slot}
use Rattle.encode_task.specs.TaskSets.{first_values}
use Rattle.encode_task.proofs.StateVectors.{at_state, length_first, own_values}
use Rattle.preimage.proofs.FrameSteps.{exec_holds}
use Rattle.preimage.proofs.SizeLemmas.{without_first}
use Rattle.preimage.specs.WorkingSets.{PreimageFits, first_every}
use Rattle.slot_board.specs.Board as board
use Rattle.slot_board.specs.Board.{Scene, led, set_at}
use Rattle.slot_board.proofs.BoardSizes.{led_small}
use Rattle.slot_board.proofs.BoardSlots.{made_at}
use Rattle.slot_board.specs.declared.board.Outcomes.TheVariants as Outcomes
use Rattle.plan_theory.specs.Layers.{must_lead}
use Rattle.plan_theory.specs.LayerPlans.{is_action}
use Rattle.plan_theory.specs.StageSets.{near, stage_action}
use Rattle.list_laws.proofs.Elements.{list_any-agree}
use Rattle.task_core.specs.Cubes.{SetOfVectors}
use Rattle.task_core.specs.Systems.{IsVector}
use Rattle.task_core.specs.Tasks.{action_count, fluent_count}
use Rattle.task_core.specs.Vectors.{Vector, value_of}
use Rattle.context_plan.proofs.Guards.{in_system}
use Rattle.context_plan.specs.Rounds.{first_lead, hits_by, turn_by, turns}
use Rattle.context_plan.specs.Scenes.{IsAt, IsGuarded, Moved, SameStates, Start, board_of, led_inside, rough_places, states_at, sys_in}
use Rattle.context_plan.specs.Sizes.{ClimbFits, ClimbsFit, ExecFits, HitFits, IsRough, IsSmall, LeadFits, RoundFits, ShareFits, TurnsFit}
use Rattle.context_plan.specs.Steps.{OnlyHits}
use Rattle.context_plan.specs.WorkingSets.{function_of}
use Rattle.context_plan.specs.declared.rounds.Way.{Way}
use Rattle.context_plan.specs.declared.rounds.Way.TheVariants.{Growing, Shrinking}
use Rattle.context_plan.proofs.RoundSteps.{turned_more, turns_none}
use Rattle.context_plan.proofs.SceneSteps.{depends_at, leads_same, led_states, low, moved_in, unguarded}
use Rattle.context_plan.proofs.StageLemmas.{more_taken, none_taken}

pub function_same : (n : ℕ) (f g : SetOfVectors) → ((v : Vector) → length v ≡ n → f v ≡ g v) → function_of n f ≡ function_of n g
function_same n f g same = fun_ext (λ values. same (first_values n values) (length_first n values))

pub function_at : (start : Start) (x : Scene) → IsGuarded start x → (place : ℕ) → set_at x.0.sets x.1 place ≡ function_of (fluent_count start.task) (states_at x place)
function_at start x ready place = fun_ext (λ values. at_state (fluent_count start.task) (set_at x.0.sets x.1 place) (depends_at start x (unguarded start x ready) place) values)

-- a set with the states of a small one is small, and with those of a rough one rough
pub small_as : (n w : ℕ) (f g : Function) → ((v : Vector) → length v ≡ n → f (value_of v) ≡ g (value_of v)) → Small n w f → Small n w g
small_as n w f g same = (agreeing_sized n f g same w).0

pub rough_as : (n w : ℕ) (f g : Function) → ((v : Vector) → length v ≡ n → f (value_of v) ≡ g (value_of v)) → Rough n w f → Rough n w g
rough_as n w f g same = (agreeing_sized n f g same w).1

-- the same of sets of states
pub small_set : (start : Start) (f : Function) (set : SetOfVectors) → IsSmall start set → ((v : Vector) → IsVector (sys_in start) v → set v ≡ f (value_of v)) → board.IsSmall (board_of start) f
small_set start f set small same =
    let n = fluent_count start.task in
    small_as n start.width (function_of n set) f (λ v is. ap set (own_values n v is) ∙ same v is) small

pub rough_set : (start : Start) (f : Function) (set : SetOfVectors) → IsRough start set → ((v : Vector) → IsVector (sys_in start) v → set v ≡ f (value_of v)) → Rough (fluent_count start.task) start.width f
rough_set start f set rough same =
    let n = fluent_count start.task in
    rough_as n start.width (function_of n set) f (λ v is. ap set (own_values n v is) ∙ same v is) rough

pub small_states : (start : Start) (f : Function) (set : SetOfVectors) → board.IsSmall (board_of start) f → ((v : Vector) → IsVector (sys_in start) v → f (value_of v) ≡ set v) → IsSmall start set
small_states start f set small same =
    let n = fluent_count start.task in
    small_as n start.width f (function_of n set) (λ v is. same v is ∙ ap set (sym (own_values n v is))) small

pub small_same : (start : Start) (f g : SetOfVectors) → SameStates start f g → IsSmall start f → IsSmall start g
small_same start f g same small = subst (λ (h : Function). board.IsSmall (board_of start) h) (function_same (fluent_count start.task) f g same) small

pub rough_same : (start : Start) (f g : SetOfVectors) → SameStates start f g → IsRough start f → IsRough start g
rough_same start f g same rough = subst (λ (h : Function). Rough (fluent_count start.task) start.width h) (function_same (fluent_count start.task) f g same) rough

-- what stands where no rough set may is small
not_rough : (k : ℕ) → (k < 2) ⊎ (4 < k) → Contains rough_places k → ⊥
not_rough k out (zero, within, is) = ⊎_elim (λ (low : k < 2). let e : 2 ≡ k = is in omega arith) (λ (high : 4 < k). let e : 2 ≡ k = is in omega arith) out
not_rough k out (suc zero, within, is) = ⊎_elim (λ (low : k < 2). let e : 3 ≡ k = is in omega arith) (λ (high : 4 < k). let e : 3 ≡ k = is in omega arith) out
not_rough k out (suc (suc zero), within, is) = ⊎_elim (λ (low : k < 2). let e : 4 ≡ k = is in omega arith) (λ (high : 4 < k). let e : 4 ≡ k = is in omega arith) out
not_rough k out (suc (suc (suc i)), within, is) = absurd (let l : suc (suc (suc i)) < 3 = within in omega arith)

pub placed_small : (start : Start) (x : Scene) → IsAt start x → (k : ℕ) → k < length x.1 → (k < 2) ⊎ (4 < k) → board.IsSmall (board_of start) (set_at x.0.sets x.1 k)
placed_small start x at k within out =
    ⊎_elim
    (λ (small : board.IsSmall (board_of start) (set_at x.0.sets x.1 k)). small)
    (λ (rough : Contains rough_places k × Rough (fluent_count start.task) start.width (set_at x.0.sets x.1 k)). absurd (not_rough k out rough.0))
    (at.each k within)

pub at_small : (start : Start) (x : Scene) (k : ℕ) → IsSmall start (states_at x k) → board.IsSmall (board_of start) (set_at x.0.sets x.1 k)
at_small start x k small = small_set start (set_at x.0.sets x.1 k) (states_at x k) small (λ v is. refl)

-- what is made of two small sets may stand where a rough set may
pub fits_small : (start : Start) (place : ℕ) (f : Function) (set : SetOfVectors) → IsSmall start set → ((v : Vector) → IsVector (sys_in start) v → set v ≡ f (value_of v)) → board.Fits (board_of start) place f
fits_small start place f set small same = inl (small_set start f set small same)

pub fits_rough : (start : Start) (place : ℕ) (f : Function) (set : SetOfVectors) → Contains rough_places place → IsRough start set → ((v : Vector) → IsVector (sys_in start) v → set v ≡ f (value_of v)) → board.Fits (board_of start) place f
fits_rough start place f set may rough same = inr (may, rough_set start f set rough same)

pub fits_meet : (start : Start) (place : ℕ) (f g : Function) → Contains rough_places place → board.IsSmall (board_of start) f → board.IsSmall (board_of start) g → board.Fits (board_of start) place (and_of f g)
fits_meet start place f g may first second = inr (may, meet_rough (fluent_count start.task) start.width f g first second)

pub fits_minus : (start : Start) (place : ℕ) (f g : Function) → Contains rough_places place → board.IsSmall (board_of start) f → board.IsSmall (board_of start) g → board.Fits (board_of start) place (minus_of f g)
fits_minus start place f g may first second = inr (may, difference_rough (fluent_count start.task) start.width f g first second)

pub may_two : Contains rough_places 2
may_two = (0, omega arith, refl)

pub may_three : Contains rough_places 3
may_three = (1, omega arith, refl)

pub may_four : Contains rough_places 4
may_four = (2, omega arith, refl)

-- where an action can be executed in the guard, and leads into the first states
pub led_fits : (start : Start) (x m : Scene) (a : ℕ) → IsGuarded start x → board.LeadFits (board_of start) Outcomes.Every a (set_at x.0.sets x.1 0) → Moved start x m 2 (led Outcomes.Every start.task a (set_at x.0.sets x.1 0))
    → board.Fits (board_of start) 2 (and_of (set_at m.0.sets m.1 5) (set_at m.0.sets m.1 2))
led_fits start x m a ready fits first =
    let after = moved_in start x m 2 _ ready (λ e. absurd (omega arith)) first in
    fits_meet start 2 (set_at m.0.sets m.1 5) (set_at m.0.sets m.1 2) may_two (placed_small start m after.at 5 (low start m after.at 5 (omega arith)) (inr (omega arith)))
    (subst (λ (f : Function). board.IsSmall (board_of start) f) (sym first.here) (led_small (board_of start) Outcomes.Every a (set_at x.0.sets x.1 0) fits))

-- the preimage of a set by its states
pub lead_fits : (start : Start) (x : Scene) (place a : ℕ) (set : SetOfVectors) → IsGuarded start x → states_at x place ≡ set → LeadFits start a set → board.LeadFits (board_of start) Outcomes.Every a (set_at x.0.sets x.1 place)
lead_fits start x place a set ready same fits =
    subst (λ (f : Function). PreimageFits start.width start.task a first_every f)
    (ap (function_of (fluent_count start.task)) (sym same) ∙ sym (function_at start x ready place)) fits

pub lead_same : (start : Start) (a : ℕ) (f g : SetOfVectors) → SameStates start f g → LeadFits start a f → LeadFits start a g
lead_same start a f g same fits = subst (λ (h : Function). PreimageFits start.width start.task a first_every h) (function_same (fluent_count start.task) f g same) fits

turn_by_same : (way : Way) (start : Start) (f g : SetOfVectors) → SameStates start f g → (n : ℕ) → SameStates start (turn_by way (sys_in start) f n) (turn_by way (sys_in start) g n)
turn_by_same Shrinking start f g same n v is =
    ap (λ b. b && list_any (must_lead (sys_in start) f v) (range_with_len 0 n)) (same v is)
    ∙ ap (λ b. g v && b) (list_any-agree (must_lead (sys_in start) f v) (must_lead (sys_in start) g v) (range_with_len 0 n) (λ a c. leads_same start f g same v a is))
turn_by_same Growing start f g same n v is =
    ap (λ b. b || list_any (must_lead (sys_in start) f v) (range_with_len 0 n)) (same v is)
    ∙ ap (λ b. g v || b) (list_any-agree (must_lead (sys_in start) f v) (must_lead (sys_in start) g v) (range_with_len 0 n) (λ a c. leads_same start f g same v a is))

-- a round, by the states that it begins with
pub round_fits_same : (start : Start) (f g : SetOfVectors) → SameStates start f g → RoundFits start f → RoundFits start g
round_fits_same start f g same fits = record {
  itself = small_same start f g same fits.itself;
  lead = λ a within. lead_same start a f g same (fits.lead a within);
  hits = λ a within. small_same start (λ v. must_lead (sys_in start) f v a) (λ v. must_lead (sys_in start) g v a) (λ v is. leads_same start f g same v a is) (fits.hits a within);
  turned = λ way n few. small_same start (turn_by way (sys_in start) f n) (turn_by way (sys_in start) g n) (turn_by_same way start f g same n) (fits.turned way n few);
}

-- what one action adds to a round
pub hit_fits : (way : Way) (start : Start) (set near next : SetOfVectors) (n : ℕ) → near ≡ set → SameStates start next (turn_by way (sys_in start) set n) → n < action_count start.task → RoundFits start set → HitFits way start near next n
hit_fits way start set near next n is same less fits =
    let sys = sys_in start in
    subst (λ (f : SetOfVectors). HitFits way start f next n) (sym is)
    (record {
      lead = fits.lead n less;
      hits = fits.hits n less;
      joined =
          small_same start (turn_by way sys set (n + 1)) (λ v. next v || hits_by way set (λ u. must_lead sys set u n) v)
          (λ v at. sym (ap (λ b. b || hits_by way set (λ u. must_lead sys set u n) v) (same v at) ∙ turned_more way sys set n v))
          (fits.turned way (n + 1) (omega arith));
    })

pub hit_fits_as : (way : Way) (start : Start) (f g near next : SetOfVectors) (a : ℕ) → near ≡ f → next ≡ g → HitFits way start f g a → HitFits way start near next a
hit_fits_as way start f g near next a is also fits =
    subst (λ (h : SetOfVectors). HitFits way start near h a) (sym also) (subst (λ (h : SetOfVectors). HitFits way start h g a) (sym is) fits)

-- rounds, one after another
pub turns_fit_first : (way : Way) (start : Start) (set : SetOfVectors) → TurnsFit way start set → RoundFits start set
turns_fit_first way start set fits = round_fits_same start (turns way (sys_in start) set 0) set (λ v is. sym (turns_none way (sys_in start) set v)) (fits 0)

pub turns_fit_at : (way : Way) (start : Start) (set near : SetOfVectors) (k : ℕ) → SameStates start near (turns way (sys_in start) set k) → TurnsFit way start set → RoundFits start near
turns_fit_at way start set near k same fits = round_fits_same start (turns way (sys_in start) set k) near (λ v is. sym (same v is)) (fits k)

-- what is left of a set after the hits of the first actions
pub rough_left : (start : Start) (set : SetOfVectors) (n : ℕ) → n ≤ action_count start.task → RoundFits start set → IsRough start (λ v. set v && not (list_any (must_lead (sys_in start) set v) (range_with_len 0 n)))
rough_left start set n few fits =
    let m = fluent_count start.task in
    let sys = sys_in start in
    rough_as m start.width (minus_of (function_of m set) (function_of m (turn_by Shrinking sys set n))) (function_of m (λ v. set v && not (list_any (must_lead sys set v) (range_with_len 0 n))))
    (λ v is. without_first (set (first_values m (value_of v))) (list_any (must_lead sys set (first_values m (value_of v))) (range_with_len 0 n)))
    (difference_rough m start.width (function_of m set) (function_of m (turn_by Shrinking sys set n)) fits.itself (fits.turned Shrinking n few))

-- rounds in which the new states take their actions
pub climb_first : (start : Start) (set : SetOfVectors) (before : ℕ → SetOfVectors) → ClimbsFit start set before → ClimbFits start set before
climb_first start set before fits =
    let sys = sys_in start in
    record {
      round = turns_fit_first Growing start set fits.rounds;
      taken = λ a within.
          small_same start (λ v. before a v || (near sys set 1 v && is_action a (stage_action sys set v))) (λ v. before a v || first_lead sys set (λ u. not (set u)) a v)
          (λ v is. sym (
          ap (λ b. b || first_lead sys set (λ u. not (set u)) a v) (none_taken sys set v a (before a v))
          ∙ more_taken sys set v a 0 (before a v) (in_system start) is))
          (fits.taken 1 a within);
    }

-- where an action can be executed, and what of it is not among the next states
pub exec_fits : (start : Start) (x : Scene) (a : ℕ) (exec : SetId) → IsGuarded start x → a < length x.0.actions → exec ≡ exec_slot x.0 a → ExecFits start a → board.Fits (board_of start) 2 (set_of x.0.sets exec.0)
exec_fits start x a exec ready within is fits =
    let holds = (exec_holds start.task x.0 a exec (made_at (board_of start) x.0 x.1 ready.at) within is).holds in
    inl (subst (λ (f : Function). board.IsSmall (board_of start) f) (sym holds) fits)

pub exec_meet_fits : (start : Start) (x m : Scene) (a : ℕ) (exec : SetId) → IsGuarded start x → a < length x.0.actions → exec ≡ exec_slot x.0 a → Moved start x m 2 (set_of x.0.sets exec.0) → ExecFits start a
    → board.Fits (board_of start) 4 (and_of (set_at m.0.sets m.1 2) (set_at m.0.sets m.1 1))
exec_meet_fits start x m a exec ready within is first fits =
    let holds = (exec_holds start.task x.0 a exec (made_at (board_of start) x.0 x.1 ready.at) within is).holds in
    let after = moved_in start x m 2 _ ready (λ e. absurd (omega arith)) first in
    fits_meet start 4 (set_at m.0.sets m.1 2) (set_at m.0.sets m.1 1) may_four (subst (λ (f : Function). board.IsSmall (board_of start) f) (sym (first.here ∙ holds)) fits)
    (placed_small start m after.at 1 (low start m after.at 1 (omega arith)) (inl (omega arith)))

-- a set without itself
pub fits_none : (start : Start) (x : Scene) → IsSmall start (turn_by Shrinking (sys_in start) (states_at x 0) 0) → board.Fits (board_of start) 1 (minus_of (set_at x.0.sets x.1 0) (set_at x.0.sets x.1 0))
fits_none start x fits = fits_small start 1 (minus_of (set_at x.0.sets x.1 0) (set_at x.0.sets x.1 0)) (turn_by Shrinking (sys_in start) (states_at x 0) 0) fits (λ v is. none (states_at x 0 v))
  where
    none : (b : Bool) → (b && false) ≡ (b && not b)
    none true = refl
    none false = refl

-- the hits of an action
pub hits_small : (start : Start) (x m : Scene) (a : ℕ) → IsGuarded start x → Moved start x m 2 (led_inside start x a) → IsSmall start (λ v. must_lead (sys_in start) (states_at x 0) v a) → IsSmall start (states_at m 2)
hits_small start x m a ready first fits =
    small_same start (λ v. must_lead (sys_in start) (states_at x 0) v a) (states_at m 2) (λ v is. sym (led_states start x m a ready first v is)) fits

pub hits_after : (way : Way) (start : Start) (x y : Scene) (a : ℕ) → OnlyHits start x y → HitFits way start (states_at x 0) (states_at x 1) a → HitFits way start (states_at y 0) (states_at y 1) a
hits_after way start x y a h fits =
    hit_fits_as way start (states_at x 0) (states_at x 1) (states_at y 0) (states_at y 1) a
    (h.kept 0 (low start y h.ready.at 0 (omega arith)) (λ e. absurd (omega arith)) (λ e. absurd (omega arith)))
    (h.kept 1 (low start y h.ready.at 1 (omega arith)) (λ e. absurd (omega arith)) (λ e. absurd (omega arith))) fits

pub share_fits_as : (start : Start) (f g near rest : SetOfVectors) (p q : ℕ → SetOfVectors) → near ≡ f → rest ≡ g → ((a : ℕ) → a < action_count start.task → q a ≡ p a) → ShareFits start f g p → ShareFits start near rest q
share_fits_as start f g near rest p q is also same fits =
    subst (λ (h : SetOfVectors). ShareFits start near h q) (sym also)
    (subst (λ (h : SetOfVectors). ShareFits start h g q) (sym is)
    (record {
      lead = fits.lead;
      first = fits.first;
      taken = λ a below. subst (λ (h : SetOfVectors). IsSmall start (λ v. h v || first_lead (sys_in start) f g a v)) (sym (same a below)) (fits.taken a below);
      left = fits.left;
    }))
