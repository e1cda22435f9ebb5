-- The second pass: an action that is left out adds nothing, and what follows gives each state the
-- action of its rank.
use Rattle.std.proofs.Common.{◌≡◌, ℕ, zero, suc, ◌+◌, ◌<◌, ◌≤◌, true, not, ◌&&◌, ◌||◌, List, [], ◌∷◌, length, refl, sym, ap, subst, ◌∙◌, ⊎_elim, arith}
use Rattle.std.specs.List.{find}
use Rattle.std.proofs.lemmas.Bool.{cases_lt}
use Rattle.list_laws.proofs.Booleans.{or_none}
use Rattle.slot_board.specs.Board as board
use Rattle.slot_board.specs.Board.{Scene, set_at}
use Rattle.slot_board.specs.declared.steps.Step.{Step}
use Rattle.slot_board.specs.declared.steps.Step.TheVariants.{Advance, Grow}
use Rattle.plan_theory.specs.StageSets.{near, stage_action}
use Rattle.plan_theory.specs.Layers.{action_numbers, must_lead}
use Rattle.plan_theory.specs.LayerPlans.{is_action}
use Rattle.task_core.specs.Cubes.{SetOfVectors}
use Rattle.task_core.specs.Systems.{IsVector}
use Rattle.task_core.specs.Tasks.{action_count}
use Rattle.task_core.specs.Vectors.{Vector}
use Rattle.task_core.specs.declared.literals.ActionId.{ActionId}
use Rattle.context_plan.specs.Noted.{AddsNothing, AreStepsFrom, HasRetraced, RetracedOn, near_at}
use Rattle.context_plan.specs.Rounds.{first_lead, turn_by}
use Rattle.context_plan.specs.Scenes.{IsGuarded, Moved, SameStates, Start, board_of, states_at, sys_in}
use Rattle.context_plan.specs.Sizes.{ClimbFits, ClimbsFit}
use Rattle.context_plan.specs.Steps.{Climbed, Climbs}
use Rattle.context_plan.specs.declared.rounds.Way.TheVariants.{Growing}
use Rattle.context_plan.proofs.Guards.{in_system}
use Rattle.context_plan.proofs.NotedSteps.{turned_same}
use Rattle.context_plan.proofs.RoundSteps.{turn_same}
use Rattle.context_plan.proofs.SceneSteps.{changed_chain_in, copied_states, leads_same, moved_in, moved_low, moved_other, moved_worked_in, same_length, worked_changed_in, worked_same_in}
use Rattle.context_plan.proofs.SizeSteps.{at_small, small_same, turns_fit_at}
use Rattle.context_plan.proofs.SkipSteps.{AddsNone, climbs_once}
use Rattle.context_plan.proofs.StageLemmas.{first_same, more_taken, none_taken}
use Rattle.context_plan.proofs.TakerSteps.{climbs_none}

-- several actions that add nothing to a round
module _ (start : Start) (x y : Scene) (takers : ℕ) where
  climbs_skip : (n m : ℕ) → n ≤ m → m ≤ action_count start.task → ((b : ℕ) → n ≤ b → b < m → AddsNone start x y takers b) → Climbs start x y takers n → Climbs start x y takers m
  climbs_skip n zero l few none h = subst (Climbs start x y takers) (let e : n ≡ 0 = omega arith in e) h
  climbs_skip n (suc m) l few none h =
      ⊎_elim
      (λ (less : n < suc m).
      subst (Climbs start x y takers) (let e : m + 1 ≡ suc m = omega arith in e)
      (climbs_once start x y takers m (omega arith) (none m (omega arith) (omega arith)) (climbs_skip n m (omega arith) (omega arith) (λ b low high. none b low (omega arith)) h)))
      (λ (more : suc m ≤ n). subst (Climbs start x y takers) (let e : n ≡ suc m = omega arith in e) h)
      (cases_lt n (suc m))

-- the same, by the round that it is
adds_none : (start : Start) (begun : Scene) (set : SetOfVectors) (k a : ℕ) → SameStates start (states_at begun 0) (near_at start set k) → AddsNothing start set k a
    → (v : Vector) → IsVector (sys_in start) v → must_lead (sys_in start) (states_at begun 0) v a ≡ true → turn_by Growing (sys_in start) (states_at begun 0) a v ≡ true
adds_none start begun set k a same none v is hit =
    turned_same start (states_at begun 0) (near_at start set k) same a v is
    ∙ none v is (sym (leads_same start (states_at begun 0) (near_at start set k) same v a is) ∙ hit)

-- the states that take an action, with the new ones of a round
taken_next : (start : Start) (x begun : Scene) (met takers k a : ℕ) → SameStates start (states_at begun 0) (near_at start (states_at x met) k)
    → SameStates start (states_at begun (takers + a)) (λ v. states_at x (takers + a) v || (near_at start (states_at x met) k v && is_action a (stage_action (sys_in start) (states_at x met) v)))
    → SameStates start (λ v. states_at begun (takers + a) v || first_lead (sys_in start) (states_at begun 0) (λ u. not (states_at begun 0 u)) a v)
    (λ v. states_at x (takers + a) v || (near_at start (states_at x met) (suc k) v && is_action a (stage_action (sys_in start) (states_at x met) v)))
taken_next start x begun met takers k a same taken v is =
    let sys = sys_in start in
    let set = states_at x met in
    ap (λ b. b || first_lead sys (states_at begun 0) (λ u. not (states_at begun 0 u)) a v) (taken v is)
    ∙ ap (λ o. (states_at x (takers + a) v || (near sys set k v && is_action a (stage_action sys set v))) || (not (states_at begun 0 v) && is_action a o)) (first_same start (states_at begun 0) (near sys set k) same v is)
    ∙ ap (λ b. (states_at x (takers + a) v || (near sys set k v && is_action a (stage_action sys set v))) || (not b && is_action a (find (must_lead sys (near sys set k) v) (action_numbers sys)))) (same v is)
    ∙ more_taken sys set v a k (states_at x (takers + a) v) (in_system start) is

-- what a step needs
module _ (start : Start) (x begun y : Scene) (met takers k n : ℕ) (rest : List Step) where
  pub grow_ready : (a : ActionId) → HasRetraced start x begun y met takers k n (Grow a ∷ rest) → Climbs start begun y takers a.0
  grow_ready a h =
      let few = h.follows.1 in
      climbs_skip start begun y takers n a.0 h.follows.0 (omega arith) (λ b low high. adds_none start begun (states_at x met) k b h.near (h.follows.2 b low high)) h.climbs

  pub advance_ready : HasRetraced start x begun y met takers k n (Advance ∷ rest) → Climbs start begun y takers (action_count start.task)
  advance_ready h =
      climbs_skip start begun y takers n (action_count start.task) h.follows.0 (omega arith) (λ b low high. adds_none start begun (states_at x met) k b h.near (h.follows.1 b low high)) h.climbs

pub grow_fits : (start : Start) (x begun y : Scene) (met takers k n : ℕ) (steps : List Step) → HasRetraced start x begun y met takers k n steps → ClimbsFit start (states_at x met) (λ a. states_at x (takers + a)) → ClimbFits start (states_at begun 0) (λ a. states_at begun (takers + a))
grow_fits start x begun y met takers k n steps h fits =
    let sys = sys_in start in
    let set = states_at x met in
    record {
      round = turns_fit_at Growing start set (states_at begun 0) k h.near fits.rounds;
      taken = λ a below.
          small_same start (λ v. states_at x (takers + a) v || (near sys set (suc k) v && is_action a (stage_action sys set v))) (λ v. states_at begun (takers + a) v || first_lead sys (states_at begun 0) (λ u. not (states_at begun 0 u)) a v)
          (λ v is. sym (taken_next start x begun met takers k a h.near (h.taken a below) v is))
          (fits.taken (suc k) a below);
    }

pub next_fits : (start : Start) (x begun y : Scene) (met takers k n : ℕ) (rest : List Step) → HasRetraced start x begun y met takers k n (Advance ∷ rest) → ClimbsFit start (states_at x met) (λ a. states_at x (takers + a)) → board.IsSmall (board_of start) (set_at y.0.sets y.1 1)
next_fits start x begun y met takers k n rest h fits =
    let all = advance_ready start x begun y met takers k n rest h in
    at_small start y 1
    (small_same start (near (sys_in start) (states_at x met) (suc k)) (states_at y 1)
    (λ v is. sym (all.next v is ∙ turn_same Growing start (states_at begun 0) (near (sys_in start) (states_at x met) k) h.near v is))
    (fits.rounds (suc k)).itself)

-- one action more
pub retraced_grow : (start : Start) (x begun y z : Scene) (met takers k n : ℕ) (a : ActionId) (rest : List Step) → HasRetraced start x begun y met takers k n (Grow a ∷ rest) → Climbs start begun z takers (a.0 + 1) → RetracedOn start x z met takers rest
retraced_grow start x begun y z met takers k n a rest h climbs = (
  begun,
  k,
  a.0 + 1,
  record { changed = h.changed; near = h.near; taken = h.taken; climbs = climbs; follows = h.follows.3 },
)

-- the next states in the place of the near ones: a round begins with them
pub retraced_advance : (start : Start) (x begun y z : Scene) (met takers k n : ℕ) (rest : List Step) → 8 ≤ takers → takers + action_count start.task ≤ length y.1 → HasRetraced start x begun y met takers k n (Advance ∷ rest)
    → Moved start y z 0 (set_at y.0.sets y.1 1) → RetracedOn start x z met takers rest
retraced_advance start x begun y z met takers k n rest high fits h m =
    let sys = sys_in start in
    let set = states_at x met in
    let all = advance_ready start x begun y met takers k n rest h in
    let copied = copied_states start y z 0 1 m in
    let long : length z.1 ≡ length y.1 = same_length start y z all.changed.ready.at m.at in
    let over = worked_changed_in start y z takers (takers + action_count start.task) (moved_worked_in start y z 0 _ all.changed.ready m (omega arith)) in (
      z,
      suc k,
      0,
      record {
        changed = changed_chain_in start x begun z takers (takers + action_count start.task) h.changed (changed_chain_in start begun y z takers (takers + action_count start.task) all.changed over);
        near = λ v is.
            ap (λ (f : SetOfVectors). f v) copied
            ∙ all.next v is
            ∙ turn_same Growing start (states_at begun 0) (near sys set k) h.near v is;
        taken = λ a below v is.
            ap (λ (f : SetOfVectors). f v) (moved_other start y z 0 _ m (takers + a) (omega arith) (λ e. absurd (omega arith)))
            ∙ all.taken a below below v is
            ∙ taken_next start x begun met takers k a h.near (h.taken a below) v is;
        climbs = record {
          changed = worked_changed_in start z z takers (takers + action_count start.task) (worked_same_in start z over.ready);
          near = refl;
          next = λ v is. ap (λ (f : SetOfVectors). f v) (moved_low start y z 0 _ m 1 (omega arith) (λ e. absurd (omega arith)) ∙ sym copied) ∙ or_none (states_at z 0 v);
          taken = λ a below less. absurd (omega arith);
          later = λ a below from. refl;
        };
        follows = h.follows.2;
      },
    )

-- the second pass begins with where the stage is met
pub retraced_first : (start : Start) (x m y : Scene) (met takers : ℕ) (steps : List Step) → 8 ≤ takers → takers + action_count start.task ≤ length x.1 → IsGuarded start x → Moved start x m 0 (set_at x.0.sets x.1 met) → Moved start m y 1 (set_at m.0.sets m.1 0)
    → AreStepsFrom start (states_at x met) 0 0 steps → RetracedOn start x y met takers steps
retraced_first start x m y met takers steps high fits ready first second follows =
    let long : length m.1 ≡ length x.1 = same_length start x m ready.at first.at in (
      m,
      0,
      0,
      record {
        changed = worked_changed_in start x m takers (takers + action_count start.task) (moved_worked_in start x m 0 _ ready first (omega arith));
        near = λ v is. ap (λ (f : SetOfVectors). f v) (copied_states start x m 0 met first);
        taken = λ a below v is.
            ap (λ (f : SetOfVectors). f v) (moved_other start x m 0 _ first (takers + a) (omega arith) (λ e. absurd (omega arith)))
            ∙ none_taken (sys_in start) (states_at x met) v a (states_at x (takers + a) v);
        climbs = climbs_none start m y takers high (omega arith) (moved_in start x m 0 _ ready (λ e. absurd (omega arith)) first) second;
        follows = follows;
      },
    )

-- and ends where all states took their actions
pub retraced_all : (start : Start) (x y : Scene) (met takers : ℕ) → RetracedOn start x y met takers [] → Climbed start x y met takers
retraced_all start x y met takers at =
    let begun = at.0 in
    let k = at.1 in
    let h = at.3 in
    record {
      changed = changed_chain_in start x begun y takers (takers + action_count start.task) h.changed h.climbs.changed;
      taken = λ a below v is.
          ap (λ (f : SetOfVectors). f v) (h.climbs.later a below (let e : at.2 ≡ 0 = h.follows.0 in omega arith))
          ∙ h.taken a below v is
          ∙ ap (λ b. states_at x (takers + a) v || (b && is_action a (stage_action (sys_in start) (states_at x met) v))) (h.follows.1 v is);
    }
