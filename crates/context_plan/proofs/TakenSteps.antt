-- The states that take each action: of one context more.
use Rattle.std.proofs.Common.{◌≡◌, ◌≢◌, ℕ, suc, ◌+◌, ◌*◌, ◌<◌, ◌≤◌, true, false, ◌&&◌, ◌||◌, List, [], ◌∷◌, drop, length, sym, ap, subst, ◌∙◌, inl, inr, ◌⊎◌, ⊎_elim, arith, mul-le-mul_right, slice_index_or}
use Rattle.std.proofs.lemmas.Bool.{cases_eq, cases_lt}
use Rattle.std.proofs.lemmas.List.{drop_all}
use Rattle.std.specs.List.{find}
use Rattle.plan_theory.specs.UntilChains.{SetStage, UntilSets, covers_until, until_met, until_win}
use Rattle.plan_theory.specs.Safe.{safe_set}
use Rattle.plan_theory.specs.GuardedSets.{anywhere, guarded_set}
use Rattle.plan_theory.specs.StageSets.{near, stage_action, stage_set}
use Rattle.plan_theory.specs.Layers.{action_numbers, must_lead}
use Rattle.plan_theory.specs.LayerPlans.{is_action}
use Rattle.task_core.specs.Cubes.{SetOfVectors}
use Rattle.task_core.specs.Tasks.{action_count}
use Rattle.slot_board.specs.Board.{Scene}
use Rattle.context_plan.specs.Scenes.{Changed, ChangedIn, IsAt, Moved, SameStates, Start, guarded, met_place, states_at, sys_in, sys_of, takers_place, win_place}
use Rattle.context_plan.specs.Chains.{until_sets}
use Rattle.ctl_syntax.specs.Conditions.{states_of}
use Rattle.ctl_syntax.specs.GoalValues.{stage_sets}
use Rattle.ctl_syntax.specs.declared.context_goals.UntilChain.{UntilChain}
use Rattle.ctl_syntax.specs.declared.context_goals.UntilStage.{UntilStage}
use Rattle.context_plan.specs.Sizes.{ClimbsFit, IsSmall, ShareFits, UntilFits}
use Rattle.context_plan.specs.Steps.{Climbed, FirstTaken, HasTakers, HasWins, Won, takers_of}
use Rattle.context_plan.specs.WorkingSets.{met_first}
use Rattle.context_plan.proofs.SceneSteps.{changed_out, long_enough, moved_other, same_length}
use Rattle.context_plan.proofs.SizeSteps.{share_fits_as}
use Rattle.context_plan.specs.Rounds.{first_lead}
use Rattle.dd_nodes.specs.Subfunctions.{Function}
use Rattle.context_plan.proofs.GuardSteps.{action_as, first_anywhere, set_as}
use Rattle.context_plan.proofs.StageLemmas.{first_same}
use Rattle.context_plan.proofs.WinSteps.{drop_some}

-- the places of an action's states
pub takers_apart : (actions stages i j : ℕ) → i < j → takers_place actions stages i + actions ≤ takers_place actions stages j
takers_apart actions stages i j less =
    let more : suc i * actions ≤ j * actions = mul-le-mul_right {m = suc i} {n = j} actions (omega arith) in
    let step : suc i * actions ≡ i * actions + actions = omega arith in
    omega arith

pub takers_within : (start : Start) (x : Scene) → IsAt start x → (i : ℕ) → i ≤ suc start.stages → takers_place (action_count start.task) start.stages i + action_count start.task ≤ length x.1
takers_within start x at i few =
    let apart = takers_apart (action_count start.task) start.stages i (suc (suc start.stages)) (omega arith) in
    let e : length x.1 ≡ takers_place (action_count start.task) start.stages (suc (suc start.stages)) = at.long in
    omega arith

-- the places beside the guard stay while it is put
pub high_still : (start : Start) (x w : Scene) (g : Function) → IsAt start x → Moved start x w 5 g → (k : ℕ) → 8 ≤ k → k < length x.1 → states_at w k ≡ states_at x k
high_still start x w g at m k high within =
    let long : length w.1 ≡ length x.1 = same_length start x w at m.at in
    moved_other start x w 5 g m k (omega arith) (λ e. absurd (omega arith))

pub climbs_moved : (start : Start) (guard : SetOfVectors) (x w : Scene) (met takers : ℕ) (g : Function) → 8 ≤ met → met < takers → takers + action_count start.task ≤ length x.1 → IsAt start x → Moved start x w 5 g → ClimbsFit (guarded start guard) (states_at x met) (λ k. states_at x (takers + k))
    → ClimbsFit (guarded start guard) (states_at w met) (λ k. states_at w (takers + k))
climbs_moved start guard x w met takers g high apart fit at m fits =
    subst (λ (f : SetOfVectors). ClimbsFit (guarded start guard) f (λ k. states_at w (takers + k))) (sym (high_still start x w g at m met high (omega arith)))
    (record {
      rounds = fits.rounds;
      taken = λ k a below.
          subst (λ (f : SetOfVectors). IsSmall (guarded start guard) (λ v. f v || (near (sys_in (guarded start guard)) (states_at x met) k v && is_action a (stage_action (sys_in (guarded start guard)) (states_at x met) v)))) (sym (high_still start x w g at m (takers + a) (omega arith) (omega arith)))
          (fits.taken k a below);
    })

pub shares_moved : (start : Start) (guard : SetOfVectors) (x w : Scene) (won takers : ℕ) (g : Function) → 8 ≤ won → won < takers → takers + action_count start.task ≤ length x.1 → IsAt start x → Moved start x w 5 g → ShareFits (guarded start guard) (states_at x won) (states_at x won) (λ k. states_at x (takers + k))
    → ShareFits (guarded start guard) (states_at w won) (states_at w won) (λ k. states_at w (takers + k))
shares_moved start guard x w won takers g high apart fit at m fits =
    let here = high_still start x w g at m won high (omega arith) in
    share_fits_as (guarded start guard) (states_at x won) (states_at x won) (states_at w won) (states_at w won) (λ k. states_at x (takers + k)) (λ k. states_at w (takers + k)) here here (λ a below. high_still start x w g at m (takers + a) (omega arith) (omega arith)) fits

changed_after : (start : Start) (x w y : Scene) (g : Function) (from to : ℕ) → IsAt start x → Moved start x w 5 g → ChangedIn start w y from to → ChangedIn start x y from to
changed_after start x w y g from to at m c = record {
  ready = c.ready;
  kept = λ k high within out.
      let long : length w.1 ≡ length x.1 = same_length start x w at m.at in
      let longer : length y.1 ≡ length w.1 = same_length start w y m.at c.ready.at in
      c.kept k high within out ∙ high_still start x w g at m k high (omega arith);
}

pub climbed_after : (start : Start) (guard : SetOfVectors) (x w y : Scene) (met takers : ℕ) (g : Function) → 8 ≤ met → met < takers → takers + action_count start.task ≤ length x.1 → IsAt start x → Moved start x w 5 g → Climbed (guarded start guard) w y met takers → Climbed (guarded start guard) x y met takers
climbed_after start guard x w y met takers g high apart fit at m h =
    let sub = sys_in (guarded start guard) in
    let here = high_still start x w g at m met high (omega arith) in
    record {
      changed = changed_after (guarded start guard) x w y g takers (takers + action_count start.task) at m h.changed;
      taken = λ a below v is.
          h.taken a below v is
          ∙ ap (λ (f : SetOfVectors). f v || (stage_set sub (states_at w met) v && is_action a (stage_action sub (states_at w met) v))) (high_still start x w g at m (takers + a) (omega arith) (omega arith))
          ∙ ap (λ (f : SetOfVectors). states_at x (takers + a) v || (stage_set sub f v && is_action a (stage_action sub f v))) here;
    }

pub taken_after : (start : Start) (guard : SetOfVectors) (x w y : Scene) (won takers : ℕ) (g : Function) → 8 ≤ won → won < takers → takers + action_count start.task ≤ length x.1 → IsAt start x → Moved start x w 5 g → FirstTaken (guarded start guard) w y won won takers → FirstTaken (guarded start guard) x y won won takers
taken_after start guard x w y won takers g high apart fit at m h =
    let sub = sys_in (guarded start guard) in
    let here = high_still start x w g at m won high (omega arith) in
    record {
      changed = changed_after (guarded start guard) x w y g takers (takers + action_count start.task) at m h.changed;
      taken = λ a below v is.
          h.taken a below v is
          ∙ ap (λ (f : SetOfVectors). f v || first_lead sub (states_at w won) (states_at w won) a v) (high_still start x w g at m (takers + a) (omega arith) (omega arith))
          ∙ ap (λ (f : SetOfVectors). states_at x (takers + a) v || first_lead sub f f a v) here;
    }

-- what stands before the states that take actions stays
module _ (start : Start) (x y : Scene) (chain : UntilSets) (i : ℕ) (few : i ≤ start.stages) (h : HasTakers start x chain i)
    (changed : Changed start x y (takers_place (action_count start.task) start.stages i) (takers_place (action_count start.task) start.stages i + action_count start.task)) where
  abbrev A : ℕ
  A = action_count start.task

  abbrev n : ℕ
  n = start.stages

  early : (k : ℕ) → 8 ≤ k → k < 10 + 2 * n → states_at y k ≡ states_at x k
  early k high less = changed.kept k high (long_enough start y changed.ready.at k less) (inl (omega arith))

  pub won_still : Won start y chain 0
  won_still = record {
    wins = λ j from to v is. ap (λ (f : SetOfVectors). f v) (early (win_place j) (omega arith) (omega arith)) ∙ h.won.wins j from to v is;
    mets = λ j from less v is. ap (λ (f : SetOfVectors). f v) (early (met_place j) (omega arith) (omega arith)) ∙ h.won.mets j from less v is;
  }

  pub last_still : SameStates start (states_at y (met_place n)) (λ v. false)
  last_still v is = ap (λ (f : SetOfVectors). f v) (early (met_place n) (omega arith) (omega arith)) ∙ h.last v is

  -- and so do those of the other contexts
  others : (j a : ℕ) → j ≤ n → a < A → j ≢ i → states_at y (takers_place A n j + a) ≡ states_at x (takers_place A n j + a)
  others j a low below differs =
      let fits = takers_within start y changed.ready.at j (omega arith) in
      changed.kept (takers_place A n j + a) (omega arith) (omega arith)
      (⊎_elim
      (λ (l : j < i). let apart = takers_apart A n j i l in inl (let m : takers_place A n j + a < takers_place A n i = omega arith in m))
      (λ (l : i < j). let apart = takers_apart A n i j l in inr (let m : takers_place A n i + A ≤ takers_place A n j + a = omega arith in m))
      (apart_from j i differs))
    where
      apart_from : (j i : ℕ) → j ≢ i → (j < i) ⊎ (i < j)
      apart_from j i differs = ⊎_elim (λ (l : j < i). inl l) (λ (l : i ≤ j). inr (let m : i < j = omega (arith, differs) in m)) (cases_lt j i)

  pub takers_more : ((a : ℕ) → a < A → SameStates start (states_at y (takers_place A n i + a)) (λ v. states_at x (takers_place A n i + a) v || takers_of (sys_of start) chain.keep (drop i chain.stages) a v)) → HasTakers start y chain (suc i)
  takers_more here = record {
    ready = changed.ready;
    fits = h.fits;
    covered = h.covered;
    won = won_still;
    last = last_still;
    taken = λ j a less low below.
        ⊎_elim
        (λ (same : j ≡ i).
        subst (λ k. SameStates start (states_at y (takers_place A n k + a)) (takers_of (sys_of start) chain.keep (drop k chain.stages) a)) (sym same)
        (λ v is. here a below v is ∙ ap (λ b. b || takers_of (sys_of start) chain.keep (drop i chain.stages) a v) (h.untaken i a (omega arith) few below v is)))
        (λ (differs : j ≢ i).
        λ v is.
        ap (λ (f : SetOfVectors). f v) (others j a low below differs)
        ∙ h.taken j a (omega (arith, differs)) low below v is)
        (cases_eq j i);
    untaken = λ j a from low below v is.
        ap (λ (f : SetOfVectors). f v) (others j a low below (λ e. absurd (omega arith)))
        ∙ h.untaken j a (omega arith) low below v is;
  }

-- a stage
pub stage_taken : (start : Start) (x y : Scene) (chain : UntilSets) (i : ℕ) (p : SetStage) (rest : List SetStage) → i < start.stages → drop i chain.stages ≡ p ∷ rest → HasTakers start x chain i
    → Climbed (guarded start p.guard) x y (met_place i) (takers_place (action_count start.task) start.stages i) → HasTakers start y chain (suc i)
stage_taken start x y chain i p rest less is_stage h c =
    let sys = sys_of start in
    let sub = sys_in (guarded start p.guard) in
    let t = takers_place (action_count start.task) start.stages i in
    let found = states_at x (met_place i) in
    let met : SameStates start found (until_met sys chain.keep p rest) =
    λ v is. h.won.mets i (omega arith) less v is ∙ ap (λ (stages : List SetStage). met_first sys chain.keep stages v) is_stage in
    takers_more start x y chain i (omega arith) h (changed_out start p.guard x y t (t + action_count start.task) c.changed)
    (λ a below v is.
    c.taken a below v is
    ∙ ap (λ b. states_at x (t + a) v || (b && is_action a (stage_action sub found v))) (set_as start p.guard found (until_met sys chain.keep p rest) met v is)
    ∙ ap (λ o. states_at x (t + a) v || (guarded_set sys p.guard (until_met sys chain.keep p rest) v && is_action a o)) (action_as start p.guard found (until_met sys chain.keep p rest) met v is)
    ∙ ap (λ (stages : List SetStage). states_at x (t + a) v || takers_of sys chain.keep stages a v) (sym is_stage))

-- the end
pub last_taken : (start : Start) (x y : Scene) (chain : UntilSets) → length chain.stages ≡ start.stages → HasTakers start x chain start.stages
    → FirstTaken (guarded start anywhere) x y (win_place start.stages) (win_place start.stages) (takers_place (action_count start.task) start.stages start.stages) → HasTakers start y chain (suc start.stages)
last_taken start x y chain long h c =
    let sys = sys_of start in
    let n = start.stages in
    let t = takers_place (action_count start.task) n n in
    let is_end : drop n chain.stages ≡ [] = drop_all n chain.stages (omega arith) in
    let won : SameStates start (states_at x (win_place n)) (safe_set sys chain.keep) =
    λ v is. h.won.wins n (omega arith) (omega arith) v is ∙ ap (λ (stages : List SetStage). until_win sys chain.keep stages v) is_end in
    takers_more start x y chain n (omega arith) h (changed_out start anywhere x y t (t + action_count start.task) c.changed)
    (λ a below v is.
    c.taken a below v is
    ∙ ap (λ o. states_at x (t + a) v || (states_at x (win_place n) v && is_action a o)) (first_same (guarded start anywhere) (states_at x (win_place n)) (safe_set sys chain.keep) won v is ∙ first_anywhere sys (safe_set sys chain.keep) v)
    ∙ ap (λ b. states_at x (t + a) v || (b && is_action a (find (must_lead sys (safe_set sys chain.keep) v) (action_numbers sys)))) (won v is)
    ∙ ap (λ (stages : List SetStage). states_at x (t + a) v || takers_of sys chain.keep stages a v) (sym is_end))

-- at the beginning none is taken
pub takers_none : (start : Start) (x y : Scene) (chain : UntilSets) → UntilFits start chain → ((k : ℕ) → 8 ≤ k → k < length x.1 → SameStates start (states_at x k) (λ v. false)) → length y.1 ≡ length x.1 → HasWins start x y chain 0 → covers_until (sys_of start) chain ≡ true → HasTakers start y chain 0
takers_none start x y chain fits blank same h covered = record {
  ready = h.changed.ready;
  fits = fits;
  covered = covered;
  won = h.won;
  last = λ v is.
      let w = long_enough start y h.changed.ready.at (met_place start.stages) (omega arith) in
      ap (λ (f : SetOfVectors). f v) (h.changed.kept (met_place start.stages) (omega arith) w (inr (omega arith)))
      ∙ blank (met_place start.stages) (omega arith) (omega arith) v is;
  taken = λ j a less low below. absurd (omega arith);
  untaken = λ j a from low below v is.
      let t = takers_place (action_count start.task) start.stages j in
      let long = takers_within start y h.changed.ready.at j (omega arith) in
      ap (λ (f : SetOfVectors). f v) (h.changed.kept (t + a) (omega arith) (omega arith) (inr (omega arith)))
      ∙ blank (t + a) (omega arith) (omega arith) v is;
}

-- as the code has it: by the places that it computed
pub stage_taken_at : (start : Start) (x y : Scene) (chain : UntilChain) (stage : UntilStage) (i n met takers : ℕ) → length chain.stages.items ≡ n → start.stages ≡ n → i < n → stage ≡ slice_index_or chain.stages.items i stage → met ≡ met_place i → takers ≡ takers_place (action_count start.task) start.stages i
    → HasTakers start x (until_sets chain) i → Climbed (guarded start (states_of stage.guard)) x y met takers → HasTakers start y (until_sets chain) (i + 1)
stage_taken_at start x y chain stage i n met takers long stages less is is_met is_takers h c =
    let here : drop i (until_sets chain).stages ≡ stage_sets stage ∷ drop (suc i) (until_sets chain).stages =
    drop_some stage_sets chain.stages.items i stage (omega arith) ∙ ap (λ (s : UntilStage). stage_sets s ∷ drop (suc i) (until_sets chain).stages) (sym is) in
    subst (HasTakers start y (until_sets chain)) (let e : suc i ≡ i + 1 = omega arith in e)
    (stage_taken start x y (until_sets chain) i (stage_sets stage) _ (omega arith) here h
    (subst (λ k. Climbed (guarded start (states_of stage.guard)) x y k (takers_place (action_count start.task) start.stages i)) is_met (subst (Climbed (guarded start (states_of stage.guard)) x y met) is_takers c)))

pub last_taken_at : (start : Start) (x y : Scene) (chain : UntilSets) (i n won takers : ℕ) → length chain.stages ≡ n → start.stages ≡ n → i ≡ n → won ≡ win_place n → takers ≡ takers_place (action_count start.task) start.stages n
    → HasTakers start x chain i → FirstTaken (guarded start anywhere) x y won won takers → HasTakers start y chain (suc n)
last_taken_at start x y chain i n won takers long stages is_n is_won is_takers h c =
    subst (λ k. HasTakers start y chain (suc k)) stages
    (last_taken start x y chain (long ∙ sym stages) (subst (HasTakers start x chain) (is_n ∙ sym stages) h)
    (subst (λ k. FirstTaken (guarded start anywhere) x y (win_place k) (win_place k) (takers_place (action_count start.task) start.stages k)) (sym stages)
    (subst (λ k. FirstTaken (guarded start anywhere) x y k k (takers_place (action_count start.task) start.stages n)) is_won (subst (FirstTaken (guarded start anywhere) x y won won) is_takers c))))
