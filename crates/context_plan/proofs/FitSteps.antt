-- By a width of the working sets, all that a search makes is small.
use Rattle.std.proofs.Common.{◌≡◌, ℕ, suc, ◌+◌, ◌-◌, ◌<◌, ◌≤◌, ◌^◌, ◌==◌, ◌&&◌, ◌||◌, List, [], ◌∷◌, Contains, drop, length, map, slice_index_or, sym, ap, subst, ◌∙◌, inr, arith}
use Rattle.std.specs.Prelude.{nat_le}
use Rattle.std.proofs.lemmas.Bool.{eq-eqb, eqb-true, le-leb, leb-true}
use Rattle.std.proofs.lemmas.List.Elements.{Contains-get_or}
use Rattle.std.proofs.lemmas.List.{drop_all}
use Rattle.dd_nodes.specs.Subfunctions.{Function}
use Rattle.dd_sets.specs.Rooms.{Small}
use Rattle.dd_sets.proofs.SizeLemmas.{every_small}
use Rattle.encode_task.specs.TaskSets.{initial_set, space_set}
use Rattle.preimage.specs.WorkingSets.{IsMadeByRound, first_every}
use Rattle.preimage.specs.WorkingSets.IsMadeByRound.{itself}
use Rattle.slot_board.specs.Board as board
use Rattle.slot_board.specs.Board.{Scene, set_at}
use Rattle.plan_theory.specs.GuardedSets.{anywhere}
use Rattle.plan_theory.specs.UntilChains.{SetStage, UntilSets, guarded_from, until_met_count, until_win}
use Rattle.plan_theory.specs.LayerPlans.{is_action}
use Rattle.plan_theory.specs.Safe.{safe_action, safe_round, safe_set}
use Rattle.plan_theory.specs.StageSets.{near, stage_action}
use Rattle.list_laws.proofs.Booleans.{same_truth}
use Rattle.list_laws.proofs.Numbers.{below_power}
use Rattle.task_core.specs.Cubes.{SetOfVectors}
use Rattle.task_core.specs.Systems.{System}
use Rattle.task_core.specs.Tasks.{action_count, fluent_count}
use Rattle.task_core.specs.declared.tasks.Task.{Task}
use Rattle.task_core.proofs.TaskSystem.{is_system}
use Rattle.ctl_syntax.specs.Conditions.{states_of}
use Rattle.ctl_syntax.specs.GoalValues.{stage_sets}
use Rattle.ctl_syntax.specs.declared.context_goals.UntilChain.{UntilChain}
use Rattle.ctl_syntax.specs.declared.context_goals.UntilStage.{UntilStage}
use Rattle.context_plan.specs.Chains.{until_sets}
use Rattle.context_plan.specs.Rounds.{first_lead, from_stage, turning_at}
use Rattle.context_plan.specs.Scenes.{IsReady, SameStates, Start, board_of, guarded, met_place, states_at, sys_in, sys_of, takers_place, win_place}
use Rattle.context_plan.specs.Sizes.{ClimbsFit, ConditionsFit, EndFits, IsSmall, RoundFits, SearchFits, ShareFits, StageFits, TurnsFit, UntilFits}
use Rattle.context_plan.specs.Steps.{HasTakers, HasWins}
use Rattle.context_plan.specs.WorkingSets.{IsRoundSet, BoundsUntilSets, function_of, guard_first, guard_in, hits_inside, kept_states, met_first, met_in, near_in, taken_at_end, taken_within, turning_from, turning_to}
use Rattle.context_plan.specs.WorkingSets.IsRoundSet.{all_states, initial_states, left, near_stage}
use Rattle.context_plan.specs.WorkingSets.IsWorkingSet.{of_guard, of_keep, of_round, of_target, taken, taken_last, turned, turned_later}
use Rattle.context_plan.specs.declared.rounds.Way.TheVariants.{Growing, Shrinking}
use Rattle.context_plan.proofs.Guards.{near_inside}
use Rattle.context_plan.proofs.GuardSteps.{action_as, first_anywhere, near_as, safe_anywhere, safe_set_anywhere}
use Rattle.context_plan.proofs.KeptSteps.{safe_kept}
use Rattle.context_plan.proofs.PlanSteps.{stage_count}
use Rattle.context_plan.proofs.SetFits.{rounds_fit}
use Rattle.context_plan.proofs.SizeSteps.{placed_small, rough_left, round_fits_same, small_same}
use Rattle.context_plan.proofs.SceneSteps.{long_enough}
use Rattle.context_plan.proofs.StageLemmas.{first_same, near_same}
use Rattle.context_plan.proofs.WinSteps.{drop_some}

-- stages are counted from 1 or from 0
guarded_from_one : (c : ℕ) (stages : List SetStage) → guarded_from (suc c) stages ≡ drop c stages
guarded_from_one c stages = ap (λ k. drop k stages) (let e : suc c - 1 ≡ c = omega arith in e)

same_number : (c j k : ℕ) → (suc c + k == suc j) ≡ (c + k == j)
same_number c j k =
    same_truth (suc c + k == suc j) (c + k == j)
    (λ h. let e : suc c + k ≡ suc j = eqb-true (suc c + k) (suc j) h in eq-eqb (c + k) j (omega arith))
    (λ h. let e : c + k ≡ j = eqb-true (c + k) j h in eq-eqb (suc c + k) (suc j) (omega arith))

no_less : (c j k : ℕ) → nat_le (suc j) (suc c + k) ≡ nat_le j (c + k)
no_less c j k =
    same_truth (nat_le (suc j) (suc c + k)) (nat_le j (c + k))
    (λ h. let e : suc j ≤ suc c + k = leb-true (suc j) (suc c + k) h in le-leb j (c + k) (omega arith))
    (λ h. let e : j ≤ c + k = leb-true j (c + k) h in le-leb (suc j) (suc c + k) (omega arith))

module _ (start : Start) (chain : UntilChain) (long : start.stages ≡ length chain.stages.items) (wide : BoundsUntilSets start.width start.task chain) where
  abbrev n : ℕ
  n = fluent_count start.task

  abbrev sys : System
  sys = sys_of start

  abbrev sets : UntilSets
  sets = until_sets chain

  stages_long : length sets.stages ≡ start.stages
  stages_long = stage_count chain start.stages long

  -- the sets of a round set
  of_set : (guard : SetOfVectors) (set f : Function) → IsRoundSet start.task sets guard set → IsMadeByRound start.task first_every (hits_inside start.task guard set) set f → Small n start.width f
  of_set guard set f is made = wide.small f (of_round f (guard, set, is, made))

  round_fits : (guard set : SetOfVectors) → IsRoundSet start.task sets guard (function_of n set) → RoundFits (guarded start guard) set
  round_fits guard set is =
      rounds_fit start guard set (λ f made. of_set guard (function_of n set) f is made)
      (λ f made. of_set anywhere (space_set start.task) f all_states made)

  turning_fits : (c j : ℕ) → c ≤ j → j ≤ start.stages → IsSmall start (turning_at sys sets c j)
  turning_fits c j from few =
      small_same start (turning_to sys sets (suc c) (suc j)) (turning_at sys sets c j)
      (λ v is.
      ap (λ (s : List SetStage). until_win sys sets.keep s v && (suc c + until_met_count sys sets.keep s v == suc j)) (guarded_from_one c sets.stages)
      ∙ ap (λ b. until_win sys sets.keep (drop c sets.stages) v && b) (same_number c j (until_met_count sys sets.keep (drop c sets.stages) v)))
      (wide.small _ (turned (suc c) (suc j) (omega arith) (omega arith) (omega (arith, long))))

  later_fits : (c j : ℕ) → c ≤ j → j ≤ start.stages → IsSmall start (from_stage sys sets c j)
  later_fits c j from few =
      small_same start (turning_from sys sets (suc c) (suc j)) (from_stage sys sets c j)
      (λ v is.
      ap (λ (s : List SetStage). until_win sys sets.keep s v && nat_le (suc j) (suc c + until_met_count sys sets.keep s v)) (guarded_from_one c sets.stages)
      ∙ ap (λ b. until_win sys sets.keep (drop c sets.stages) v && b) (no_less c j (until_met_count sys sets.keep (drop c sets.stages) v)))
      (wide.small _ (turned_later (suc c) (suc j) (omega arith) (omega arith) (omega (arith, long))))

  near_fits : (i : ℕ) → i < start.stages → TurnsFit Growing (guarded start (guard_in sets i)) (met_in sys sets i)
  near_fits i less k =
      round_fits_same (guarded start (guard_in sets i)) (near_in sys sets i k) (near (sys_in (guarded start (guard_in sets i))) (met_in sys sets i) k)
      (λ v is. sym (near_inside sys (guard_in sets i) (met_in sys sets i) k v))
      (round_fits (guard_in sets i) (near_in sys sets i k) (near_stage i k (omega (arith, stages_long))))

  kept_fits : TurnsFit Shrinking (guarded start anywhere) (kept_states sys sets.keep)
  kept_fits k =
      round_fits_same (guarded start anywhere) (safe_round sys (kept_states sys sets.keep) k) (safe_round (sys_in (guarded start anywhere)) (kept_states sys sets.keep) k)
      (λ v is. sym (safe_anywhere sys (kept_states sys sets.keep) k v))
      (round_fits anywhere (safe_round sys (kept_states sys sets.keep) k) (left k))

  pub search_fits : SearchFits start chain
  search_fits = record {
    sets = record {
      initial = of_set anywhere (initial_set start.task) (initial_set start.task) initial_states itself;
      space = of_set anywhere (space_set start.task) (space_set start.task) all_states itself;
      kept = kept_fits;
      near = near_fits;
      taken = λ i k a covered less below. wide.small _ (taken i k a covered (omega (arith, long)) below);
      last = λ a covered below. wide.small _ (taken_last a covered below);
      turning = turning_fits;
      later = later_fits;
    };
    keep = λ set part. wide.small set (of_keep set part);
    stages = λ stage has. record {
      guard = λ set part. wide.small set (of_guard stage set has part);
      target = λ set part. wide.small set (of_target stage set has part);
    };
  }

-- where a condition is to be kept, and where a stage is to be met
pub end_fits : (start : Start) (chain : UntilChain) → SearchFits start chain → EndFits start chain.keep
end_fits start chain fits = record {
  condition = fits.keep;
  space = fits.sets.space;
  rounds = fits.sets.kept;
}

pub stage_fits : (start : Start) (x y : Scene) (chain : UntilChain) (i : ℕ) (stage : UntilStage) → i < start.stages → Contains chain.stages.items stage → drop i (until_sets chain).stages ≡ stage_sets stage ∷ drop (suc i) (until_sets chain).stages
    → HasWins start x y (until_sets chain) (suc i) → SearchFits start chain → StageFits start stage (states_at y (win_place i + 2))
stage_fits start x y chain i stage less has here h fits =
    let sys = sys_of start in
    let keep = (until_sets chain).keep in
    let guard = states_of stage.guard in
    let won : SetOfVectors = λ v. states_of stage.target v && states_at y (win_place i + 2) v in
    let met : SameStates start (met_in sys (until_sets chain) i) won =
    λ v is.
    ap (λ (s : List SetStage). met_first sys keep s v) here
    ∙ ap (λ b. states_of stage.target v && b)
    (sym (h.won.wins (suc i) (omega arith) (omega arith) v is)
    ∙ ap (λ k. states_at y k v) (let e : win_place (suc i) ≡ win_place i + 2 = omega arith in e)) in
    let near_fit : TurnsFit Growing (guarded start guard) (met_in sys (until_sets chain) i) =
    subst (λ (s : List SetStage). TurnsFit Growing (guarded start (guard_first s)) (met_in sys (until_sets chain) i)) here (fits.sets.near i less) in
    record {
      conditions = fits.stages stage has;
      rounds = λ k. round_fits_same (guarded start guard) (near (sys_in (guarded start guard)) (met_in sys (until_sets chain) i) k) (near (sys_in (guarded start guard)) won k)
          (near_same (guarded start guard) (met_in sys (until_sets chain) i) won met k)
          (near_fit k);
    }

-- where the states of a stage's context take their actions
pub stage_climbs : (start : Start) (x : Scene) (chain : UntilSets) (i : ℕ) → i < start.stages → HasTakers start x chain i
    → ClimbsFit (guarded start (guard_in chain i)) (states_at x (met_place i)) (λ a. states_at x (takers_place (action_count start.task) start.stages i + a))
stage_climbs start x chain i less h =
    let sys = sys_of start in
    let guard = guard_in chain i in
    let inside = guarded start guard in
    let found = states_at x (met_place i) in
    let same : SameStates start (met_in sys chain i) found = λ v is. sym (h.won.mets i (omega arith) less v is) in
    let back : SameStates start found (met_in sys chain i) = λ v is. h.won.mets i (omega arith) less v is in
    record {
      rounds = λ k. round_fits_same inside (near (sys_in inside) (met_in sys chain i) k) (near (sys_in inside) found k) (near_same inside (met_in sys chain i) found same k) (h.fits.near i less k);
      taken = λ k a below.
          small_same start (taken_within sys chain i k a) (λ v. states_at x (takers_place (action_count start.task) start.stages i + a) v || (near (sys_in inside) found k v && is_action a (stage_action (sys_in inside) found v)))
          (λ v is.
          sym (ap (λ b. b || (near (sys_in inside) found k v && is_action a (stage_action (sys_in inside) found v))) (h.untaken i a (omega arith) (omega arith) below v is)
          ∙ ap (λ b. b && is_action a (stage_action (sys_in inside) found v)) (near_as start guard found (met_in sys chain i) back k v is)
          ∙ ap (λ o. near_in sys chain i k v && is_action a o) (action_as start guard found (met_in sys chain i) back v is)))
          (h.fits.taken i k a h.covered less below);
    }

-- and where those of the last one do
pub end_shares : (start : Start) (x : Scene) (chain : UntilSets) → length chain.stages ≡ start.stages → HasTakers start x chain start.stages
    → ShareFits (guarded start anywhere) (states_at x (win_place start.stages)) (states_at x (win_place start.stages)) (λ a. states_at x (takers_place (action_count start.task) start.stages start.stages + a))
end_shares start x chain long h =
    let sys = sys_of start in
    let inside = guarded start anywhere in
    let n = start.stages in
    let won = states_at x (win_place n) in
    let is_end : drop n chain.stages ≡ [] = drop_all n chain.stages (omega arith) in
    let safe : SameStates start (safe_set sys chain.keep) won =
    λ v is. sym (h.won.wins n (omega arith) (omega arith) v is ∙ ap (λ (stages : List SetStage). until_win sys chain.keep stages v) is_end) in
    let round : RoundFits inside won =
    round_fits_same inside (safe_round (sys_in inside) (kept_states sys chain.keep) (2 ^ sys.fluents)) won
    (λ v is. safe_set_anywhere sys (kept_states sys chain.keep) v ∙ safe_kept sys (is_system start.task) chain.keep v ∙ safe v is) (h.fits.kept (2 ^ sys.fluents)) in
    let first : (a : ℕ) → a < action_count start.task → IsSmall start (first_lead (sys_in inside) won won a) =
    λ a below.
    small_same start (taken_at_end sys chain a) (first_lead (sys_in inside) won won a)
    (λ v is.
    ap (λ b. b && is_action a (safe_action sys chain.keep v)) (safe v is)
    ∙ ap (λ o. won v && is_action a o) (sym (first_anywhere sys (safe_set sys chain.keep) v) ∙ first_same inside (safe_set sys chain.keep) won safe v is))
    (h.fits.last a h.covered below) in
    record {
      lead = λ a below. round.lead a below;
      first = first;
      taken = λ a below.
          small_same start (first_lead (sys_in inside) won won a) (λ v. states_at x (takers_place (action_count start.task) start.stages n + a) v || first_lead (sys_in inside) won won a v)
          (λ v is. ap (λ b. b || first_lead (sys_in inside) won won a v) (sym (h.untaken n a (omega arith) (omega arith) below v is)))
          (first a below);
      left = λ m few. rough_left inside won m few round;
    }

-- as the code has it: by the places that it computed
pub stage_climbs_at : (start : Start) (x : Scene) (chain : UntilChain) (stage : UntilStage) (i n met takers : ℕ) → length chain.stages.items ≡ n → start.stages ≡ n → i < n → stage ≡ slice_index_or chain.stages.items i stage → met ≡ met_place i → takers ≡ takers_place (action_count start.task) start.stages i
    → HasTakers start x (until_sets chain) i → ClimbsFit (guarded start (states_of stage.guard)) (states_at x met) (λ a. states_at x (takers + a))
stage_climbs_at start x chain stage i n met takers long stages less is is_met is_takers h =
    let here : drop i (until_sets chain).stages ≡ stage_sets stage ∷ drop (suc i) (until_sets chain).stages =
    drop_some stage_sets chain.stages.items i stage (omega arith) ∙ ap (λ (s : UntilStage). stage_sets s ∷ drop (suc i) (until_sets chain).stages) (sym is) in
    subst (λ k. ClimbsFit (guarded start (states_of stage.guard)) (states_at x k) (λ a. states_at x (takers + a))) (sym is_met)
    (subst (λ k. ClimbsFit (guarded start (states_of stage.guard)) (states_at x (met_place i)) (λ a. states_at x (k + a))) (sym is_takers)
    (subst (λ (s : List SetStage). ClimbsFit (guarded start (guard_first s)) (states_at x (met_place i)) (λ a. states_at x (takers_place (action_count start.task) start.stages i + a))) here (stage_climbs start x (until_sets chain) i (omega arith) h)))

pub conditions_at : (start : Start) (chain : UntilChain) (stage : UntilStage) (i n : ℕ) → length chain.stages.items ≡ n → i < n → stage ≡ slice_index_or chain.stages.items i stage → SearchFits start chain → ConditionsFit start stage
conditions_at start chain stage i n long less is fits =
    fits.stages stage (subst (λ (s : UntilStage). Contains chain.stages.items s) (sym is) (Contains-get_or chain.stages.items i stage (omega arith)))

pub end_shares_at : (start : Start) (x : Scene) (chain : UntilSets) (i n won takers : ℕ) → length chain.stages ≡ n → start.stages ≡ n → i ≡ n → won ≡ win_place n → takers ≡ takers_place (action_count start.task) start.stages n → HasTakers start x chain i
    → ShareFits (guarded start anywhere) (states_at x won) (states_at x won) (λ a. states_at x (takers + a))
end_shares_at start x chain i n won takers long stages is_n is_won is_takers h =
    subst (λ k. ShareFits (guarded start anywhere) (states_at x k) (states_at x k) (λ a. states_at x (takers + a))) (sym is_won)
    (subst (λ k. ShareFits (guarded start anywhere) (states_at x (win_place n)) (states_at x (win_place n)) (λ a. states_at x (k + a))) (sym is_takers)
    (subst (λ k. ShareFits (guarded start anywhere) (states_at x (win_place k)) (states_at x (win_place k)) (λ a. states_at x (takers_place (action_count start.task) start.stages k + a))) stages
    (end_shares start x chain (long ∙ sym stages) (subst (HasTakers start x chain) (is_n ∙ sym stages) h))))

pub stage_fits_at : (start : Start) (x y : Scene) (chain : UntilChain) (i place : ℕ) (stage : UntilStage) → 0 < i → i ≤ start.stages → place ≡ win_place (i - 1) → i - 1 < length chain.stages.items → stage ≡ slice_index_or chain.stages.items (i - 1) stage → HasWins start x y (until_sets chain) i → SearchFits start chain
    → StageFits start stage (states_at y (place + 2))
stage_fits_at start x y chain i place stage some few is_place less is h fits =
    let items = chain.stages.items in
    subst (λ k. StageFits start stage (states_at y (k + 2))) (sym is_place)
    (stage_fits start x y chain (i - 1) stage (omega arith) (subst (λ (s : UntilStage). Contains items s) (sym is) (Contains-get_or items (i - 1) stage less))
    (drop_some stage_sets items (i - 1) stage less ∙ ap (λ (s : UntilStage). stage_sets s ∷ drop (suc (i - 1)) (map stage_sets items)) (sym is))
    (subst (HasWins start x y (until_sets chain)) (let e : i ≡ suc (i - 1) = omega arith in e) h) fits)

-- the initial states are looked up among those of the first context
pub test_fits : (start : Start) (x : Scene) (place : ℕ) (chain : UntilSets) → place ≡ win_place 0 → IsReady start x → UntilFits start chain → board.TestFits (board_of start) (set_at x.0.sets x.1 place)
test_fits start x place chain is ready fits =
    (fits.initial, placed_small start x ready.at place (let low = long_enough start x ready.at 8 (omega arith) in omega arith) (inr (omega arith)))

-- by a large width every set is small
pub widest : (task : Task) (chain : UntilChain) → BoundsUntilSets (2 ^ fluent_count task + 1) task chain
widest task chain = record {
  fluents = let p = below_power (fluent_count task) in omega arith;
  small = λ set is. every_small (fluent_count task) set;
}
