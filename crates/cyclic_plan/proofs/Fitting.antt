-- The sets that a search makes are working sets, or are made of two of these.
use Rattle.std.proofs.Common.{◌≡◌, ◌≢◌, ℕ, zero, suc, ◌+◌, ◌<◌, ◌≤◌, ◌^◌, Bool, true, false, ◌&&◌, ◌||◌, not, List, [], ◌∷◌, length, map, slice_index_or, take, take_all, refl, sym, ap, subst, ◌∙◌, ⊎_elim, inr, arith, Contains}
use Rattle.std.specs.List.{list_all, list_any, range_with_len}
use Rattle.std.proofs.Math.Path.{fun_ext}
use Rattle.std.proofs.lemmas.List.FromFn.{get_or-map-range_with_len, length-map-range_with_len}
use Rattle.std.proofs.lemmas.List.Folds.{list_any-append}
use Rattle.list_laws.proofs.Booleans.{or_false, and_true}
use Rattle.dd_nodes.specs.NodeList.{Values}
use Rattle.dd_nodes.specs.Subfunctions.{DependsOnly, Function}
use Rattle.dd_ops.specs.Operations.{and_of, minus_of, or_of}
use Rattle.dd_sets.specs.LiveSets.{everything, nothing}
use Rattle.dd_sets.specs.Rooms.{Rough}
use Rattle.dd_sets.specs.declared.slots.SetId.{SetId}
use Rattle.dd_sets.proofs.OperationSizes.{agreeing_sized, constants_small, difference_rough, meet_rough}
use Rattle.dd_sets.proofs.SizeLemmas.{every_small}
use Rattle.encode_task.specs.Slots.{Encoded}
use Rattle.encode_task.specs.TaskSets.{exec_set, first_values, initial_set, lands_set, led_into, space_set, states_in}
use Rattle.encode_task.proofs.ShownLemmas.{first_are}
use Rattle.preimage.specs.Preimages.{weak_preimage}
use Rattle.preimage.specs.WorkingSets.{IsMadeByRound, PreimageFits, first_every, first_some, hits_at, some_below}
use Rattle.preimage.specs.WorkingSets.IsMadeByRound.{itself, hit, first_led, joined, led}
use Rattle.preimage.proofs.Leads.{weak_agrees}
use Rattle.task_core.specs.Actions.{after_value}
use Rattle.task_core.specs.Cubes.{SetOfVectors}
use Rattle.task_core.specs.Systems.{IsVector, System}
use Rattle.task_core.specs.Tasks.{action_count, fluent_count, outcomes_at, system_of}
use Rattle.task_core.specs.Vectors.{Vector, value_of}
use Rattle.task_core.specs.declared.actions.Outcome.{Outcome}
use Rattle.task_core.specs.declared.classes.Class.TheVariants.{Weak}
use Rattle.task_core.specs.declared.tasks.Task.{Task}
use Rattle.plan_theory.specs.LargestSets.{IsLargestSet, covers}
use Rattle.plan_theory.specs.Layers.{layer, may_lead}
use Rattle.plan_theory.specs.LayerPlans.{takers}
use Rattle.plan_theory.specs.PairRounds.{kept, progress, round}
use Rattle.plan_theory.specs.Pairs.{Pairs, is_goal, restricted}
use Rattle.list_laws.proofs.Numbers.{below_power_two}
use Rattle.list_laws.proofs.Ranges.{range-more}
use Rattle.slot_board.specs.Board.{At, Fits, IsSmall, LeadFits, Start, TestFits, first_of, set_at}
use Rattle.slot_board.specs.declared.board.Outcomes.{Outcomes as HowMany}
use Rattle.slot_board.specs.declared.board.Outcomes.TheVariants as Outcomes
use Rattle.cyclic_plan.specs.Stages.{Agrees, IsFit, IsLeft, IsNear, IsSmallSet, kept_system, next_by, rough_places}
use Rattle.cyclic_plan.specs.WorkingSets.{BoundsCyclicSets, near_set, pair_hits, pair_set, pairs_in}
use Rattle.cyclic_plan.specs.WorkingSets.IsTaskRound.{initial_round, space_round}
use Rattle.cyclic_plan.specs.WorkingSets.IsWorkingSet.{by_near, by_rounds, paired, taken}
use Rattle.cyclic_plan.proofs.StageSteps.{may_restricted}

-- every width is one that is greater than the number of lists of truth values
pub all_wide : (task : Task) → BoundsCyclicSets (2 ^ fluent_count task + 1) task
all_wide task = record {
  wide = below_power_two (fluent_count task);
  each = λ set working. every_small (fluent_count task) set;
}

-- sets that have the same states are small by the same width
same_small : (start : Start) (f g : Function) → ((v : Vector) → IsVector (system_of start.task) v → f (value_of v) ≡ g (value_of v)) → IsSmall start f → IsSmall start g
same_small start f g same = (agreeing_sized (fluent_count start.task) f g same start.width).0

pub set_as : (start : Start) (set other : SetOfVectors) → ((v : Vector) → IsVector (system_of start.task) v → set v ≡ other v) → IsSmallSet start set → IsSmallSet start other
set_as start set other same small f agrees = small f (λ v is. agrees v is ∙ sym (same v is))

-- a set of states as a function
states_at : (task : Task) (set : SetOfVectors) (v : Vector) → length v ≡ fluent_count task → states_in task set (value_of v) ≡ set v
states_at task set v is = ap set (first_are (fluent_count task) (value_of v) v is (λ u l. refl))

states_small : (start : Start) (set : SetOfVectors) → IsSmall start (states_in start.task set) → IsSmallSet start set
states_small start set small f agrees = same_small start (states_in start.task set) f (λ v is. states_at start.task set v is ∙ sym (agrees v is)) small

states_depend : (task : Task) (set : SetOfVectors) → DependsOnly 0 (fluent_count task) (states_in task set)
states_depend task set s t same = ap set (first_same (fluent_count task) 0 (λ u low high. same u low (omega arith)))
  where
    first_same : (n first : ℕ) → ((u : ℕ) → first ≤ u → u < first + n → s u ≡ t u) → map s (range_with_len first n) ≡ map t (range_with_len first n)
    first_same zero first each = refl
    first_same (suc n) first each = λ z. each first (omega arith) (omega arith) z ∷ first_same n (first + 1) (λ u low high. each u (omega arith) (omega arith)) z

states_are : (start : Start) (set : SetOfVectors) (f : Function) → DependsOnly 0 (fluent_count start.task) f → Agrees start f set → f ≡ states_in start.task set
states_are start set f depends agrees = fun_ext (λ values.
    let n = fluent_count start.task in
    depends values (value_of (first_values n values)) (λ u low high. sym (get_or-map-range_with_len values 0 n u u false high (let e : 0 + u ≡ u = omega arith in e)))
    ∙ agrees (first_values n values) (length-map-range_with_len values 0 n))

-- an action's preimage is its hits
led_hits : (task : Task) (set : Function) (a : ℕ) → weak_preimage task a set ≡ hits_at first_some task set a
led_hits task set a =
    fun_ext (λ values.
    ap (λ (outcomes : List Outcome). exec_set task a values && list_any (λ o. space_set task (after_value o values) && set (after_value o values)) outcomes)
    (sym (take_all (length (outcomes_at task a)) (outcomes_at task a) (omega arith))))

either_way : (b : Bool) → (not b || b) ≡ (not b || true)
either_way true = refl
either_way false = refl

module _ (start : Start) (fit : IsFit start) where
  pub nothing_small : IsSmall start nothing
  nothing_small = (constants_small (fluent_count start.task) start.width (let w = fit.wide.wide in omega arith)).0

  pub everything_small : IsSmall start everything
  everything_small = (constants_small (fluent_count start.task) start.width (let w = fit.wide.wide in omega arith)).1

  -- what belongs to the initial states and to all states is small
  space_small : (f : Function) → IsMadeByRound start.task first_every (hits_at first_every start.task (space_set start.task)) (space_set start.task) f → IsSmall start f
  space_small f made = fit.wide.each f (by_rounds Outcomes.Every f (space_set start.task, space_round, made))

  pub space_itself : IsSmall start (space_set start.task)
  space_itself = space_small (space_set start.task) itself

  pub initial_small : IsSmall start (initial_set start.task)
  initial_small = fit.wide.each (initial_set start.task) (by_rounds Outcomes.Some (initial_set start.task) (initial_set start.task, initial_round, itself))

  exec_small : (a : ℕ) → a < action_count start.task → IsSmall start (exec_set start.task a)
  exec_small a within =
      same_small start (first_every start.task a 0 (space_set start.task)) (exec_set start.task a) (λ v is. and_true (exec_set start.task a (value_of v)))
      (space_small (first_every start.task a 0 (space_set start.task)) (first_led a within 0))

  lands_small : (a : ℕ) → a < action_count start.task → (o : ℕ) → o < length (outcomes_at start.task a) → IsSmall start (lands_set start.task a o)
  lands_small a within o low = space_small (lands_set start.task a o) (led a within o low (space_set start.task) (record { first = []; few = omega arith; fixes = λ values. refl }))

  -- what belongs to the states near the goal is small
  near_small : (outcomes : HowMany) (r k : ℕ) (f : Function) → IsMadeByRound start.task (first_of outcomes) (pair_hits outcomes start.task r k) (near_set start.task r k) f → IsSmall start f
  near_small outcomes r k f made = fit.wide.each f (by_near outcomes r k f made)

  near_fits : (outcomes : HowMany) (r k a : ℕ) → a < action_count start.task → PreimageFits start.width start.task a (first_of outcomes) (near_set start.task r k)
  near_fits outcomes r k a within = record {
    wide = fit.wide.wide;
    given = near_small outcomes r k _ itself;
    exec = exec_small a within;
    lands = lands_small a within;
    firsts = λ j. near_small outcomes r k _ (first_led a within j);
    led = λ o low g part. near_small outcomes r k _ (led a within o low g part);
  }

  -- where all lists of truth values are left, an action that can be executed leads nowhere else
  every_space : (a j : ℕ) → first_every start.task a j everything ≡ first_every start.task a j (space_set start.task)
  every_space a j = fun_ext (λ values. ap (λ b. exec_set start.task a values && b) (all values (take j (outcomes_at start.task a))))
    where
      all : (values : Values) (outcomes : List Outcome) → list_all (λ o. not (space_set start.task (after_value o values)) || everything (after_value o values)) outcomes
          ≡ list_all (λ o. not (space_set start.task (after_value o values)) || space_set start.task (after_value o values)) outcomes
      all values [] = refl
      all values (o ∷ outcomes) = λ z. sym (either_way (space_set start.task (after_value o values))) z && all values outcomes z

  everything_fits : (a : ℕ) → a < action_count start.task → PreimageFits start.width start.task a first_every everything
  everything_fits a within = record {
    wide = fit.wide.wide;
    given = everything_small;
    exec = exec_small a within;
    lands = lands_small a within;
    firsts = λ j. subst (IsSmall start) (sym (every_space a j)) (space_small _ (first_led a within j));
    led = λ o low g part. same_small start everything (led_into start.task a o g) (λ v is. sym (part.fixes _)) everything_small;
  }

  -- the states of a round's pairs
  pub pairs_small : (left : SetOfVectors) → IsLeft start left → (a : ℕ) → a < action_count start.task → IsSmallSet start (λ v. kept (system_of start.task) left v a)
  pairs_small left by a within =
      subst (λ (l : SetOfVectors). IsSmallSet start (λ v. kept (system_of start.task) l v a)) (sym by.1)
      (states_small start (λ v. pairs_in start.task by.0 v a) (fit.wide.each (pair_set start.task by.0 a) (paired by.0 a within)))

  -- the states that are left, and where an action leads into them alone
  pub left_small : (left : SetOfVectors) → IsLeft start left → IsSmallSet start left
  left_small left by = subst (IsSmallSet start) (sym by.1) (go by.0)
    where
      go : (r : ℕ) → IsSmallSet start (round (system_of start.task) r)
      go zero = λ f agrees. same_small start everything f (λ v is. sym (agrees v is)) everything_small
      go (suc r) = states_small start (round (system_of start.task) (suc r)) (near_small Outcomes.Every r (2 ^ fluent_count start.task) _ itself)

  pub left_fits : (left : SetOfVectors) → IsLeft start left → (f : Function) → DependsOnly 0 (fluent_count start.task) f → Agrees start f left → (a : ℕ) → a < action_count start.task → LeadFits start Outcomes.Every a f
  left_fits left by f depends agrees a within =
      subst (PreimageFits start.width start.task a first_every) (sym (states_are start left f depends agrees ∙ ap (states_in start.task) by.1)) (go by.0)
    where
      go : (r : ℕ) → PreimageFits start.width start.task a first_every (states_in start.task (round (system_of start.task) r))
      go zero = everything_fits a within
      go (suc r) = near_fits Outcomes.Every r (2 ^ fluent_count start.task) a within

  -- the states near the goal, and where an action leads into them
  module _ (r k : ℕ) where
    abbrev these : Pairs
    these = pairs_in start.task r

    abbrev close : SetOfVectors
    close = progress (system_of start.task) these k

    abbrev sub : System
    sub = restricted (system_of start.task) these

    near_itself : IsSmallSet start close
    near_itself = states_small start close (near_small Outcomes.Some r k _ itself)

    near_leads : (f : Function) → DependsOnly 0 (fluent_count start.task) f → Agrees start f close → (a : ℕ) → a < action_count start.task → LeadFits start Outcomes.Some a f
    near_leads f depends agrees a within = subst (PreimageFits start.width start.task a first_some) (sym (states_are start close f depends agrees)) (near_fits Outcomes.Some r k a within)

    hits_at_state : (a : ℕ) (v : Vector) → IsVector (system_of start.task) v → pair_hits Outcomes.Some start.task r k a (value_of v) ≡ may_lead sub close v a
    hits_at_state a v is =
        ap (λ (f : Function). f (value_of v) && pair_set start.task r a (value_of v)) (sym (led_hits start.task (near_set start.task r k) a))
        ∙ ap (λ b. b && pair_set start.task r a (value_of v)) (weak_agrees start.task a (near_set start.task r k) close (states_depend start.task close) (states_at start.task close) v is)
        ∙ ap (λ b. may_lead (system_of start.task) close v a && b) (states_at start.task (λ u. these u a) v is)
        ∙ sym (may_restricted (system_of start.task) these close v a)

    near_hits : (a : ℕ) → a < action_count start.task → IsSmallSet start (λ v. may_lead sub close v a)
    near_hits a within f agrees =
        same_small start (pair_hits Outcomes.Some start.task r k a) f (λ v is. hits_at_state a v is ∙ sym (agrees v is)) (near_small Outcomes.Some r k _ (hit a within))

    below : (n : ℕ) (v : Vector) → IsVector (system_of start.task) v → some_below (pair_hits Outcomes.Some start.task r k) n (value_of v) ≡ list_any (may_lead sub close v) (range_with_len 0 n)
    below zero v is = refl
    below (suc n) v is =
        let p = may_lead sub close v in
        let one_more : suc n ≡ n + 1 = omega arith in
        ap (λ b. b || pair_hits Outcomes.Some start.task r k n (value_of v)) (below n v is)
        ∙ ap (λ b. list_any p (range_with_len 0 n) || b) (hits_at_state n v is ∙ sym (or_false (p n)))
        ∙ sym (list_any-append p (range_with_len 0 n) (n ∷ []))
        ∙ ap (list_any p) (sym (range-more n))
        ∙ ap (λ m. list_any p (range_with_len 0 m)) (sym one_more)

    near_joined : (n : ℕ) → n ≤ action_count start.task → IsSmallSet start (next_by sub close n)
    near_joined n few f agrees =
        same_small start (or_of (near_set start.task r k) (some_below (pair_hits Outcomes.Some start.task r k) n)) f
        (λ v is.
        ap (λ b. b || some_below (pair_hits Outcomes.Some start.task r k) n (value_of v)) (states_at start.task close v is)
        ∙ ap (λ b. close v || b) (below n v is) ∙ sym (agrees v is))
        (near_small Outcomes.Some r k _ (joined n few))

  -- the same of the scenes' sets
  over_left : (P : SetOfVectors → SetOfVectors → Type 0) (left near : SetOfVectors) → IsLeft start left → IsNear start left near
      → ((r k : ℕ) → P (round (system_of start.task) r) (progress (system_of start.task) (pairs_in start.task r) k)) → P left near
  over_left P left near by at each =
      subst (P left) (sym at.1)
      (subst (λ (l : SetOfVectors). P l (layer Weak (kept_system start l) at.0)) (sym by.1) (each by.0 at.0))

  pub close_small : (left near : SetOfVectors) → IsLeft start left → IsNear start left near → IsSmallSet start near
  close_small left near by at = over_left (λ l m. IsSmallSet start m) left near by at near_itself

  pub close_fits : (left near : SetOfVectors) → IsLeft start left → IsNear start left near → (f : Function) → DependsOnly 0 (fluent_count start.task) f → Agrees start f near → (a : ℕ) → a < action_count start.task → LeadFits start Outcomes.Some a f
  close_fits left near by at f depends agrees a within = over_left (λ l m. Agrees start f m → LeadFits start Outcomes.Some a f) left near by at (λ r k same. near_leads r k f depends same a within) agrees

  pub hits_small : (left near : SetOfVectors) → IsLeft start left → IsNear start left near → (a : ℕ) → a < action_count start.task → IsSmallSet start (λ v. may_lead (kept_system start left) near v a)
  hits_small left near by at a within = over_left (λ l m. IsSmallSet start (λ v. may_lead (kept_system start l) m v a)) left near by at (λ r k. near_hits r k a within)

  pub next_small : (left near : SetOfVectors) → IsLeft start left → IsNear start left near → (n : ℕ) → n ≤ action_count start.task → IsSmallSet start (next_by (kept_system start left) near n)
  next_small left near by at n few = over_left (λ l m. IsSmallSet start (next_by (kept_system start l) m n)) left near by at (λ r k. near_joined r k n few)

  -- the goal states are near the goal
  pub goal_small : IsSmallSet start (is_goal (system_of start.task))
  goal_small = near_itself 0 0

  -- what an action takes
  pub takers_small : (pairs : Pairs) → IsLargestSet (system_of start.task) pairs → covers (system_of start.task) pairs ≡ true → (k a : ℕ) → a < action_count start.task → IsSmallSet start (takers Weak (restricted (system_of start.task) pairs) k a)
  takers_small pairs largest covered k a within =
      states_small start (takers Weak (restricted (system_of start.task) pairs) k a)
      (fit.wide.each (states_in start.task (takers Weak (restricted (system_of start.task) pairs) k a)) (taken pairs largest covered k a within))

  pub test_fits : (set : Function) → IsSmall start set → TestFits start set
  test_fits set small = (initial_small, small)

  -- the places that hold working sets alone
  pub small_at : (now : Encoded) (slots : List SetId) → At start now slots → (place : ℕ) → place < length slots → place ≢ 2 → place ≢ 6 → IsSmall start (set_at now.sets slots place)
  small_at now slots at place within not_outside not_new =
      ⊎_elim (λ (small : IsSmall start (set_at now.sets slots place)). small)
      (λ (rough : Contains start.rough place × Rough (fluent_count start.task) start.width (set_at now.sets slots place)). absurd (apart (subst (λ (places : List ℕ). Contains places place) fit.rough rough.0)))
      (at.each place within)
    where
      go : (k : ℕ) → k < 2 → slice_index_or rough_places k place ≡ place → ⊥
      go zero low is = not_outside (sym is)
      go (suc zero) low is = not_new (sym is)
      go (suc (suc k)) low is = absurd (omega arith)

      apart : Contains rough_places place → ⊥
      apart c = go c.0 c.1 c.2

  -- the others hold what is made of two of these
  outside_listed : Contains start.rough 2
  outside_listed = subst (λ (places : List ℕ). Contains places 2) (sym fit.rough) (0, omega arith, refl)

  new_listed : Contains start.rough 6
  new_listed = subst (λ (places : List ℕ). Contains places 6) (sym fit.rough) (1, omega arith, refl)

  pub outside_fits : (f g : Function) → IsSmall start f → IsSmall start g → Fits start 2 (minus_of f g)
  outside_fits f g one two = inr (outside_listed, difference_rough (fluent_count start.task) start.width f g one two)

  pub new_fits : (f g : Function) → IsSmall start f → IsSmall start g → Fits start 6 (minus_of f g)
  new_fits f g one two = inr (new_listed, difference_rough (fluent_count start.task) start.width f g one two)

  pub met_fits : (f g : Function) → IsSmall start f → IsSmall start g → Fits start 6 (and_of f g)
  met_fits f g one two = inr (new_listed, meet_rough (fluent_count start.task) start.width f g one two)
