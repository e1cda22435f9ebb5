-- Which states of the plan take which action in the context of a visit.
use Rattle.std.proofs.Common.{◌≡◌, ◌≢◌, ℕ, suc, ◌+◌, ◌-◌, ◌*◌, ◌<◌, ◌≤◌, ◌⊎◌, ◌^◌, Bool, true, false, not, ◌&&◌, ◌||◌, List, get_or, length, refl, sym, ap, subst, ◌∙◌, inl, inr, ⊎_elim, arith}
use Rattle.std.specs.List.{find, list_any, range_with_len}
use Rattle.std.proofs.Math.Path.{fun_ext}
use Rattle.std.proofs.lemmas.Bool.{and_parts, cases_eq, cases_lt, cond-false, cond-true, false_from_ne_true, true≢false}
use Rattle.std.proofs.lemmas.List.{length-map}
use Rattle.std.proofs.lemmas.List.Elements.{Contains-get_or}
use Rattle.std.proofs.lemmas.List.FromFn.{length-map-range_with_len}
use Rattle.list_laws.proofs.Booleans.{and_false, or_false}
use Rattle.encode_task.specs.TaskSets.{first_values}
use Rattle.dd_ops.specs.Operations.{minus_of}
use Rattle.dd_sets.proofs.OperationSizes.{difference_rough}
use Rattle.plan_theory.proofs.GuardedSets.{near-grows, no_action-met}
use Rattle.plan_theory.proofs.PatrolSets.{near_inside, near_stays, patrol_set-largest, visited_from}
use Rattle.plan_theory.specs.GuardedSets.{guarded_action, guarded_near}
use Rattle.plan_theory.specs.LayerPlans.{is_action}
use Rattle.plan_theory.specs.Layers.{action_numbers, must_lead}
use Rattle.plan_theory.specs.Patrols.{covers_patrol, patrol_set, visit_near, visit_set, visited}
use Rattle.plan_theory.specs.PatrolPrinted.{patrol_action, visit_in}
use Rattle.plan_theory.specs.Safe.{some_must_lead}
use Rattle.plan_theory.specs.StageSets.{near, stage_action}
use Rattle.task_core.specs.Cubes.{SetOfVectors}
use Rattle.task_core.specs.Systems.{IsSystem, IsVector, System}
use Rattle.task_core.specs.Tasks.{action_count, fluent_count}
use Rattle.task_core.specs.Vectors.{Vector, value_of}
use Rattle.task_core.specs.declared.conditions.Cond.{Cond}
use Rattle.task_core.proofs.TaskSystem.{is_system}
use Rattle.ctl_syntax.specs.Conditions.{states_of}
use Rattle.slot_board.specs.Board.{Scene}
use Rattle.context_plan.specs.Chains.{visit_sets}
use Rattle.context_plan.specs.Guards.{guarded_system}
use Rattle.context_plan.specs.PatrolSteps.{HasPatrol, made_at_last, visit_place, visit_takers}
use Rattle.context_plan.specs.PatrolWorkingSets.{visit_at, visit_taken_in}
use Rattle.context_plan.specs.Rounds.{first_lead, turn_by}
use Rattle.context_plan.specs.Scenes.{SameStates, Start, guarded, states_at, sys_in, sys_of, takers_place}
use Rattle.context_plan.specs.Sizes.{ClimbsFit, IsRough, IsSmall, RoundFits, ShareFits}
use Rattle.context_plan.specs.Steps.{Climbed, FirstTaken}
use Rattle.context_plan.specs.WorkingSets.{function_of}
use Rattle.context_plan.specs.declared.rounds.Way.TheVariants.{Growing, Shrinking}
use Rattle.context_plan.proofs.Guards.{must_inside}
use Rattle.context_plan.proofs.GuardSteps.{action_as, near_as}
use Rattle.context_plan.proofs.SceneSteps.{same_back, same_length}
use Rattle.context_plan.proofs.SizeSteps.{lead_same, rough_as, round_fits_same, small_same, turns_fit_first}
use Rattle.context_plan.proofs.StageLemmas.{first_same, near_same}
use Rattle.context_plan.proofs.TakenSteps.{takers_apart, takers_within}
use Rattle.context_plan.proofs.VisitSteps.{visit_low}

-- the action in the context of a visit: of the states from which it is made within some steps
module _ (sys : System) (ok : IsSystem sys) (visits : List SetOfVectors) (i a : ℕ) where
  abbrev plan : SetOfVectors
  plan = patrol_set sys visits

  abbrev visit : SetOfVectors
  visit = visit_at visits i

  abbrev met : SetOfVectors
  met = visited sys plan visit

  abbrev sub : System
  sub = guarded_system sys plan

  this_visit : visit_in visits (suc i) ≡ visit
  this_visit = ap (λ k. get_or visits k (λ v. false)) (let e : suc i - 1 ≡ i = omega arith in e)

  -- the action that stays there
  stays_same : (v : Vector) → plan v ≡ true → find (must_lead sub plan v) (action_numbers sys) ≡ find (must_lead sys plan v) (action_numbers sys)
  stays_same v h = ap (λ (p : ℕ → Bool). find p (action_numbers sys)) (fun_ext (λ b. must_inside sys plan plan v b ∙ ap (λ c. c && must_lead sys plan v b) h))

  act_made : (v : Vector) → visit v ≡ true → patrol_action sys visits (suc i) v ≡ find (must_lead sys plan v) (action_numbers sys)
  act_made v h = cond-true (visit_in visits (suc i) v) _ _ (ap (λ (f : SetOfVectors). f v) this_visit ∙ h)

  act_towards : (v : Vector) → visit v ≡ false → patrol_action sys visits (suc i) v ≡ guarded_action sys plan met v
  act_towards v h =
      cond-false (visit_in visits (suc i) v) _ _ (ap (λ (f : SetOfVectors). f v) this_visit ∙ h)
      ∙ ap (λ (f : SetOfVectors). guarded_action sys plan (visited sys plan f) v) this_visit

  pub taken_near : (k : ℕ) (v : Vector) → ((met v && is_action a (find (must_lead sub plan v) (action_numbers sys))) || (guarded_near sys plan met k v && is_action a (guarded_action sys plan met v)))
      ≡ (visit_near sys plan visit k v && is_action a (patrol_action sys visits (suc i) v))
  taken_near k v = go (visit_near sys plan visit k v) (visit v) refl refl
    where
      first : Bool
      first = is_action a (find (must_lead sub plan v) (action_numbers sys))

      later : Bool
      later = is_action a (guarded_action sys plan met v)

      acts : Bool
      acts = is_action a (patrol_action sys visits (suc i) v)

      put : (m n : Bool) → met v ≡ m → visit_near sys plan visit k v ≡ n → ((m && first) || (n && later)) ≡ (n && acts) → ((met v && first) || (visit_near sys plan visit k v && later)) ≡ (visit_near sys plan visit k v && acts)
      put m n e f h = ap (λ b. (b && first) || (visit_near sys plan visit k v && later)) e ∙ ap (λ b. (m && first) || (b && later)) f ∙ h ∙ ap (λ b. b && acts) (sym f)

      go : (n p : Bool) → visit_near sys plan visit k v ≡ n → visit v ≡ p → ((met v && first) || (visit_near sys plan visit k v && later)) ≡ (visit_near sys plan visit k v && acts)
      go false p e f =
          let none : met v ≡ false = false_from_ne_true (met v) (λ h. true≢false (sym (near-grows sys plan met v 0 k (omega arith) h) ∙ e)) in
          put false false none e refl
      go true true e f =
          let here : plan v ≡ true = near_inside sys plan visit k v e in
          let made : met v ≡ true = visited_from sys plan visit v here f (near_stays sys plan visit k v e) in
          put true true made e
          (ap (λ o. first || is_action a o) (no_action-met sys plan met v made)
          ∙ or_false first
          ∙ ap (is_action a) (stays_same v here ∙ sym (act_made v f)))
      go true false e f =
          let none : met v ≡ false = ap (λ b. plan v && (b && some_must_lead sys plan v)) f ∙ and_false (plan v) in
          put false true none e (ap (is_action a) (sym (act_towards v f)))

  -- every state of the plan makes the visit at last
  pub all_near : i < length visits → (v : Vector) → IsVector sys v → visit_set sys plan visit v ≡ plan v
  all_near less v is = go (plan v) refl
    where
      go : (b : Bool) → plan v ≡ b → visit_set sys plan visit v ≡ plan v
      go true e = (patrol_set-largest sys visits ok).patrol.each v visit is e (Contains-get_or visits i (λ v. false) less) ∙ sym e
      go false e = false_from_ne_true (visit_set sys plan visit v) (λ h. true≢false (sym (near_inside sys plan visit (2 ^ sys.fluents) v h) ∙ e)) ∙ sym e

-- the context of a visit
module _ (start : Start) (conds : List Cond) (x : Scene) (i : ℕ) (less : i < start.stages) (h : HasPatrol start conds x i) where
  abbrev A : ℕ
  A = action_count start.task

  abbrev t : ℕ
  t = takers_place A start.stages i

  abbrev all : SetOfVectors
  all = patrol_set (sys_of start) (visit_sets conds)

  abbrev inside : Start
  inside = guarded start (patrol_set (sys_of start) (visit_sets conds))

  abbrev made : SetOfVectors
  made = made_at_last start conds i

  few : i < length conds
  few = let e = h.count in omega arith

  ok : IsSystem (sys_of start)
  ok = is_system start.task

  pub t_within : t + A ≤ length x.1
  t_within = takers_within start x h.ready.at i (omega arith)

  pub t_high : visit_place i < t
  t_high = high (i * A)
    where
      high : (n : ℕ) → visit_place i < 10 + 2 * start.stages + n
      high n = let s = h.some in omega arith

  round : RoundFits inside all
  round = h.fits.left (2 ^ fluent_count start.task)

  -- where the visit is made an action that stays is taken
  first_is : (a : ℕ) → SameStates start (first_lead (sys_in inside) (states_at x 8) (states_at x (visit_place i)) a) (λ v. made v && is_action a (find (must_lead (sys_in inside) all v) (action_numbers (sys_of start))))
  first_is a v is =
      ap (λ b. b && is_action a (find (must_lead (sys_in inside) (states_at x 8) v) (action_numbers (sys_of start)))) (h.mets i less v is)
      ∙ ap (λ o. made v && is_action a o) (first_same inside (states_at x 8) all h.left v is)

  near_none : (a : ℕ) (v : Vector) → (made v && is_action a (find (must_lead (sys_in inside) all v) (action_numbers (sys_of start)))) ≡ visit_taken_in (sys_of start) (visit_sets conds) i 0 a v
  near_none a v =
      sym (or_false _)
      ∙ ap (λ b. (made v && is_action a (find (must_lead (sys_in inside) all v) (action_numbers (sys_of start)))) || b) (sym (none (made v) refl))
      ∙ taken_near (sys_of start) ok (visit_sets conds) i a 0 v
    where
      none : (m : Bool) → made v ≡ m → (made v && is_action a (guarded_action (sys_of start) all made v)) ≡ false
      none true e = ap (λ o. made v && is_action a o) (no_action-met (sys_of start) all made v e) ∙ and_false (made v)
      none false e = ap (λ b. b && is_action a (guarded_action (sys_of start) all made v)) e

  first_small : covers_patrol (sys_of start) (visit_sets conds) ≡ true → (a : ℕ) → a < A → IsSmall start (first_lead (sys_in inside) (states_at x 8) (states_at x (visit_place i)) a)
  first_small covered a below =
      small_same start (visit_taken_in (sys_of start) (visit_sets conds) i 0 a) (first_lead (sys_in inside) (states_at x 8) (states_at x (visit_place i)) a)
      (λ v is. sym (first_is a v is ∙ near_none a v)) (h.fits.taken i 0 a covered few below)

  among : (v : Vector) → made v ≡ true → all v ≡ true
  among v e = (and_parts (all v) _ e).0

  without : (m s l : Bool) → (m ≡ true → s ≡ true) → (m && not (s && l)) ≡ (m && not l)
  without true s l up = ap (λ b. not (b && l)) (up refl)
  without false s l up = refl

  rest_rough : (n : ℕ) → n ≤ A → IsRough start (λ v. states_at x (visit_place i) v && not (list_any (must_lead (sys_in inside) (states_at x 8) v) (range_with_len 0 n)))
  rest_rough n most =
      let m = fluent_count start.task in
      let near_round : RoundFits inside (states_at x 8) = round_fits_same inside all (states_at x 8) (same_back start (states_at x 8) all h.left) round in
      let set = states_at x (visit_place i) in
      let led : SetOfVectors = λ v. list_any (must_lead (sys_in inside) (states_at x 8) v) (range_with_len 0 n) in
      let small : IsSmall start set = small_same start made set (same_back start set made (h.mets i less)) (turns_fit_first Growing inside made (h.fits.near (2 ^ m) i few)).itself in
      rough_as m start.width (minus_of (function_of m set) (function_of m (turn_by Shrinking (sys_in inside) (states_at x 8) n))) (function_of m (λ v. set v && not (led v)))
      (λ v is.
      let u = first_values m (value_of v) in
      let at : IsVector (sys_of start) u = length-map-range_with_len (value_of v) 0 m in
      without (set u) (states_at x 8 u) (led u) (λ e. h.left u at ∙ among u (sym (h.mets i less u at) ∙ e)))
      (difference_rough m start.width (function_of m set) (function_of m (turn_by Shrinking (sys_in inside) (states_at x 8) n)) small (near_round.turned Shrinking n most))

  pub visit_shares : covers_patrol (sys_of start) (visit_sets conds) ≡ true → ShareFits inside (states_at x 8) (states_at x (visit_place i)) (λ k. states_at x (t + k))
  visit_shares covered = record {
    lead = λ a below. lead_same inside a all (states_at x 8) (same_back start (states_at x 8) all h.left) (round.lead a below);
    first = first_small covered;
    taken = λ a below.
        small_same start (first_lead (sys_in inside) (states_at x 8) (states_at x (visit_place i)) a) (λ v. states_at x (t + a) v || first_lead (sys_in inside) (states_at x 8) (states_at x (visit_place i)) a v)
        (λ v is. ap (λ b. b || first_lead (sys_in inside) (states_at x 8) (states_at x (visit_place i)) a v) (sym (h.untaken i a (omega arith) less below v is)))
        (first_small covered a below);
    left = rest_rough;
  }

  module _ (m : Scene) (first : FirstTaken inside x m 8 (visit_place i) t) where
    long : length m.1 ≡ length x.1
    long = same_length start x m h.ready.at first.changed.ready.at

    front : (k : ℕ) → 8 ≤ k → k < 11 + start.stages → states_at m k ≡ states_at x k
    front k high before =
        first.changed.kept k high (visit_low start m first.changed.ready.at h.some k before) (inl (low (i * A)))
      where
        low : (n : ℕ) → k < 10 + 2 * start.stages + n
        low n = let s = h.some in omega arith

    met_still : SameStates start (states_at m (visit_place i)) made
    met_still v is = ap (λ (f : SetOfVectors). f v) (front (visit_place i) (omega arith) (omega arith)) ∙ h.mets i less v is

    begun : (a : ℕ) → a < A → SameStates start (states_at m (t + a)) (λ v. made v && is_action a (find (must_lead (sys_in inside) all v) (action_numbers (sys_of start))))
    begun a below v is =
        first.taken a below v is
        ∙ ap (λ b. b || first_lead (sys_in inside) (states_at x 8) (states_at x (visit_place i)) a v) (h.untaken i a (omega arith) less below v is)
        ∙ first_is a v is

    reached : (k a : ℕ) → a < A → SameStates start
        (λ v. states_at m (t + a) v || (near (sys_in inside) (states_at m (visit_place i)) k v && is_action a (stage_action (sys_in inside) (states_at m (visit_place i)) v)))
        (visit_taken_in (sys_of start) (visit_sets conds) i k a)
    reached k a below v is =
        let found = states_at m (visit_place i) in
        ap (λ b. b || (near (sys_in inside) found k v && is_action a (stage_action (sys_in inside) found v))) (begun a below v is)
        ∙ ap (λ b. (made v && is_action a (find (must_lead (sys_in inside) all v) (action_numbers (sys_of start)))) || (b && is_action a (stage_action (sys_in inside) found v))) (near_as start all found made met_still k v is)
        ∙ ap (λ o. (made v && is_action a (find (must_lead (sys_in inside) all v) (action_numbers (sys_of start)))) || (guarded_near (sys_of start) all made k v && is_action a o)) (action_as start all found made met_still v is)
        ∙ taken_near (sys_of start) ok (visit_sets conds) i a k v

    pub visit_climbs : covers_patrol (sys_of start) (visit_sets conds) ≡ true → ClimbsFit inside (states_at m (visit_place i)) (λ k. states_at m (t + k))
    visit_climbs covered = record {
      rounds = λ k.
          round_fits_same inside (near (sys_in inside) made k) (near (sys_in inside) (states_at m (visit_place i)) k)
          (near_same inside made (states_at m (visit_place i)) (same_back start (states_at m (visit_place i)) made met_still) k)
          (h.fits.near (2 ^ fluent_count start.task) i few k);
      taken = λ k a below.
          small_same start (visit_taken_in (sys_of start) (visit_sets conds) i k a) _
          (λ v is. sym (reached k a below v is)) (h.fits.taken i k a covered few below);
    }

    pub visit_taken : (y : Scene) → Climbed inside m y (visit_place i) t → HasPatrol start conds y (suc i)
    visit_taken y second =
        let n = start.stages in
        let longer : length y.1 ≡ length m.1 = same_length start m y first.changed.ready.at second.changed.ready.at in
        let also = long in
        let ahead : (k : ℕ) → 8 ≤ k → k < 11 + n → states_at y k ≡ states_at x k =
        λ k high before. second.changed.kept k high (visit_low start y second.changed.ready.at h.some k before) (inl (before_takers k before (i * A))) ∙ front k high before in
        let others : (j a : ℕ) → j < n → a < A → j ≢ i → states_at y (takers_place A n j + a) ≡ states_at x (takers_place A n j + a) =
        λ j a low below differs.
        let within = takers_within start y second.changed.ready.at j (omega arith) in
        let beside = apart j a below differs in
        let far : 8 ≤ takers_place A n j + a = far_enough (j * A) a in
        second.changed.kept (takers_place A n j + a) far (omega arith) beside ∙ first.changed.kept (takers_place A n j + a) far (omega arith) beside in
        record {
          fits = h.fits;
          count = h.count;
          some = h.some;
          ready = second.changed.ready;
          left = λ v is. ap (λ (f : SetOfVectors). f v) (ahead 8 (omega arith) (omega arith)) ∙ h.left v is;
          mets = λ j low v is. ap (λ (f : SetOfVectors). f v) (ahead (visit_place j) (omega arith) (omega arith)) ∙ h.mets j low v is;
          taken = λ j a early low below.
              ⊎_elim
              (λ (same : j ≡ i).
              subst (λ k. SameStates start (states_at y (takers_place A n k + a)) (visit_takers start conds k a)) (sym same)
              (λ v is.
              second.taken a below v is
              ∙ reached (2 ^ fluent_count start.task) a below v is
              ∙ ap (λ b. b && is_action a (patrol_action (sys_of start) (visit_sets conds) (suc i) v)) (all_near (sys_of start) ok (visit_sets conds) i a (let e = length-map conds states_of in let f = few in omega arith) v is)))
              (λ (differs : j ≢ i).
              λ v is. ap (λ (f : SetOfVectors). f v) (others j a low below differs) ∙ h.taken j a (omega (arith, differs)) low below v is)
              (cases_eq j i);
          untaken = λ j a from low below v is. ap (λ (f : SetOfVectors). f v) (others j a low below (λ e. absurd (omega arith))) ∙ h.untaken j a (omega arith) low below v is;
        }
      where
        before_takers : (k : ℕ) → k < 11 + start.stages → (n : ℕ) → k < 10 + 2 * start.stages + n
        before_takers k before n = let s = h.some in omega arith

        far_enough : (n a : ℕ) → 8 ≤ 10 + 2 * start.stages + n + a
        far_enough n a = omega arith

        apart : (j a : ℕ) → a < A → j ≢ i → (takers_place A start.stages j + a < t) ⊎ (t + A ≤ takers_place A start.stages j + a)
        apart j a below differs =
            ⊎_elim
            (λ (l : j < i). let away = takers_apart A start.stages j i l in inl (let m : takers_place A start.stages j + a < t = omega arith in m))
            (λ (l : i ≤ j). let away = takers_apart A start.stages i j (let m : i < j = omega (arith, differs) in m) in inr (let m : t + A ≤ takers_place A start.stages j + a = omega arith in m))
            (cases_lt j i)

-- as the code has it: by the places that it computed
pub visit_shares_at : (start : Start) (conds : List Cond) (x : Scene) (i near rest takers : ℕ) → near ≡ 8 → rest ≡ visit_place i → takers ≡ takers_place (action_count start.task) start.stages i → i < start.stages → HasPatrol start conds x i → covers_patrol (sys_of start) (visit_sets conds) ≡ true
    → ShareFits (guarded start (patrol_set (sys_of start) (visit_sets conds))) (states_at x near) (states_at x rest) (λ k. states_at x (takers + k))
visit_shares_at start conds x i near rest takers is_near is_rest is_takers less h covered =
    subst (λ n. ShareFits (guarded start (patrol_set (sys_of start) (visit_sets conds))) (states_at x n) (states_at x rest) (λ k. states_at x (takers + k))) (sym is_near)
    (subst (λ n. ShareFits (guarded start (patrol_set (sys_of start) (visit_sets conds))) (states_at x 8) (states_at x n) (λ k. states_at x (takers + k))) (sym is_rest)
    (subst (λ n. ShareFits (guarded start (patrol_set (sys_of start) (visit_sets conds))) (states_at x 8) (states_at x (visit_place i)) (λ k. states_at x (n + k))) (sym is_takers) (visit_shares start conds x i less h covered)))

pub first_taken_at : (start : Start) (conds : List Cond) (x m : Scene) (i near rest takers : ℕ) → near ≡ 8 → rest ≡ visit_place i → takers ≡ takers_place (action_count start.task) start.stages i → FirstTaken (guarded start (patrol_set (sys_of start) (visit_sets conds))) x m near rest takers
    → FirstTaken (guarded start (patrol_set (sys_of start) (visit_sets conds))) x m 8 (visit_place i) (takers_place (action_count start.task) start.stages i)
first_taken_at start conds x m i near rest takers is_near is_rest is_takers h =
    subst (λ n. FirstTaken (guarded start (patrol_set (sys_of start) (visit_sets conds))) x m n (visit_place i) (takers_place (action_count start.task) start.stages i)) is_near
    (subst (λ n. FirstTaken (guarded start (patrol_set (sys_of start) (visit_sets conds))) x m near n (takers_place (action_count start.task) start.stages i)) is_rest
    (subst (FirstTaken (guarded start (patrol_set (sys_of start) (visit_sets conds))) x m near rest) is_takers h))

pub visit_climbs_at : (start : Start) (conds : List Cond) (x m : Scene) (i rest takers : ℕ) → rest ≡ visit_place i → takers ≡ takers_place (action_count start.task) start.stages i → (less : i < start.stages) (h : HasPatrol start conds x i) → FirstTaken (guarded start (patrol_set (sys_of start) (visit_sets conds))) x m 8 (visit_place i) (takers_place (action_count start.task) start.stages i) → covers_patrol (sys_of start) (visit_sets conds) ≡ true
    → ClimbsFit (guarded start (patrol_set (sys_of start) (visit_sets conds))) (states_at m rest) (λ k. states_at m (takers + k))
visit_climbs_at start conds x m i rest takers is_rest is_takers less h first covered =
    subst (λ n. ClimbsFit (guarded start (patrol_set (sys_of start) (visit_sets conds))) (states_at m n) (λ k. states_at m (takers + k))) (sym is_rest)
    (subst (λ n. ClimbsFit (guarded start (patrol_set (sys_of start) (visit_sets conds))) (states_at m (visit_place i)) (λ k. states_at m (n + k))) (sym is_takers) (visit_climbs start conds x i less h m first covered))

pub visit_taken_at : (start : Start) (conds : List Cond) (x m y : Scene) (i rest takers : ℕ) → rest ≡ visit_place i → takers ≡ takers_place (action_count start.task) start.stages i → (less : i < start.stages) (h : HasPatrol start conds x i) → FirstTaken (guarded start (patrol_set (sys_of start) (visit_sets conds))) x m 8 (visit_place i) (takers_place (action_count start.task) start.stages i)
    → Climbed (guarded start (patrol_set (sys_of start) (visit_sets conds))) m y rest takers → HasPatrol start conds y (suc i)
visit_taken_at start conds x m y i rest takers is_rest is_takers less h first second =
    visit_taken start conds x i less h m first y
    (subst (λ n. Climbed (guarded start (patrol_set (sys_of start) (visit_sets conds))) m y n (takers_place (action_count start.task) start.stages i)) is_rest (subst (Climbed (guarded start (patrol_set (sys_of start) (visit_sets conds))) m y rest) is_takers second))

-- where the visit is made stays while the first actions are taken
pub visit_mets : (start : Start) (conds : List Cond) (x m : Scene) (i : ℕ) → i < start.stages → HasPatrol start conds x i → FirstTaken (guarded start (patrol_set (sys_of start) (visit_sets conds))) x m 8 (visit_place i) (takers_place (action_count start.task) start.stages i) → SameStates start (states_at m (visit_place i)) (made_at_last start conds i)
visit_mets start conds x m i less h first v is =
    let long : length m.1 ≡ length x.1 = same_length start x m h.ready.at first.changed.ready.at in
    let high = t_high start conds x i less h in
    let within = visit_low start m first.changed.ready.at h.some (visit_place i) (omega arith) in
    ap (λ (f : SetOfVectors). f v) (first.changed.kept (visit_place i) (omega arith) within (inl high)) ∙ h.mets i less v is
