-- Wherever a complete plan has a patrol goal, each state that it reaches is one of the largest set; so
-- where an initial state is none, no plan has the goal.
use Rattle.std.proofs.Common.{◌≡◌, ℕ, zero, suc, ◌^◌, Bool, true, false, List, [], ◌∷◌, length, map, refl, sym, ◌∙◌, ap, subst, arith, ⊎_elim}
use Rattle.std.specs.List.{Contains, list_all}
use Rattle.std.proofs.lemmas.Bool.{and_from, or_right, true≢false}
use Rattle.ctl_syntax.specs.Goals.{plain, af, goal_row}
use Rattle.ctl_syntax.specs.Paths.{EveryPathMeets, Keeps, Meets, MeetsOrKeeps}
use Rattle.ctl_syntax.specs.Truth.{Anything, Nothing, SatisfiesAll}
use Rattle.ctl_syntax.proofs.Meeting.{keeps_first, keeps_rest, meets_cases, meets_nothing}
use Rattle.task_core.specs.ContextPlans.{Configuration, ContextPlan, Follows, IsInitial, IsReachable}
use Rattle.task_core.specs.Paths.{IsPath, last_of}
use Rattle.task_core.specs.Cubes.{SetOfVectors}
use Rattle.task_core.specs.Systems.{System, IsState, IsSystem}
use Rattle.list_laws.proofs.Elements.{Contains-cases, Contains-nil, list_all-from}
use Rattle.plan_theory.specs.UntilChains.{StateIsIn}
use Rattle.plan_theory.specs.Patrols.{covers_patrol, patrol_round, patrol_set, visit_near, visit_set, visited}
use Rattle.plan_theory.specs.PatrolPlans.{HasNoPatrolPlan, IsPatrolPlan}
use Rattle.plan_theory.specs.Safe.{some_must_lead}
use Rattle.plan_theory.proofs.GuardedSets.{in_guarded_set, near-grows}
use Rattle.plan_theory.proofs.PatrolSets.{visited_from}
use Rattle.plan_theory.proofs.PlanPaths.{led_by}
use Rattle.plan_theory.proofs.PlanRuns.{reached_first, reached_keeps, reached_next}

-- what is kept along a path holds at its end
keeps_last : {X : Type 0} (G : X → Type 0) (x : X) (rest : List X) → Keeps G (x ∷ rest) → G (last_of x rest)
keeps_last G x [] keeps = keeps_first G x [] keeps
keeps_last G x (y ∷ rest) keeps = keeps_last G y rest (keeps_rest G x (y ∷ rest) keeps)

module _ (sys : System) (ok : IsSystem sys) (visits : List SetOfVectors) (plan : ContextPlan) (is : IsPatrolPlan sys visits plan) where
  abbrev Step : Configuration → Configuration → Type 0
  Step = Follows sys plan

  abbrev Reached : Configuration → Type 0
  Reached = IsReachable sys plan

  abbrev ComesAbout : SetOfVectors → Configuration → Type 0
  ComesAbout set x = EveryPathMeets Step Anything (StateIsIn set) x

  abbrev AllTrue : List SetOfVectors → Configuration → Type 0
  AllTrue sets x = SatisfiesAll Step StateIsIn (goal_row (map (λ (p : SetOfVectors). af (plain p)) sets)) x

  reached_is_state : (x : Configuration) → Reached x → IsState sys x.state
  reached_is_state = reached_keeps sys plan (λ x. IsState sys x.state) (λ x y state follows. ok.next x.state follows.action y.state follows.outcome) (λ x initial. ok.initial x.state initial.state)

  -- each visit comes about from wherever the plan may come
  kept_path : (x : Configuration) (rest : List Configuration) → MeetsOrKeeps (AllTrue visits) Nothing (x ∷ rest) → Keeps (AllTrue visits) (x ∷ rest)
  kept_path x rest h = ⊎_elim (λ (m : Meets (AllTrue visits) Nothing (x ∷ rest)). absurd m.has) (λ (k : Keeps (AllTrue visits) (x ∷ rest)). k) h

  all_reached : (x : Configuration) → Reached x → AllTrue visits x
  all_reached x r =
      subst (AllTrue visits) r.ends
      (keeps_last (AllTrue visits) r.start r.rest (kept_path r.start r.rest (is.has r.start r.initial (length r.rest) r.rest refl r.path)))

  one_of : (sets : List SetOfVectors) (visit : SetOfVectors) (x : Configuration) → AllTrue sets x → Contains sets visit → ComesAbout visit x
  one_of [] visit x each among = absurd (Contains-nil visit among)
  one_of (first ∷ sets) visit x each among =
      ⊎_elim (λ (same : first ≡ visit). subst (λ set. ComesAbout set x) same each.0) (λ (later : Contains sets visit). one_of sets visit x each.1 later) (Contains-cases first sets visit among)

  -- within a set of all states that the plan reaches
  module _ (set visit : SetOfVectors) (inside : (x : Configuration) → Reached x → set x.state ≡ true) where
    abbrev MeetsIn : ℕ → Configuration → Type 0
    MeetsIn n x = (path : List Configuration) → length path ≡ n → IsPath Step x path → Meets Anything (StateIsIn visit) (x ∷ path)

    meets_next : (n : ℕ) (x y : Configuration) → visit x.state ≡ false → MeetsIn (suc n) x → Step x y → MeetsIn n y
    meets_next n x y e meets step path long run =
        ⊎_elim
        (λ (h : StateIsIn visit x). absurd (true≢false (sym h ∙ e)))
        (λ (m : Anything x × Meets Anything (StateIsIn visit) (y ∷ path)). m.1)
        (meets_cases Anything (StateIsIn visit) x (y ∷ path) (meets (y ∷ path) (ap suc long) (step, run)))

    visited_here : (x : Configuration) → Reached x → visit x.state ≡ true → visited sys set visit x.state ≡ true
    visited_here x reached h =
        visited_from sys set visit x.state (inside x reached) h
        (led_by sys ok plan is.complete set x reached (λ y step. inside y (reached_next sys plan x y reached step)))

    near_by : (n : ℕ) (x : Configuration) → Reached x → MeetsIn n x → visit_near sys set visit n x.state ≡ true
    near_by zero x reached meets =
        ⊎_elim
        (λ (h : StateIsIn visit x). visited_here x reached h)
        (λ (m : Anything x × Meets Anything (StateIsIn visit) []). absurd (meets_nothing Anything (StateIsIn visit) m.1))
        (meets_cases Anything (StateIsIn visit) x [] (meets [] refl tt))
    near_by (suc n) x reached meets = go (visit x.state) refl (near_by n)
      where
        go : (b : Bool) → visit x.state ≡ b → ((y : Configuration) → Reached y → MeetsIn n y → visit_near sys set visit n y.state ≡ true) → visit_near sys set visit (suc n) x.state ≡ true
        go true e closer = near-grows sys set (visited sys set visit) x.state 0 (suc n) (omega arith) (visited_here x reached e)
        go false e closer =
            or_right (visit_near sys set visit n x.state) _
            (and_from (set x.state) (some_must_lead sys (visit_near sys set visit n) x.state) (inside x reached)
            (led_by sys ok plan is.complete (visit_near sys set visit n) x reached (λ y step. closer y (reached_next sys plan x y reached step) (meets_next n x y e meets step))))

    visit_within : (x : Configuration) → Reached x → ComesAbout visit x → visit_set sys set visit x.state ≡ true
    visit_within x reached h =
        in_guarded_set sys set (visited sys set visit) ok h.steps x.state (reached_is_state x reached).vector (near_by h.steps x reached h.meets)

  -- so each round has them
  pub in_rounds : (r : ℕ) (x : Configuration) → Reached x → patrol_round sys visits r x.state ≡ true
  in_rounds zero x reached = (reached_is_state x reached).inside
  in_rounds (suc r) x reached =
      let left = patrol_round sys visits r in
      and_from (left x.state) (list_all (λ visit. visit_set sys left visit x.state) visits) (in_rounds r x reached)
      (list_all-from (λ visit. visit_set sys left visit x.state) visits
      (λ visit among. visit_within left visit (in_rounds r) x reached (one_of visits visit x (all_reached x reached) among)))

pub none_without_cover : (sys : System) (visits : List SetOfVectors) → IsSystem sys → covers_patrol sys visits ≡ false → HasNoPatrolPlan sys visits
none_without_cover sys visits ok short plan is = true≢false (sym covered ∙ short)
  where
    covered : covers_patrol sys visits ≡ true
    covered = list_all-from (patrol_set sys visits) sys.initial (λ s c.
        let x : Configuration = record { state = s; context = 1 } in
        let initial : IsInitial sys x = record { state = c; context = refl } in
        in_rounds sys ok visits plan is (2 ^ sys.fluents) x (reached_first sys plan x initial))
