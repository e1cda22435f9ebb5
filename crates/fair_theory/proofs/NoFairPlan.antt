-- Wherever a complete plan has a goal whose actions may be tried again, the goal can be had; so where
-- it can't, no plan has it.
use Rattle.std.proofs.Common.{◌≡◌, ◌⊎◌, ◌&&◌, suc, true, false, List, [], ◌∷◌, map, refl, sym, ◌∙◌, ap, subst, inl, inr, ⊎_elim}
use Rattle.std.specs.List.{Contains}
use Rattle.std.proofs.lemmas.Bool.{and_from, true≢false, false≢true}
use Rattle.ctl_syntax.specs.Goals.{plain, ef, goal_row}
use Rattle.ctl_syntax.specs.Paths.{EveryPathKeeps, Keeps, Meets, SomePathMeets}
use Rattle.ctl_syntax.specs.Truth.{Anything, Nothing, Satisfies, SatisfiesAll}
use Rattle.ctl_syntax.proofs.Meeting.{keeps_first, keeps_rest, meets_cases, meets_here, meets_nothing}
use Rattle.task_core.specs.ContextPlans.{Configuration, ContextPlan, Follows, IsComplete, IsInitial, IsReachable}
use Rattle.task_core.specs.Cubes.{SetOfVectors}
use Rattle.task_core.specs.Systems.{System, IsSystem}
use Rattle.list_laws.proofs.Elements.{Contains-cases, Contains-nil, list_all-from}
use Rattle.plan_theory.specs.UntilChains.{SetStage, StateIsIn}
use Rattle.plan_theory.proofs.PlanRuns.{reached_first, reached_next}
use Rattle.fair_theory.specs.FairGoals.{both, fair_chain}
use Rattle.fair_theory.specs.FairPlans.{HasNoFairPlan, IsFairPlan}
use Rattle.fair_theory.specs.FairSets.{IsChainWin, IsFairBound, IsFairWin, SetGoal, at_end, at_stage, chain_goal, covers_initial, end_asks, patrol_asks, patrol_goal, stage_asks}
use Rattle.fair_theory.proofs.FairBounds.{bounded}

-- what is said of all paths of a weak until, step by step
module _ {X : Type 0} (Step : X → X → Type 0) (G H : X → Type 0) where
  pub weak_now : (x : X) → EveryPathKeeps Step G H x → H x ⊎ G x
  weak_now x every =
      ⊎_elim
      (λ (m : Meets G H (x ∷ [])). ⊎_elim (λ h. inl h) (λ l. absurd (meets_nothing G H l.1)) (meets_cases G H x [] m))
      (λ (k : Keeps G (x ∷ [])). inr (keeps_first G x [] k))
      (every 0 [] refl tt)

  pub weak_next : (x y : X) → EveryPathKeeps Step G H x → (H x → ⊥) → Step x y → EveryPathKeeps Step G H y
  weak_next x y every not step n rest long path =
      ⊎_elim
      (λ (m : Meets G H (x ∷ y ∷ rest)). ⊎_elim (λ h. absurd (not h)) (λ l. inl l.1) (meets_cases G H x (y ∷ rest) m))
      (λ (k : Keeps G (x ∷ y ∷ rest)). inr (keeps_rest G x (y ∷ rest) k))
      (every (suc n) (y ∷ rest) (ap suc long) (step, path))

-- the same for what is kept from now on
module _ {X : Type 0} (Step : X → X → Type 0) (G : X → Type 0) where
  pub kept_now : (x : X) → EveryPathKeeps Step G Nothing x → G x
  kept_now x every = ⊎_elim (λ h. absurd h) (λ g. g) (weak_now Step G Nothing x every)

  pub kept_next : (x y : X) → EveryPathKeeps Step G Nothing x → Step x y → EveryPathKeeps Step G Nothing y
  kept_next x y every step = weak_next Step G Nothing x y every (λ h. h) step

-- each visit of a patrol can be made
module _ (sys : System) (plan : ContextPlan) where
  abbrev pub AllMay : List SetOfVectors → Configuration → Type 0
  AllMay visits = SatisfiesAll (Follows sys plan) StateIsIn (goal_row (map (λ (visit : SetOfVectors). ef (plain visit)) visits))

  pub one_may : (visits : List SetOfVectors) (visit : SetOfVectors) (x : Configuration) → AllMay visits x → Contains visits visit → SomePathMeets (Follows sys plan) Anything (StateIsIn visit) x
  one_may [] visit x each among = absurd (Contains-nil visit among)
  one_may (first ∷ visits) visit x each among =
      ⊎_elim
      (λ (same : first ≡ visit). subst (λ (set : SetOfVectors). SomePathMeets (Follows sys plan) Anything (StateIsIn set) x) same each.0)
      (λ (later : Contains visits visit). one_may visits visit x each.1 later)
      (Contains-cases first visits visit among)

module _ (sys : System) (ok : IsSystem sys) (plan : ContextPlan) (complete : IsComplete sys plan) where
  abbrev pub Step : Configuration → Configuration → Type 0
  Step = Follows sys plan

  abbrev pub Reached : Configuration → Type 0
  Reached = IsReachable sys plan

  -- the plan reaches the configuration, and the goal of the stages is true there
  pub record ChainGood (keep : SetOfVectors) (stages : List SetStage) (x : Configuration) : Type 0 where
    pub reached : Reached x
    pub is_true : Satisfies Step StateIsIn (fair_chain stages keep) x

  -- no target is one of none
  none_of : {A : Type 0} (target : SetOfVectors) → Contains [] target → A
  none_of target among = absurd (Contains-nil target among)

  module _ (keep : SetOfVectors) where
    end_bound : (set : SetOfVectors) (win : IsChainWin sys keep [] set) (x : Configuration) → ChainGood keep [] x → set x.state ≡ true
    end_bound _ (at_end set largest) x good =
        bounded sys ok plan complete (end_asks keep) (ChainGood keep []) StateIsIn
        (λ y g. g.reached)
        (λ y g. kept_now Step (StateIsIn keep) y g.is_true)
        (λ stays y z g step. record { reached = reached_next sys plan y z g.reached step; is_true = kept_next Step (StateIsIn keep) y z g.is_true step })
        (λ target among y z g not step. none_of target among)
        (λ target among y g not. none_of target among)
        (λ target among y g h. none_of target among)
        (λ target among y g. none_of target among)
        set largest.bound x good

    module _ (stage : SetStage) (rest : List SetStage) (later : SetOfVectors) (has_later : (x : Configuration) → ChainGood keep rest x → later x.state ≡ true) where
      abbrev IsMet : Configuration → Type 0
      IsMet = Satisfies Step StateIsIn (both (plain stage.target) (fair_chain rest keep))

      abbrev Held : Configuration → Type 0
      Held = Satisfies Step StateIsIn (both (plain stage.guard) (ef (both (plain stage.target) (fair_chain rest keep))))

      abbrev met : SetOfVectors
      met v = stage.target v && later v

      abbrev Good : Configuration → Type 0
      Good = ChainGood keep (stage ∷ rest)

      met_at : (x : Configuration) → Reached x → IsMet x → met x.state ≡ true
      met_at x reached m = and_from (stage.target x.state) (later x.state) m.0 (has_later x (record { reached = reached; is_true = m.1.0 }))

      not_met : (x : Configuration) → Reached x → met x.state ≡ false → IsMet x → ⊥
      not_met x reached e m = true≢false (sym (met_at x reached m) ∙ e)

      held : (x : Configuration) → Good x → met x.state ≡ false → Held x
      held x good e = ⊎_elim (λ m. absurd (not_met x good.reached e m)) (λ h. h) (weak_now Step Held IsMet x good.is_true)

      goes_on : (x y : Configuration) → Good x → met x.state ≡ false → Step x y → Good y
      goes_on x y good e step = record {
        reached = reached_next sys plan x y good.reached step;
        is_true = weak_next Step Held IsMet x y good.is_true (not_met x good.reached e) step;
      }

      may_meet : (x : Configuration) → Good x → SomePathMeets Step Anything IsMet x
      may_meet x good =
          ⊎_elim
          (λ m. record { rest = []; path = tt; meets = meets_here Anything IsMet x [] m })
          (λ h. h.1.0)
          (weak_now Step Held IsMet x good.is_true)

      -- the one target of a stage
      only : (target : SetOfVectors) → Contains (met ∷ []) target → met ≡ target
      only target among = ⊎_elim (λ e. e) (λ c. none_of target c) (Contains-cases met [] target among)

      stage_bound_in : (set : SetOfVectors) → IsFairBound sys (stage_asks stage later) set → (x : Configuration) → Good x → set x.state ≡ true
      stage_bound_in =
          bounded sys ok plan complete (stage_asks stage later) Good (λ target. IsMet)
          (λ y g. g.reached)
          (λ y g. refl)
          (λ stays y z g step. absurd (false≢true stays))
          (λ target among y z g not step. goes_on y z g (ap (λ (set : SetOfVectors). set y.state) (only target among) ∙ not) step)
          (λ target among y g not. (held y g (ap (λ (set : SetOfVectors). set y.state) (only target among) ∙ not)).0)
          (λ target among y g m. sym (ap (λ (set : SetOfVectors). set y.state) (only target among)) ∙ met_at y g.reached m)
          (λ target among y g. may_meet y g)

    pub chain_bound : (stages : List SetStage) (set : SetOfVectors) → IsChainWin sys keep stages set → (x : Configuration) → ChainGood keep stages x → set x.state ≡ true
    chain_bound [] set win = end_bound set win
    chain_bound _ _ (at_stage stage rest later set win largest) =
        stage_bound_in stage rest later (chain_bound rest later win) set largest.bound

  module _ (visits : List SetOfVectors) where
    record PatrolGood (x : Configuration) : Type 0 where
      reached : Reached x
      is_true : EveryPathKeeps Step (AllMay sys plan visits) Nothing x

    next_good : (x y : Configuration) → PatrolGood x → Step x y → PatrolGood y
    next_good x y good step = record {
      reached = reached_next sys plan x y good.reached step;
      is_true = kept_next Step (AllMay sys plan visits) x y good.is_true step;
    }

    patrol_bound : (set : SetOfVectors) → IsFairBound sys (patrol_asks visits) set → (x : Configuration) → PatrolGood x → set x.state ≡ true
    patrol_bound =
        bounded sys ok plan complete (patrol_asks visits) PatrolGood StateIsIn
        (λ y g. g.reached)
        (λ y g. refl)
        (λ stays y z g step. next_good y z g step)
        (λ target among y z g not step. next_good y z g step)
        (λ target among y g not. refl)
        (λ target among y g m. m)
        (λ target among y g. one_may sys plan visits target y (kept_now Step (AllMay sys plan visits) y g.is_true) among)

  pub fair_bound : (goal : SetGoal) (set : SetOfVectors) → IsFairWin sys goal set → IsFairPlan sys goal plan → (x : Configuration) → IsInitial sys x → set x.state ≡ true
  fair_bound (chain_goal chain) set win is x initial =
      chain_bound chain.keep chain.stages set win x (record { reached = reached_first sys plan x initial; is_true = is.has x initial })
  fair_bound (patrol_goal visits) set win is x initial =
      patrol_bound visits set win.bound x (record { reached = reached_first sys plan x initial; is_true = is.has x initial })

pub none_without_cover : (sys : System) (goal : SetGoal) (set : SetOfVectors) → IsSystem sys → IsFairWin sys goal set → covers_initial sys set ≡ false → HasNoFairPlan sys goal
none_without_cover sys goal set ok win short plan is = true≢false (sym covered ∙ short)
  where
    covered : covers_initial sys set ≡ true
    covered = list_all-from set sys.initial (λ s c.
        let x : Configuration = record { state = s; context = 1 } in
        let initial : IsInitial sys x = record { state = c; context = refl } in
        fair_bound sys ok plan is.complete goal set win is x initial)
