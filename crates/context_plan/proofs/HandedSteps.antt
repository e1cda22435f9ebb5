-- The steps of the first pass are handed on to the second, to guards and sets with the same states.
use Rattle.std.proofs.Common.{◌≡◌, ◌≢◌, ℕ, zero, suc, ◌+◌, ◌-◌, ◌^◌, ◌<◌, ◌≤◌, Bool, ◌&&◌, ◌||◌, List, [], ◌∷◌, ◌++◌, Vec, drop, length, slice_index_or, refl, sym, ap, subst, ◌∙◌, ⊎_elim, arith, length-append}
use Rattle.std.specs.List.{list_any, range_with_len}
use Rattle.std.specs.declared.alloc.Global.{Global}
use Rattle.std.proofs.Math.Path.{fun_ext}
use Rattle.std.proofs.lemmas.Bool.{cases_eq}
use Rattle.ctl_syntax.specs.Conditions.{states_of}
use Rattle.ctl_syntax.specs.GoalValues.{stage_sets}
use Rattle.ctl_syntax.specs.declared.context_goals.UntilChain.{UntilChain}
use Rattle.ctl_syntax.specs.declared.context_goals.UntilStage.{UntilStage}
use Rattle.slot_board.specs.Board.{Scene}
use Rattle.slot_board.specs.declared.steps.Step.{Step}
use Rattle.slot_board.specs.declared.steps.Step.TheVariants.{Advance, Grow}
use Rattle.plan_theory.specs.Layers.{must_lead}
use Rattle.plan_theory.specs.Safe.{some_must_lead}
use Rattle.plan_theory.specs.UntilChains.{SetStage, UntilSets}
use Rattle.task_core.specs.Cubes.{SetOfVectors}
use Rattle.task_core.specs.Systems.{IsVector}
use Rattle.task_core.specs.Vectors.{Vector}
use Rattle.context_plan.specs.Chains.{until_sets}
use Rattle.context_plan.specs.Noted.{AddsNothing, AreStepsFrom, NotedStages, near_at, next_at, steps_at}
use Rattle.context_plan.specs.Scenes.{SameStates, Start, guarded, met_place, states_at, sys_in, sys_of, win_place}
use Rattle.context_plan.specs.Steps.{HasTakers, HasWins, met_by}
use Rattle.context_plan.specs.WorkingSets.{guard_first, guard_in, met_first, met_in}
use Rattle.context_plan.proofs.Guards.{must_inside, some_inside}
use Rattle.context_plan.proofs.SceneSteps.{leads_same, some_leads_same}
use Rattle.context_plan.proofs.WinSteps.{drop_some}

-- another guard and another set with the same states
module _ (start : Start) (g h f e : SetOfVectors) (guards : SameStates start g h) (same : SameStates start f e) where
  near_also : (k : ℕ) → SameStates start (near_at (guarded start g) f k) (near_at (guarded start h) e k)
  near_also zero v is = same v is
  near_also (suc k) v is =
      let before = near_also k in
      let one = near_at (guarded start g) f k in
      let two = near_at (guarded start h) e k in
      ap (λ b. b || some_must_lead (sys_in (guarded start g)) one v) (before v is)
      ∙ ap (λ b. two v || b)
      (some_inside (sys_of start) g one v
      ∙ ap (λ b. b && some_must_lead (sys_of start) one v) (guards v is)
      ∙ sym (some_inside (sys_of start) h one v)
      ∙ some_leads_same (guarded start h) one two before v is)

  lead_also : (k a : ℕ) (v : Vector) → IsVector (sys_of start) v → must_lead (sys_in (guarded start g)) (near_at (guarded start g) f k) v a ≡ must_lead (sys_in (guarded start h)) (near_at (guarded start h) e k) v a
  lead_also k a v is =
      let one = near_at (guarded start g) f k in
      let two = near_at (guarded start h) e k in
      must_inside (sys_of start) g one v a
      ∙ ap (λ b. b && must_lead (sys_of start) one v a) (guards v is)
      ∙ sym (must_inside (sys_of start) h one v a)
      ∙ leads_same (guarded start h) one two (near_also k) v a is

  next_also : (k n : ℕ) → SameStates start (next_at (guarded start g) f k n) (next_at (guarded start h) e k n)
  next_also k n v is =
      ap (λ b. b || list_any (must_lead (sys_in (guarded start g)) (near_at (guarded start g) f k) v) (range_with_len 0 n)) (near_also k v is)
      ∙ ap (λ (p : ℕ → Bool). near_at (guarded start h) e k v || list_any p (range_with_len 0 n)) (fun_ext (λ a. lead_also k a v is))

  adds_also : (k a : ℕ) → AddsNothing (guarded start g) f k a → AddsNothing (guarded start h) e k a
  adds_also k a none v is hit = sym (next_also k a v is) ∙ none v is (lead_also k a v is ∙ hit)

  pub steps_also : (k n : ℕ) (steps : List Step) → AreStepsFrom (guarded start g) f k n steps → AreStepsFrom (guarded start h) e k n steps
  steps_also k n [] s = (s.0, λ v is. sym (near_also k v is) ∙ s.1 v is ∙ near_also (2 ^ (sys_of start).fluents) v is)
  steps_also k n (Grow a ∷ rest) s = (s.0, s.1, (λ b low high. adds_also k b (s.2 b low high)), steps_also k (a.0 + 1) rest s.3)
  steps_also k n (Advance ∷ rest) s = (s.0, (λ b low high. adds_also k b (s.1 b low high)), steps_also (suc k) 0 rest s.2)

-- the steps at a place, those before the last, and the last
pub steps_before : (notes : List (Vec Step Global)) (last : Vec Step Global) (i : ℕ) → i < length notes → steps_at (notes ++ last ∷ []) i ≡ steps_at notes i
steps_before [] last i within = absurd (omega arith)
steps_before (x ∷ xs) last zero within = refl
steps_before (x ∷ xs) last (suc i) within = steps_before xs last i (omega arith)

pub steps_last : (notes : List (Vec Step Global)) (last : Vec Step Global) (i : ℕ) → i ≡ length notes → steps_at (notes ++ last ∷ []) i ≡ last.items
steps_last [] last zero is = refl
steps_last [] last (suc i) is = absurd (omega arith)
steps_last (x ∷ xs) last zero is = absurd (omega arith)
steps_last (x ∷ xs) last (suc i) is = steps_last xs last i (omega arith)

-- none is noted at first, and those of one stage more
pub stages_none : (start : Start) (chain : UntilSets) (i : ℕ) (notes : List (Vec Step Global)) → i ≡ start.stages → notes ≡ [] → NotedStages start chain i notes
stages_none start chain i notes is none = (let e : length notes ≡ 0 = ap length none in omega arith, λ j low high. absurd (omega arith))

pub stages_more : (start : Start) (x y : Scene) (chain : UntilChain) (i place : ℕ) (stage : UntilStage) (before after : List (Vec Step Global)) (steps : Vec Step Global) → 0 < i → i ≤ start.stages → place ≡ win_place (i - 1) → i - 1 < length chain.stages.items → stage ≡ slice_index_or chain.stages.items (i - 1) stage
    → HasWins start x y (until_sets chain) i → NotedStages start (until_sets chain) i before → after ≡ before ++ steps ∷ [] → AreStepsFrom (guarded start (states_of stage.guard)) (met_by y place stage.target) 0 0 steps.items → NotedStages start (until_sets chain) (i - 1) after
stages_more start x y chain i place stage before after steps some few is_place less is h noted done found =
    let sys = sys_of start in
    let sets = until_sets chain in
    let here : drop (i - 1) sets.stages ≡ stage_sets stage ∷ drop (suc (i - 1)) sets.stages =
    drop_some stage_sets chain.stages.items (i - 1) stage less ∙ ap (λ (s : UntilStage). stage_sets s ∷ drop (suc (i - 1)) sets.stages) (sym is) in
    let met : SameStates start (met_by y place stage.target) (met_in sys sets (i - 1)) =
    λ v is.
    ap (λ b. states_of stage.target v && b)
    (ap (λ k. states_at y k v) (let e : place + 2 ≡ win_place (suc (i - 1)) = omega arith in e)
    ∙ h.won.wins (suc (i - 1)) (omega arith) (omega arith) v is)
    ∙ ap (λ (s : List SetStage). met_first sys sets.keep s v) (sym here) in
    let guard : states_of stage.guard ≡ guard_in sets (i - 1) = ap guard_first (sym here) in
    let long : length before + i ≡ start.stages = noted.0 in
    subst (NotedStages start sets (i - 1)) (sym done) (
      let more : length (before ++ steps ∷ []) ≡ length before + 1 = length-append before (steps ∷ []) in omega arith,
      λ j low high.
          ⊎_elim
          (λ (same : j ≡ i - 1).
          subst (λ k. AreStepsFrom (guarded start (guard_in sets k)) (met_in sys sets k) 0 0 (steps_at (before ++ steps ∷ []) (start.stages - suc k))) (sym same)
          (subst (AreStepsFrom (guarded start (guard_in sets (i - 1))) (met_in sys sets (i - 1)) 0 0) (sym (steps_last before steps (start.stages - suc (i - 1)) (omega arith)))
          (steps_also start (states_of stage.guard) (guard_in sets (i - 1)) (met_by y place stage.target) (met_in sys sets (i - 1)) (λ v is. ap (λ (s : SetOfVectors). s v) guard) met 0 0 steps.items found)))
          (λ (differs : j ≢ i - 1).
          let under : i ≤ j = omega (arith, differs) in
          subst (AreStepsFrom (guarded start (guard_in sets j)) (met_in sys sets j) 0 0) (sym (steps_before before steps (start.stages - suc j) (omega arith))) (noted.1 j under high))
          (cases_eq j (i - 1)),
    )

-- the steps of a stage, by the numbers that the code computed
pub stage_steps_at : (start : Start) (x : Scene) (chain : UntilChain) (stage : UntilStage) (i n met : ℕ) (steps : List Step) (notes : List (Vec Step Global)) → length chain.stages.items ≡ n → start.stages ≡ n → i < n → stage ≡ slice_index_or chain.stages.items i stage → met ≡ met_place i → steps ≡ steps_at notes (n - 1 - i)
    → NotedStages start (until_sets chain) 0 notes → HasTakers start x (until_sets chain) i → AreStepsFrom (guarded start (states_of stage.guard)) (states_at x met) 0 0 steps
stage_steps_at start x chain stage i n met steps notes long stages less is is_met is_steps noted h =
    let sys = sys_of start in
    let sets = until_sets chain in
    let here : drop i sets.stages ≡ stage_sets stage ∷ drop (suc i) sets.stages =
    drop_some stage_sets chain.stages.items i stage (omega arith) ∙ ap (λ (s : UntilStage). stage_sets s ∷ drop (suc i) sets.stages) (sym is) in
    let guard : states_of stage.guard ≡ guard_in sets i = ap guard_first (sym here) in
    let at : steps_at notes (start.stages - suc i) ≡ steps = ap (steps_at notes) (let e : start.stages - suc i ≡ n - 1 - i = omega arith in e) ∙ sym is_steps in
    subst (AreStepsFrom (guarded start (states_of stage.guard)) (states_at x met) 0 0) at
    (steps_also start (guard_in sets i) (states_of stage.guard) (met_in sys sets i) (states_at x met) (λ v is. ap (λ (s : SetOfVectors). s v) (sym guard))
    (λ v is. sym (h.won.mets i (omega arith) (omega arith) v is) ∙ ap (λ k. states_at x k v) (sym is_met))
    0 0 (steps_at notes (start.stages - suc i)) (noted.1 i (omega arith) (omega arith)))
