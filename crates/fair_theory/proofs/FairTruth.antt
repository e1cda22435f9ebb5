-- The goal that is made for an until-chain or a patrol goal is true where the goal of its sets of
-- states is.
use Rattle.std.proofs.Common.{◌≡◌, ◌↔◌, true, List, [], ◌∷◌, ◌⊎◌, map, refl, sym, ap, subst, ◌∙◌}
use Rattle.std.proofs.Math.Path.{fun_ext}
use Rattle.ctl_syntax.specs.Conditions.{CondTree, condition_value, states_of}
use Rattle.ctl_syntax.specs.GoalValues.{stage_sets, stage_value, tree_of_goal}
use Rattle.ctl_syntax.specs.Goals.{CtlTree, CtlTrees, plain, negation, all, any, implication, ax, ex, af, ef, ag, eg, au, eu, aw, ew, no_goal, goal_then, goal_row, map_plain, map_plain_of}
use Rattle.ctl_syntax.specs.Paths.{SomeNext, EveryPathMeets, SomePathMeets, EveryPathKeeps, SomePathKeeps}
use Rattle.ctl_syntax.specs.Truth.{Anything, Nothing, Satisfies, SatisfiesAll, SatisfiesAny}
use Rattle.ctl_syntax.specs.UntilChains.{GuardedStage}
use Rattle.ctl_syntax.specs.declared.context_goals.ContextGoal.{ContextGoal}
use Rattle.ctl_syntax.specs.declared.context_goals.ContextGoal.TheVariants.{Until, Patrol}
use Rattle.ctl_syntax.specs.declared.context_goals.UntilStage.{UntilStage}
use Rattle.ctl_syntax.proofs.ConditionTrees.{holds_is, tree_holds}
use Rattle.task_core.specs.ContextPlans.{Configuration, ContextPlan, Follows}
use Rattle.task_core.specs.Cubes.{SetOfVectors}
use Rattle.task_core.specs.Systems.{System}
use Rattle.task_core.specs.Vectors.{value_of}
use Rattle.task_core.specs.declared.conditions.Cond.{Cond}
use Rattle.plan_theory.specs.UntilChains.{StateIsIn}
use Rattle.fair_theory.specs.FairGoals.{fair_chain, fair_patrol, fair_tree}
use Rattle.fair_theory.specs.FairPlans.{HasFairly, fair_sets_tree, sets_of_goal}

-- a goal with other propositions in their places
module _ {P R X : Type 0} (Step : X → X → Type 0) (Has : R → X → Type 0) (f : P → R) where
  abbrev HasP : P → X → Type 0
  HasP p = Has (f p)

  lift : (F : (X → Type 0) → X → Type 0) {G H : X → Type 0} → G ≡ H → F G ≡ F H
  lift F e = ap F e

  mutual
    pub mapped : (g : CtlTree P) → Satisfies Step Has (map_plain f g) ≡ Satisfies Step HasP g
    mapped (plain p) = refl
    mapped (negation g) = lift (λ G x. G x → ⊥) (mapped g)
    mapped (all gs) = mapped_all gs
    mapped (any gs) = mapped_any gs
    mapped (implication g h) = lift (λ G x. G x → Satisfies Step Has (map_plain f h) x) (mapped g) ∙ lift (λ G x. Satisfies Step HasP g x → G x) (mapped h)
    mapped (ax g) = lift (λ G x. (y : X) → Step x y → G y) (mapped g)
    mapped (ex g) = lift (λ G x. SomeNext Step G x) (mapped g)
    mapped (af g) = lift (λ G x. EveryPathMeets Step Anything G x) (mapped g)
    mapped (ef g) = lift (λ G x. SomePathMeets Step Anything G x) (mapped g)
    mapped (ag g) = lift (λ G x. EveryPathKeeps Step G Nothing x) (mapped g)
    mapped (eg g) = lift (λ G x. SomePathKeeps Step G Nothing x) (mapped g)
    mapped (au g h) = lift (λ G x. EveryPathMeets Step G (Satisfies Step Has (map_plain f h)) x) (mapped g) ∙ lift (λ G x. EveryPathMeets Step (Satisfies Step HasP g) G x) (mapped h)
    mapped (eu g h) = lift (λ G x. SomePathMeets Step G (Satisfies Step Has (map_plain f h)) x) (mapped g) ∙ lift (λ G x. SomePathMeets Step (Satisfies Step HasP g) G x) (mapped h)
    mapped (aw g h) = lift (λ G x. EveryPathKeeps Step G (Satisfies Step Has (map_plain f h)) x) (mapped g) ∙ lift (λ G x. EveryPathKeeps Step (Satisfies Step HasP g) G x) (mapped h)
    mapped (ew g h) = lift (λ G x. SomePathKeeps Step G (Satisfies Step Has (map_plain f h)) x) (mapped g) ∙ lift (λ G x. SomePathKeeps Step (Satisfies Step HasP g) G x) (mapped h)

    mapped_all : (gs : CtlTrees P) → SatisfiesAll Step Has (map_plain_of f gs) ≡ SatisfiesAll Step HasP gs
    mapped_all no_goal = refl
    mapped_all (goal_then g gs) = lift (λ G x. G x × SatisfiesAll Step Has (map_plain_of f gs) x) (mapped g) ∙ lift (λ G x. Satisfies Step HasP g x × G x) (mapped_all gs)

    mapped_any : (gs : CtlTrees P) → SatisfiesAny Step Has (map_plain_of f gs) ≡ SatisfiesAny Step HasP gs
    mapped_any no_goal = refl
    mapped_any (goal_then g gs) = lift (λ G x. G x ⊎ SatisfiesAny Step Has (map_plain_of f gs) x) (mapped g) ∙ lift (λ G x. Satisfies Step HasP g x ⊎ G x) (mapped_any gs)

-- the goals of stages and of visits with other propositions in their places
module _ {P R : Type 0} (f : P → R) where
  abbrev map_guarded : GuardedStage P → GuardedStage R
  map_guarded stage = record { guard = f stage.guard; target = f stage.target }

  chain_mapped : (stages : List (GuardedStage P)) (keep : P) → map_plain f (fair_chain stages keep) ≡ fair_chain (map map_guarded stages) (f keep)
  chain_mapped [] keep = refl
  chain_mapped (stage ∷ rest) keep =
      ap (λ (g : CtlTree R).
      aw (all (goal_then (plain (f stage.guard)) (goal_then (ef (all (goal_then (plain (f stage.target)) (goal_then g no_goal)))) no_goal)))
      (all (goal_then (plain (f stage.target)) (goal_then g no_goal))))
      (chain_mapped rest keep)

  row_mapped : (visits : List P) → map_plain_of f (goal_row (map (λ (visit : P). ef (plain visit)) visits)) ≡ goal_row (map (λ (visit : R). ef (plain visit)) (map f visits))
  row_mapped [] = refl
  row_mapped (visit ∷ visits) = ap (goal_then (ef (plain (f visit)))) (row_mapped visits)

-- the states in which a condition tree holds
tree_states : CondTree → SetOfVectors
tree_states tree v = tree_holds tree (value_of v)

same_states : (cond : Cond) → tree_states (condition_value cond) ≡ states_of cond
unfolding tree_states
same_states cond = fun_ext (λ v. sym (holds_is cond (value_of v)))

same_stages : (stages : List UntilStage) → map (map_guarded tree_states) (map stage_value stages) ≡ map stage_sets stages
same_stages [] = refl
same_stages (stage ∷ stages) = λ j. (record { guard = same_states stage.guard j; target = same_states stage.target j }) ∷ same_stages stages j

same_visits : (conds : List Cond) → map tree_states (map condition_value conds) ≡ map states_of conds
same_visits [] = refl
same_visits (cond ∷ conds) = λ j. same_states cond j ∷ same_visits conds j

sets_tree : (found : ContextGoal) → map_plain tree_states (fair_tree (tree_of_goal found)) ≡ fair_sets_tree (sets_of_goal found)
sets_tree (Until chain) =
    chain_mapped tree_states (map stage_value chain.stages.items) (condition_value chain.keep)
    ∙ (λ j. fair_chain (same_stages chain.stages.items j) (same_states chain.keep j))
sets_tree (Patrol conds) =
    ap (λ row. ag (all row)) (row_mapped tree_states (map condition_value conds.items))
    ∙ ap fair_patrol (same_visits conds.items)

module _ (sys : System) (plan : ContextPlan) where
  abbrev HasCond : Cond → Configuration → Type 0
  HasCond cond y = states_of cond y.state ≡ true

  abbrev HasTree : CondTree → Configuration → Type 0
  HasTree tree y = StateIsIn (tree_states tree) y

  has_same : (λ (cond : Cond). HasTree (condition_value cond)) ≡ HasCond
  has_same = fun_ext (λ cond.
      let Has : SetOfVectors → Configuration → Type 0 = λ set y. set y.state ≡ true in
      ap Has (same_states cond))

  goals_same : (made : CtlTree Cond) (found : ContextGoal) → map_plain condition_value made ≡ fair_tree (tree_of_goal found)
      → Satisfies (Follows sys plan) HasCond made ≡ HasFairly sys plan (sets_of_goal found)
  goals_same made found is =
      let True : (Cond → Configuration → Type 0) → Configuration → Type 0 = λ Has. Satisfies (Follows sys plan) Has made in
      ap True (sym has_same)
      ∙ (sym (mapped (Follows sys plan) HasTree condition_value made)
      ∙ (ap (Satisfies (Follows sys plan) HasTree) is
      ∙ (sym (mapped (Follows sys plan) StateIsIn tree_states (fair_tree (tree_of_goal found)))
      ∙ ap (Satisfies (Follows sys plan) StateIsIn) (sets_tree found))))

  pub true_where : (made : CtlTree Cond) (found : ContextGoal) → map_plain condition_value made ≡ fair_tree (tree_of_goal found) → (x : Configuration)
      → Satisfies (Follows sys plan) HasCond made x ↔ HasFairly sys plan (sets_of_goal found) x
  true_where made found is x = (
    λ h. subst (λ (G : Configuration → Type 0). G x) (goals_same made found is) h,
    λ h. subst (λ (G : Configuration → Type 0). G x) (sym (goals_same made found is)) h,
  )
