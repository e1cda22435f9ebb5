-- The goal by which a plan is judged, where actions may be tried again, names the fluents that the goal
-- names.
use Rattle.std.proofs.Common.{◌≡◌, ◌∙◌, ℕ, true, List, ◌∷◌, map, sym, subst, All, []}
use Rattle.std.proofs.lemmas.List.Elements.{All-head, All-tail}
use Rattle.ctl_syntax.specs.Conditions.{CondTree, condition_value}
use Rattle.ctl_syntax.specs.GoalValues.{EachInStage, GoalNamesBelow, stage_value, tree_of_goal}
use Rattle.ctl_syntax.specs.Goals.{CtlTree, EachPlain, EachPlainOf, ef, goal_row, map_plain, plain}
use Rattle.ctl_syntax.specs.Values.{NamesBelow, ctl_value}
use Rattle.ctl_syntax.specs.declared.context_goals.ContextGoal.{ContextGoal}
use Rattle.ctl_syntax.specs.declared.context_goals.ContextGoal.TheVariants.{Patrol, Until}
use Rattle.ctl_syntax.specs.declared.context_goals.UntilStage.{UntilStage}
use Rattle.ctl_syntax.specs.declared.goals.Ctl.{Ctl}
use Rattle.ctl_syntax.proofs.ConditionTrees.{below_is, tree_below}
use Rattle.ctl_syntax.proofs.Parts.{each_mapped, each_weaker}
use Rattle.fair_theory.specs.FairGoals.{both, fair_chain, fair_tree}
use Rattle.fair_theory.specs.FairPlans.{IsTrueFairly}
use Rattle.task_core.specs.Conditions.{ids_below}
use Rattle.task_core.specs.declared.conditions.Cond.{Cond}

-- what is known of goals whose actions may be tried again
abbrev pub FairGoalsAreTrue : Type 0
FairGoalsAreTrue = (made : CtlTree Cond) (found : ContextGoal) → map_plain condition_value made ≡ fair_tree (tree_of_goal found) → IsTrueFairly made found

-- the goal by which a plan is judged names the fluents that the goal names
module _ (n : ℕ) where
  abbrev Below : CondTree → Type 0
  Below t = tree_below n t ≡ true

  below : (c : Cond) → ids_below n c ≡ true → Below (condition_value c)
  below c names = sym (below_is n c) ∙ names

  chain_below : (stages : List UntilStage) (keep : Cond) → All (EachInStage (λ (c : Cond). ids_below n c ≡ true)) stages → ids_below n keep ≡ true
      → EachPlain Below (fair_chain (map stage_value stages) (condition_value keep))
  chain_below [] keep each kept = below keep kept
  chain_below (stage ∷ rest) keep each kept =
      let first = All-head (EachInStage (λ (c : Cond). ids_below n c ≡ true)) stage rest each in
      let later = chain_below rest keep (All-tail (EachInStage (λ (c : Cond). ids_below n c ≡ true)) stage rest each) kept in
      let met : EachPlain Below (both (plain (condition_value stage.target)) (fair_chain (map stage_value rest) (condition_value keep))) = (below stage.target first.target, (later, tt)) in
      ((below stage.guard first.guard, (met, tt)), met)

  visits_below : (visits : List Cond) → All (λ (c : Cond). ids_below n c ≡ true) visits
      → EachPlainOf Below (goal_row (map (λ (visit : CondTree). ef (plain visit)) (map condition_value visits)))
  visits_below [] each = tt
  visits_below (visit ∷ rest) each =
      (below visit (All-head (λ (c : Cond). ids_below n c ≡ true) visit rest each), visits_below rest (All-tail (λ (c : Cond). ids_below n c ≡ true) visit rest each))

  pub tree_names : (goal : ContextGoal) → GoalNamesBelow n goal → EachPlain Below (fair_tree (tree_of_goal goal))
  tree_names (Until chain) names = chain_below chain.stages.items chain.keep names.stages names.keep
  tree_names (Patrol visits) names = visits_below visits.items names

  pub translated_names : (goal : ContextGoal) (made : Ctl) → map_plain condition_value (ctl_value made) ≡ fair_tree (tree_of_goal goal) → GoalNamesBelow n goal → NamesBelow n (ctl_value made)
  translated_names goal made is names =
      each_weaker (λ (c : Cond). Below (condition_value c)) (λ (c : Cond). ids_below n c ≡ true) (λ c h. below_is n c ∙ h) (ctl_value made)
      (each_mapped condition_value Below (ctl_value made) (subst (EachPlain Below) (sym is) (tree_names goal names)))
