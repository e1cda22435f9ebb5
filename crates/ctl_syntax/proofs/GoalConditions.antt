-- The conditions of an until-chain or a patrol goal: whose fluents they name, how deep they are, and
-- where they hold.
use Rattle.std.proofs.Common.{◌≡◌, ◌↔◌, ℕ, ◌+◌, ◌≤◌, Bool, true, List, [], ◌∷◌, map, Option, Some, None, Result, Ok, Err, sym, ◌∙◌, ap, arith}
use Rattle.std.specs.Prelude.{All, IfOk, IfSome}
use Rattle.std.specs.Option.{option_map}
use Rattle.std.specs.declared.alloc.AllocError.{AllocError}
use Rattle.std.proofs.lemmas.List.Elements.{All-nil, All-cons}
use Rattle.task_core.specs.Conditions.{depth, holds, ids_below}
use Rattle.task_core.specs.ContextPlans.{Configuration, ContextPlan, Follows}
use Rattle.task_core.specs.Systems.{System}
use Rattle.task_core.specs.Vectors.{Vector, value_of}
use Rattle.task_core.specs.declared.conditions.Cond.{Cond}
use Rattle.ctl_syntax.specs.Conditions.{CondTree, all_conditions, condition_value, states_of}
use Rattle.ctl_syntax.specs.ContextGoals.{PlainGoal, plain_goal, plain_until, plain_patrol}
use Rattle.ctl_syntax.specs.GoalValues.{EachInGoal, EachInStage, IsTrueAlike, UntilTree, condition_or_true, goal_conditions, goal_tree, tree_of_goal, stage_conditions, stage_sets, stage_value, until_conditions, until_value}
use Rattle.ctl_syntax.specs.Goals.{CtlTree, EachPlain, af, plain, goal_row}
use Rattle.ctl_syntax.specs.Truth.{Satisfies, SatisfiesAll}
use Rattle.ctl_syntax.specs.UntilChains.{GuardedStage, PlainStage, until_tree}
use Rattle.ctl_syntax.specs.Values.{NamesBelow}
use Rattle.ctl_syntax.specs.declared.context_goals.ContextGoal.{ContextGoal}
use Rattle.ctl_syntax.specs.declared.context_goals.ContextGoal.TheVariants.{Until, Patrol}
use Rattle.ctl_syntax.specs.declared.context_goals.UntilStage.{UntilStage}
use Rattle.ctl_syntax.proofs.Conjunctions.{same_holds, stage_below, stage_deep, stage_holds}
use Rattle.ctl_syntax.proofs.Alike.{EachOf, HasAll, kept_alike, kept_list, reached_alike}
use Rattle.ctl_syntax.proofs.ConditionTrees.{below_is, depth_is, tree_below, tree_depth}
use Rattle.ctl_syntax.proofs.GoalTruth.{EachInPlain, EachInPlainGoal, GoalIsTrue, goal_each, goal_is, list_stage, until_alike}

-- what holds of each of the conditions

module _ (Q R : Cond → Type 0)
    (conjunction : (cond : Cond) (ps : List Cond) → condition_value cond ≡ all_conditions ps → EachOf Q ps → R cond)
    (copy : (cond p : Cond) → condition_value cond ≡ condition_value p → Q p → R cond) where
  given_each : (cond : Cond) (given : Option Cond) → condition_value cond ≡ condition_or_true given → IfSome given Q → R cond
  given_each cond None is each = conjunction cond [] is tt
  given_each cond (Some q) is each = copy cond q is each

  stage_each : (stage : UntilStage) (parts : PlainStage Cond) → stage_value stage ≡ stage_conditions parts → EachInPlain Q parts → EachInStage R stage
  stage_each stage parts is each = record {
    guard = given_each stage.guard parts.guard (ap (λ (s : GuardedStage CondTree). s.guard) is) each.guard;
    target = conjunction stage.target parts.targets (ap (λ (s : GuardedStage CondTree). s.target) is) each.targets;
  }

  stages_each : (items : List UntilStage) (stages : List (PlainStage Cond)) → map stage_value items ≡ map stage_conditions stages → EachOf (EachInPlain Q) stages → All (EachInStage R) items
  stages_each [] stages is each = All-nil (EachInStage R)
  stages_each (item ∷ items) [] is each = cc
  stages_each (item ∷ items) (stage ∷ stages) is each =
      let here : stage_value item ≡ stage_conditions stage = cc in
      let later : map stage_value items ≡ map stage_conditions stages = cc in
      All-cons (EachInStage R) item items (stage_each item stage here each.0) (stages_each items stages later each.1)

  visits_each : (items ps : List Cond) → map condition_value items ≡ map condition_value ps → EachOf Q ps → All R items
  visits_each [] ps is each = All-nil R
  visits_each (cond ∷ items) [] is each = cc
  visits_each (cond ∷ items) (p ∷ ps) is each =
      let here : condition_value cond ≡ condition_value p = cc in
      let later : map condition_value items ≡ map condition_value ps = cc in
      All-cons R cond items (copy cond p here each.0) (visits_each items ps later each.1)

  parts_each : (found : ContextGoal) (parts : PlainGoal Cond) → tree_of_goal found ≡ goal_conditions parts → EachInPlainGoal Q parts → EachInGoal R found
  parts_each (Until chain) (plain_until parts) is each =
      let same : until_value chain ≡ until_conditions parts = cc in
      record {
        stages = stages_each chain.stages.items parts.stages (ap (λ (t : UntilTree). t.stages) same) each.stages;
        keep = given_each chain.keep parts.keep (ap (λ (t : UntilTree). t.keep) same) each.keep;
      }
  parts_each (Until chain) (plain_patrol ps) is each = cc
  parts_each (Patrol conds) (plain_until parts) is each = cc
  parts_each (Patrol conds) (plain_patrol ps) is each =
      let same : map condition_value conds.items ≡ map condition_value ps = cc in
      visits_each conds.items ps same each

  found_each : (found : Option ContextGoal) (parts : Option (PlainGoal Cond)) → option_map tree_of_goal found ≡ option_map goal_conditions parts → IfSome parts (EachInPlainGoal Q) → IfSome found (EachInGoal R)
  found_each None parts is each = tt
  found_each (Some found) None is each = cc
  found_each (Some found) (Some parts) is each =
      let one : tree_of_goal found ≡ goal_conditions parts = cc in
      parts_each found parts one each

  pub answer_each : (goal : CtlTree Cond) (result : Result (Option ContextGoal) AllocError) → EachPlain Q goal
      → IfOk result (λ found. option_map tree_of_goal found ≡ option_map goal_conditions (plain_goal goal))
      → IfOk result (λ found. IfSome found (EachInGoal R))
  answer_each goal (Ok found) each is = found_each found (plain_goal goal) is (goal_each Q goal each)
  answer_each goal (Err refusal) each is = tt

pub answer_names : (n : ℕ) (goal : CtlTree Cond) (result : Result (Option ContextGoal) AllocError) → NamesBelow n goal
    → IfOk result (λ found. option_map tree_of_goal found ≡ option_map goal_conditions (plain_goal goal))
    → IfOk result (λ found. IfSome found (EachInGoal (λ (cond : Cond). ids_below n cond ≡ true)))
answer_names n =
    answer_each (λ (p : Cond). ids_below n p ≡ true) (λ (p : Cond). ids_below n p ≡ true)
    (stage_below n)
    (λ cond p is below. below_is n cond ∙ ap (tree_below n) is ∙ sym (below_is n p) ∙ below)

pub answer_depth : (n : ℕ) (goal : CtlTree Cond) (result : Result (Option ContextGoal) AllocError) → EachPlain (λ (p : Cond). depth p ≤ n) goal
    → IfOk result (λ found. option_map tree_of_goal found ≡ option_map goal_conditions (plain_goal goal))
    → IfOk result (λ found. IfSome found (EachInGoal (λ (cond : Cond). depth cond ≤ n + 1)))
answer_depth n =
    answer_each (λ (p : Cond). depth p ≤ n) (λ (p : Cond). depth p ≤ n + 1)
    (stage_deep n)
    (λ cond p is deep. let e : depth cond ≡ depth p = depth_is cond ∙ ap tree_depth is ∙ sym (depth_is p) in omega (arith, e, deep))

-- where the goal is true

given_alike : (cond : Cond) (given : Option Cond) → condition_value cond ≡ condition_or_true given
    → (value : ℕ → Bool) → EachOf (λ (p : Cond). holds p value ≡ true) (kept_list given) ↔ (holds cond value ≡ true)
given_alike cond None is value = stage_holds value cond [] is
given_alike cond (Some q) is value = let e = same_holds value cond q is in (λ each. e ∙ each.0, λ one. (sym e ∙ one, tt))

module _ (sys : System) (plan : ContextPlan) where
  abbrev Holds : Cond → Configuration → Type 0
  Holds cond y = states_of cond y.state ≡ true

  abbrev IsIn : (Vector → Bool) → Configuration → Type 0
  IsIn set y = set y.state ≡ true

  abbrev HoldAll : List Cond → Configuration → Type 0
  HoldAll = HasAll (Follows sys plan) Holds

  abbrev plain_stage : PlainStage Cond → GuardedStage (List Cond)
  plain_stage = list_stage (Follows sys plan) Holds

  stages_alike : (items : List UntilStage) (keep : Cond) (stages : List (PlainStage Cond)) (kept : List Cond)
      → map stage_value items ≡ map stage_conditions stages
      → ((value : ℕ → Bool) → EachOf (λ (p : Cond). holds p value ≡ true) kept ↔ (holds keep value ≡ true))
      → (x : Configuration)
      → Satisfies (Follows sys plan) HoldAll (until_tree (map plain_stage stages) kept) x
      ↔ Satisfies (Follows sys plan) IsIn (until_tree (map stage_sets items) (states_of keep)) x
  stages_alike [] keep [] kept is same x = kept_alike (Follows sys plan) (HoldAll kept) (IsIn (states_of keep)) (λ y. same (value_of y.state)) x
  stages_alike [] keep (stage ∷ stages) kept is same x = cc
  stages_alike (item ∷ items) keep [] kept is same x = cc
  stages_alike (item ∷ items) keep (stage ∷ stages) kept is same x =
      let here : stage_value item ≡ stage_conditions stage = cc in
      let later : map stage_value items ≡ map stage_conditions stages = cc in
      until_alike (Follows sys plan)
      (HoldAll (kept_list stage.guard))
      (λ y. HoldAll stage.targets y × (Satisfies (Follows sys plan) HoldAll (until_tree (map plain_stage stages) kept) y × Unit {0}))
      (IsIn (states_of item.guard))
      (λ y. IsIn (states_of item.target) y × (Satisfies (Follows sys plan) IsIn (until_tree (map stage_sets items) (states_of keep)) y × Unit {0}))
      (λ y. given_alike item.guard stage.guard (ap (λ (s : GuardedStage CondTree). s.guard) here) (value_of y.state))
      (λ y. let one = stage_holds (value_of y.state) item.target stage.targets (ap (λ (s : GuardedStage CondTree). s.target) here) in
      let rest = stages_alike items keep stages kept later same y in (
        λ s. (one.0 s.0, (rest.0 s.1.0, tt)),
        λ s. (one.1 s.0, (rest.1 s.1.0, tt)),
      ))
      x

  visits_alike : (items ps : List Cond) → map condition_value items ≡ map condition_value ps → (x : Configuration)
      → SatisfiesAll (Follows sys plan) Holds (goal_row (map (λ (q : Cond). af (plain q)) ps)) x
      ↔ SatisfiesAll (Follows sys plan) IsIn (goal_row (map (λ (set : Vector → Bool). af (plain set)) (map states_of items))) x
  visits_alike [] [] is x = (λ s. s, λ s. s)
  visits_alike [] (p ∷ ps) is x = cc
  visits_alike (cond ∷ items) [] is x = cc
  visits_alike (cond ∷ items) (p ∷ ps) is x =
      let here : condition_value cond ≡ condition_value p = cc in
      let later : map condition_value items ≡ map condition_value ps = cc in
      let one = reached_alike (Follows sys plan) (Holds p) (IsIn (states_of cond)) (λ y. let e = same_holds (value_of y.state) cond p here in (λ s. e ∙ s, λ s. sym e ∙ s)) x in
      let rest = visits_alike items ps later x in
      (λ s. (one.0 s.0, rest.0 s.1), λ s. (one.1 s.0, rest.1 s.1))

  goal_alike : (found : ContextGoal) (parts : PlainGoal Cond) → tree_of_goal found ≡ goal_conditions parts → (x : Configuration)
      → GoalIsTrue (Follows sys plan) Holds parts x ↔ Satisfies (Follows sys plan) IsIn (goal_tree found) x
  goal_alike (Until chain) (plain_until parts) is x =
      let same : until_value chain ≡ until_conditions parts = cc in
      stages_alike chain.stages.items chain.keep parts.stages (kept_list parts.keep) (ap (λ (t : UntilTree). t.stages) same) (given_alike chain.keep parts.keep (ap (λ (t : UntilTree). t.keep) same)) x
  goal_alike (Until chain) (plain_patrol ps) is x = cc
  goal_alike (Patrol conds) (plain_until parts) is x = cc
  goal_alike (Patrol conds) (plain_patrol ps) is x =
      let same : map condition_value conds.items ≡ map condition_value ps = cc in
      kept_alike (Follows sys plan) (SatisfiesAll (Follows sys plan) Holds (goal_row (map (λ (q : Cond). af (plain q)) ps)))
      (SatisfiesAll (Follows sys plan) IsIn (goal_row (map (λ (set : Vector → Bool). af (plain set)) (map states_of conds.items))))
      (visits_alike conds.items ps same) x

parts_alike : (goal : CtlTree Cond) (found : ContextGoal) (parts : Option (PlainGoal Cond)) → Some (tree_of_goal found) ≡ option_map goal_conditions parts
    → ((sys : System) (plan : ContextPlan) → IfSome parts (λ (one : PlainGoal Cond). (x : Configuration)
    → Satisfies (Follows sys plan) (Holds sys plan) goal x ↔ GoalIsTrue (Follows sys plan) (Holds sys plan) one x))
    → IsTrueAlike goal found
parts_alike goal found None is same sys plan x = cc
parts_alike goal found (Some parts) is same sys plan x =
    let one : tree_of_goal found ≡ goal_conditions parts = cc in
    let first = same sys plan x in
    let second = goal_alike sys plan found parts one x in
    (λ s. second.0 (first.0 s), λ s. first.1 (second.1 s))

pub true_alike : (goal : CtlTree Cond) (found : ContextGoal) → Some (tree_of_goal found) ≡ option_map goal_conditions (plain_goal goal) → IsTrueAlike goal found
true_alike goal found is = parts_alike goal found (plain_goal goal) is (λ sys plan. goal_is (Follows sys plan) (Holds sys plan) goal)
