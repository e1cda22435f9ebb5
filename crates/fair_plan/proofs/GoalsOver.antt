-- For the crates above: the goals of a task with few stages or visits are those that a search takes.
use Rattle.std.proofs.lemmas.Bool.{le-leb}
use Rattle.std.proofs.Common.{◌≡◌, ℕ, ◌≤◌, true, List, [], ◌∷◌, All}
use Rattle.std.proofs.lemmas.List.Elements.{All-cons, All-head, All-nil, All-tail}
use Rattle.ctl_syntax.specs.GoalValues.{EachInStage, GoalIsAtMostDeep, GoalNamesBelow}
use Rattle.ctl_syntax.specs.declared.context_goals.ContextGoal.{ContextGoal}
use Rattle.ctl_syntax.specs.declared.context_goals.ContextGoal.TheVariants.{Until, Patrol}
use Rattle.ctl_syntax.specs.declared.context_goals.UntilStage.{UntilStage}
use Rattle.task_core.specs.Conditions.{IsConditionOver, depth, ids_below}
use Rattle.task_core.specs.declared.conditions.Cond.{Cond}
use Rattle.fair_plan.specs.Goals.{IsFairGoalOver}
use Rattle.ctl_syntax.specs.GoalSizes.{HasSomeVisit, count_of, most_of}

all_both : {X : Type 0} (P Q R : X → Type 0) → ((x : X) → P x → Q x → R x) → (xs : List X) → All P xs → All Q xs → All R xs
all_both P Q R f [] a b = All-nil R
all_both P Q R f (x ∷ xs) a b = All-cons R x xs (f x (All-head P x xs a) (All-head Q x xs b)) (all_both P Q R f xs (All-tail P x xs a) (All-tail Q x xs b))

cond_over : (n : ℕ) (cond : Cond) → ids_below n cond ≡ true → depth cond ≤ 200 → IsConditionOver n cond
cond_over n cond names deep = record { names = names; shallow = le-leb (depth cond) 200 deep }

stage_over : (n : ℕ) (stage : UntilStage) → EachInStage (λ (cond : Cond). ids_below n cond ≡ true) stage → EachInStage (λ (cond : Cond). depth cond ≤ 200) stage → EachInStage (IsConditionOver n) stage
stage_over n stage names deep = record {
  guard = cond_over n stage.guard names.guard deep.guard;
  target = cond_over n stage.target names.target deep.target;
}

pub goal_over : (n : ℕ) (goal : ContextGoal) → count_of goal ≤ most_of goal → HasSomeVisit goal → GoalNamesBelow n goal → GoalIsAtMostDeep 200 goal → IsFairGoalOver n goal
goal_over n (Until chain) few some names deep = record {
  few = few;
  each = record {
    stages = all_both (EachInStage (λ (cond : Cond). ids_below n cond ≡ true)) (EachInStage (λ (cond : Cond). depth cond ≤ 200)) (EachInStage (IsConditionOver n)) (stage_over n) chain.stages.items names.stages deep.stages;
    keep = cond_over n chain.keep names.keep deep.keep;
  };
}
goal_over n (Patrol visits) few some names deep = record {
  some = some;
  few = few;
  each = all_both (λ (cond : Cond). ids_below n cond ≡ true) (λ (cond : Cond). depth cond ≤ 200) (IsConditionOver n) (cond_over n) visits.items names deep;
}
