-- Plans that are judged by the goal that stands in the place of the problem's, where actions may be tried
-- again.
use Rattle.std.proofs.Common.{◌≡◌, ◌≤◌, ◌<◌, ◌⊎◌, ◌↔◌, ◌∙◌, ℕ, Bool, true, false, inl, inr, refl, sym, subst, ap, None, Some, Option}
use Rattle.std.specs.Prelude.{IfSome, IsTrue}
use Rattle.std.specs.Option.{option_map}
use Rattle.std.proofs.lemmas.Bool.{cases_lt, false≢true}
use Rattle.std.proofs.lemmas.Option.{none-some, same_Some}
use Rattle.ctl_syntax.specs.Conditions.{condition_value}
use Rattle.ctl_syntax.specs.ContextGoals.{PlainGoal}
use Rattle.ctl_syntax.specs.GoalValues.{GoalTree, goal_conditions, tree_of_goal}
use Rattle.ctl_syntax.specs.Goals.{map_plain}
use Rattle.ctl_syntax.specs.Values.{NamesBelow, ctl_value}
use Rattle.ctl_syntax.specs.declared.context_goals.ContextGoal.{ContextGoal}
use Rattle.ctl_syntax.specs.declared.goals.Ctl.{Ctl}
use Rattle.fair_theory.specs.FairGoals.{fair_tree}
use Rattle.fair_theory.specs.FairPlans.{HasFairly, sets_of_goal}
use Rattle.fair_theory.proofs.NamesBelow.{FairGoalsAreTrue}
use Rattle.pddl_ast.specs.Trees.{DomainTree, ProblemTree}
use Rattle.pddl_system.specs.CtlGoals.{ctl_goal_of, goal_value}
use Rattle.pddl_system.specs.Laws.{GroundedGoalsAreTrue}
use Rattle.pddl_system.specs.Systems.{system}
use Rattle.plan_check.specs.ContextVerdicts.{IsContextVerdict, IsTrueAt}
use Rattle.plan_check.specs.declared.verdicts.Verdict.{Verdict}
use Rattle.plan_check.proofs.Carried.{verdict_carried}
use Rattle.plan_rules.specs.Denoted.{denoted_contexts}
use Rattle.plan_rules.specs.Rules.{PlainPlan, automaton, table}
use Rattle.task_core.specs.Systems.{System}
use Rattle.task_core.specs.Tasks.{fluent_count, system_of}
use Rattle.task_core.specs.declared.conditions.Cond.{Cond}
use Rattle.task_core.specs.declared.tasks.Task.{Task}
use Rattle.check_command.specs.Judged.{HasGoalIn, IsTaskVerdict}
use Rattle.check_command.proofs.CheckAnswers.{verdict_for}
use Rattle.command_base.specs.Answers.{Refusal, no_memory}
use Rattle.command_base.specs.Words.{Bytes, PlanKind, with_contexts}
use Rattle.sexpr_text.specs.declared.forms.Place.{Place}
use Rattle.explain_command.specs.Fairly.{IsFairGoal, IsGoalFor, IsGoalRefusal, IsJudgedAs, IsVerdictFor}

-- the verdict for the goal that stands in the place of one with these parts
verdict_by : FairGoalsAreTrue → (d : DomainTree) (p : ProblemTree) (t : Task) (parts : ContextGoal) (made : Ctl) (plan : PlainPlan) (v : Verdict) → system_of t ≡ system d p
    → map_plain condition_value (ctl_value made) ≡ fair_tree (tree_of_goal parts) → IsTaskVerdict with_contexts t (Some made) plan v → IsVerdictFor d p parts plan v
verdict_by law d p t parts made (table written rules) v same translated never = absurd never
verdict_by law d p t parts made (automaton contexts rules) v same translated (formula, is, verdict) =
    let plan = denoted_contexts rules in
    let here : IsContextVerdict (system_of t) plan (IsTrueAt (system_of t) plan (ctl_value made)) v =
    subst (λ (g : Ctl). IsContextVerdict (system_of t) plan (IsTrueAt (system_of t) plan (ctl_value g)) v) (sym (same_Some made formula is)) verdict in
    subst (λ (s : System). IsContextVerdict s plan (HasFairly s plan (sets_of_goal parts)) v) same
    (verdict_carried (system_of t) plan (IsTrueAt (system_of t) plan (ctl_value made)) (HasFairly (system_of t) plan (sets_of_goal parts))
    (λ x. law (ctl_value made) parts translated (system_of t) plan x) v here)

-- the verdict on the plan of a task is that for the domain and the problem
pub judged_as : GroundedGoalsAreTrue → FairGoalsAreTrue → (fair : Bool) (kind : PlanKind) (d : DomainTree) (p : ProblemTree) (t : Task) (given judged : Option Ctl) (plan : PlainPlan) (v : Verdict)
    → (fair ≡ true → kind ≡ with_contexts) → system_of t ≡ system d p → option_map goal_value given ≡ ctl_goal_of d p → IsGoalFor fair given judged
    → IsTaskVerdict kind t judged plan v → IsJudgedAs fair kind d p plan v
judged_as law fair_law false kind d p t given judged plan v contexts same stands is verdict =
    verdict_for law kind d p t given plan v same stands (subst (λ (g : Option Ctl). IsTaskVerdict kind t g plan v) is verdict)
judged_as law fair_law true kind d p t given judged plan v contexts same stands for verdict =
    let by_contexts : IsTaskVerdict with_contexts t judged plan v = subst (λ (k : PlanKind). IsTaskVerdict k t judged plan v) (contexts refl) verdict in
    record {
      goal = for.goal;
      grounded = ap (option_map goal_value) (sym for.is_given) ∙ stands;
      parts = for.parts;
      has_parts = for.has_parts;
      judged = verdict_by fair_law d p t for.parts for.made plan v same for.translated (subst (λ (g : Option Ctl). IsTaskVerdict with_contexts t g plan v) for.is_judged by_contexts);
    }

-- the goal by which a plan is judged, by whether it may try its actions again
pub as_given : (fair : Bool) (given : Option Ctl) → fair ≡ false → IsGoalFor fair given given
as_given fair given is = subst (λ (b : Bool). IsGoalFor b given given) (sym is) refl

pub as_made : (fair : Bool) (given judged : Option Ctl) (made : Ctl) → fair ≡ true → judged ≡ Some made → IsFairGoal given (Some made) → IsGoalFor fair given judged
as_made fair given judged made is same for =
    subst (λ (b : Bool). IsGoalFor b given judged) (sym is) (subst (IsFairGoal given) (sym same) for)

pub as_refused : (fair : Bool) (name : Bytes) (place : Place) (given : Option Ctl) (r : Refusal) → fair ≡ true → (r ≡ no_memory) ⊎ IsGoalRefusal true name place given r
    → (r ≡ no_memory) ⊎ IsGoalRefusal fair name place given r
as_refused fair name place given r is why = subst (λ (b : Bool). (r ≡ no_memory) ⊎ IsGoalRefusal b name place given r) (sym is) why

pub has_made : (kind : PlanKind) (task : Task) (judged : Option Ctl) (made : Ctl) → kind ≡ with_contexts → judged ≡ Some made → HasGoalIn kind task judged
has_made kind task judged made is same = subst (λ (k : PlanKind). HasGoalIn k task judged) (sym is) (subst (λ (g : Option Ctl). HasGoalIn with_contexts task g) (sym same) refl)

pub names_made : (t other : Task) (judged : Option Ctl) (made : Ctl) → other ≡ t → judged ≡ Some made → NamesBelow (fluent_count t) (ctl_value made)
    → IfSome judged (λ goal. NamesBelow (fluent_count other) (ctl_value goal))
names_made t other judged made same is names =
    subst (λ (g : Option Ctl). IfSome g (λ goal. NamesBelow (fluent_count other) (ctl_value goal))) (sym is) (subst (λ (x : Task). NamesBelow (fluent_count x) (ctl_value made)) (sym same) names)

-- there are more than the most stages where there aren't as few
pub many_stages : (b : Bool) (count most : ℕ) → IsTrue b ↔ (count ≤ most) → b ≡ false → most < count
many_stages b count most few is = go (cases_lt most count) where
  go : (most < count) ⊎ (count ≤ most) → most < count
  go (inl less) = less
  go (inr l) = absurd (false≢true (sym is ∙ few.1 l))

-- a goal without parts
pub no_parts : (found : Option GoalTree) (goal : Option (PlainGoal Cond)) → found ≡ None → found ≡ option_map goal_conditions goal → goal ≡ None
no_parts found None is same = refl
no_parts found (Some parts) is same = absurd (none-some (goal_conditions parts) (sym is ∙ same))
