-- A yes is that of a plan that meets the problem, and a no of one that doesn't.
use Rattle.std.proofs.Common.{◌≡◌, ℕ, List, ◌↔◌, inl, inr, sym, subst, ◌∙◌, true, Option}
use Rattle.std.proofs.lemmas.Option.{same_Some}
use Rattle.pddl_ast.specs.Trees.{DomainTree, ProblemTree, TemporalTree}
use Rattle.pddl_system.specs.Systems.{system}
use Rattle.plan_check.specs.ContextVerdicts.{MeetsGoal}
use Rattle.plan_check.specs.Verdicts.{CanFollowRules, IsVerdict, SaysYes}
use Rattle.plan_check.proofs.ContextLaws.{yes_met}
use Rattle.plan_check.specs.declared.verdicts.Reason.{Reason}
use Rattle.plan_check.specs.declared.verdicts.Verdict.{Verdict}
use Rattle.plan_check.specs.declared.verdicts.Verdict.TheVariants.{Yes, No}
use Rattle.plan_rules.specs.Denoted.{denoted, denoted_contexts}
use Rattle.plan_rules.specs.Rules.{PlainPlan, PlanRule, table, automaton}
use Rattle.task_core.specs.Solutions.{IsSolution}
use Rattle.task_core.specs.Systems.{System}
use Rattle.task_core.specs.declared.classes.Class.{Class}
use Rattle.command_base.specs.Answers.{Answer, is_shown}
use Rattle.check_command.specs.CheckCommand.{ExploreThen, IsVerdictOf}
use Rattle.plan_meets.specs.Meets.{PlanMeets}
use Rattle.plan_meets.specs.TemporalGoals.{HasGoal}
use Rattle.command_base.specs.Words.{PlanKind, of_class, with_contexts}
use Rattle.plan_meets.proofs.Meetings.{contexts_meet, meaning_meets, table_meets, table_solves}
use Rattle.command_base.proofs.PddlDecides.{not_refused}

-- what is known of verdicts
abbrev pub YesSolves : Type 0
YesSolves = (sys : System) (rules : List PlanRule) (class : Class) (verdict : Verdict) → IsVerdict sys rules class verdict
    → SaysYes verdict ↔ (CanFollowRules sys rules × IsSolution class sys (denoted sys rules))

pub shown_judged : (TooMany : Type 0) (sys : System) (plan : PlainPlan) (Then : Answer → Type 0) (a : Answer) → is_shown a ≡ true
    → ExploreThen TooMany sys plan Then a → Then a
shown_judged TooMany sys plan Then a shown (inl (many, is)) = absurd (not_refused _ a is shown)
shown_judged TooMany sys plan Then a shown (inr (inl (few, more, is))) = absurd (not_refused _ a is shown)
shown_judged TooMany sys plan Then a shown (inr (inr (few, small, then))) = then

-- a yes is one of a plan that meets the goal
pub yes_is_met : YesSolves → (kind : PlanKind) (d : DomainTree) (p : ProblemTree) (plan : PlainPlan) (bound : Option ℕ) → IsVerdictOf kind d p plan (Yes bound) → PlanMeets kind d p plan
yes_is_met law (of_class class) d p (table written rules) bound is =
    let both = (law (system d p) rules class (Yes bound) is).0 tt in
    table_meets class written d p rules both.0 both.1
yes_is_met law (of_class class) d p (automaton contexts rules) bound never = absurd never
yes_is_met law with_contexts d p (table written rules) bound never = absurd never
yes_is_met law with_contexts d p (automaton contexts rules) bound (goal, same, is) =
    contexts_meet d p contexts rules (goal, same, (yes_met (system d p) (denoted_contexts rules) (HasGoal d p (denoted_contexts rules) goal) (Yes bound) is).0 tt)

-- and a no is one of a plan that doesn't
pub no_is_not_met : YesSolves → (kind : PlanKind) (d : DomainTree) (p : ProblemTree) (plan : PlainPlan) (reason : Reason) → IsVerdictOf kind d p plan (No reason) → PlanMeets kind d p plan → ⊥
no_is_not_met law (of_class class) d p (table written rules) reason is met = (law (system d p) rules class (No reason) is).1 (table_solves class written d p rules met)
no_is_not_met law (of_class class) d p (automaton contexts rules) reason never met = absurd never
no_is_not_met law with_contexts d p (table written rules) reason never met = absurd never
no_is_not_met law with_contexts d p (automaton contexts rules) reason (goal, same, is) met =
    let plan = denoted_contexts rules in
    let meets = meaning_meets d p contexts rules met in
    (yes_met (system d p) plan (HasGoal d p plan goal) (No reason) is).1
    (subst (λ (t : TemporalTree). MeetsGoal (system d p) plan (HasGoal d p plan t)) (same_Some meets.0 goal (sym meets.1 ∙ same)) meets.2)
