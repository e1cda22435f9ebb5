-- Plans that meet a problem, and problems that none meets.
use Rattle.std.proofs.Common.{Bool, List, inl, inr, refl, subst}
use Rattle.pddl_ast.specs.Trees.{DomainTree, ProblemTree}
use Rattle.pddl_system.specs.Systems.{action_names, fluent_names, system}
use Rattle.plan_certs.specs.Certificates.{IsAccepted, PlainCertificate}
use Rattle.plan_check.specs.Verdicts.{CanFollowRules}
use Rattle.plan_rules.specs.Denoted.{IsExecutable, denoted}
use Rattle.plan_rules.specs.Rules.{PlanRule, table}
use Rattle.task_core.specs.ContextPlans.{ContextPlan}
use Rattle.task_core.specs.Solutions.{HasNoSolution}
use Rattle.task_core.specs.Systems.{IsState, IsSystem, System}
use Rattle.task_core.specs.declared.classes.Class.{Class}
use Rattle.command_base.specs.Answers.{Answer}
use Rattle.plan_command.specs.FoundPlans.{IsTableResult}
use Rattle.plan_meets.specs.Meets.{Meets, contextual, pairs}
use Rattle.plan_command.specs.PlanCommand.{HasNoPlan, IsPlanResult}
use Rattle.command_base.specs.Words.{of_class, with_contexts}
use Rattle.plan_meets.proofs.Meetings.{end_is_state, table_meets}

-- what is known of accepted certificates
abbrev pub AcceptedMeansNone : Type 0
AcceptedMeansNone = (sys : System) (certificate : PlainCertificate) → IsSystem sys → IsAccepted sys certificate → HasNoSolution certificate.class sys

-- so rules whose actions can be executed wherever they match can be followed
pub followed : (sys : System) (rules : List PlanRule) → IsSystem sys → IsExecutable sys rules → CanFollowRules sys rules
followed sys rules ok can s rule reached has matching =
    can rule s has
    (subst (IsState sys) reached.path.ends (end_is_state sys (denoted sys rules) reached.start reached.path.rest ok (ok.initial reached.start reached.initial) reached.path.path)).vector
    matching

-- no table at all is a solution, so nothing meets the problem
pub no_table : (class : Class) (d : DomainTree) (p : ProblemTree) → HasNoSolution class (system d p) → HasNoPlan (of_class class) d p
no_table class d p none (pairs rows) meets = none rows meets.0 meets.1
no_table class d p none (contextual plan) never = never

pub no_contexts : (d : DomainTree) (p : ProblemTree) → ((plan : ContextPlan) → Meets with_contexts d p (contextual plan) → ⊥) → HasNoPlan with_contexts d p
no_contexts d p none (pairs rows) never = never
no_contexts d p none (contextual plan) meets = none plan meets

-- the answer for a system is that for the domain and the problem whose system it is
pub of_system : (certified : Bool) (class : Class) (d : DomainTree) (p : ProblemTree) (a : Answer) → IsTableResult certified class (system d p) (fluent_names d p) (action_names d p) a
    → IsPlanResult certified (of_class class) d p a
of_system certified class d p a (inl found) = inl (record {
  text = found.text;
  shown = found.shown;
  good = record {
    plan = table class found.rules;
    spelled = found.spelled;
    written = refl;
    meets = table_meets class class d p found.rules found.followed found.solves;
    executable = found.executable;
  };
  short = record { rules = found.rules; spelled = found.spelled; shortest = found.shortest };
  printed = record { rules = found.rules; printed = found.printed; spelled = found.written };
})
of_system certified class d p a (inr none) = inr (record { text = none.text; shown = none.shown; none = no_table class d p none.none; written = none.written })
