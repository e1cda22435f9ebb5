-- Private: what is known of what a search for a plan of a task found.
use Rattle.std.specs.Prelude.{◌≡◌, ◌≢◌, ◌⊎◌, ⊤, Bool, true, false, List, [], Option, Some}
use Rattle.std.specs.Prelude.{None, Result, Ok, Err}
use Rattle.dd_sets.specs.declared.errors.SetErr.{SetErr}
use Rattle.plan_certs.specs.Named.{IsCertificateOf, plain_certificate}
use Rattle.plan_certs.specs.Printed.{IsPrinted}
use Rattle.plan_certs.specs.declared.certificates.Certificate.{Certificate}
use Rattle.plan_check.specs.Verdicts.{CanFollowRules}
use Rattle.plan_rules.specs.Denoted.{denoted, IsExecutable}
use Rattle.plan_rules.specs.Readings.{SpellsTable}
use Rattle.plan_rules.specs.Rules.{PlanRule, rules_of}
use Rattle.plan_rules.specs.Texts.{table_text}
use Rattle.plan_rules.specs.declared.rules.TablePlan.{TablePlan}
use Rattle.plan_theory.specs.Found.{IsPlanOfClass}
use Rattle.plan_theory.specs.PrintedRules.{ArePrintedRules}
use Rattle.plan_theory.specs.declared.answers.Found.{Found}
use Rattle.plan_theory.specs.declared.answers.Found.TheVariants.{NoPlan, Plan}
use Rattle.task_core.specs.Names.{Name}
use Rattle.task_core.specs.Solutions.{HasNoSolution, IsSolution}
use Rattle.task_core.specs.Systems.{System}
use Rattle.task_core.specs.Tables.{IsTable, Table}
use Rattle.task_core.specs.Tasks.{fluent_count, initial_states, system_of}
use Rattle.task_core.specs.declared.classes.Class.{Class}
use Rattle.task_core.specs.declared.tasks.Task.{Task}
use Rattle.command_base.specs.Answers.{Answer, affirmed, denied}
use Rattle.plan_command.specs.PlanCommand.{IsNoTableText, IsShortest}
use Rattle.command_base.specs.Words.{Bytes}
use Rattle.plan_command.specs.declared.class_search.Sought.{Sought}
use Rattle.plan_command.specs.declared.class_search.Sought.TheVariants.{Certified, Missing}
use Rattle.plan_command.specs.declared.class_search.Sought.TheVariants.{Table as FoundTable}

-- the plan is the one that is printed, and a solution; a weak or a strong one is a shortest
pub record IsFoundPlan (class : Class) (task : Task) (plan : TablePlan) : Type 0 where
  pub answer : IsPlanOfClass class task plan
  pub shortest : IsShortest class (system_of task) (denoted (system_of task) (rules_of plan))

-- what a search for a plan of the class found: such a plan, or that there is none
abbrev pub IsSearched : Class → Task → Result Found SetErr → Type 0
IsSearched class task (Ok (Plan plan)) = IsFoundPlan class task plan
IsSearched class task (Ok NoPlan) = HasNoSolution class (system_of task)
IsSearched class task (Err e) = ⊤

-- the certificate is the one that is printed of the class, and there is no plan
pub record IsFoundCertificate (class : Class) (task : Task) (certificate : Certificate)
    : Type 0 where
  pub printed : IsPrinted class (system_of task) (plain_certificate certificate)
  pub in_task : IsCertificateOf (fluent_count task) certificate
  pub none : HasNoSolution class (system_of task)

-- some table is a solution of the class
pub record HasSolution (class : Class) (sys : System) : Type 0 where
  pub rows : Table
  pub table : IsTable sys rows
  pub solves : IsSolution class sys rows

-- what a search for a certificate of the class found: it, or that there is a plan
abbrev pub IsCertified : Class → Task → Result (Option Certificate) SetErr → Type 0
IsCertified class task (Ok (Some certificate)) = IsFoundCertificate class task certificate
IsCertified class task (Ok None) = HasSolution class (system_of task)
IsCertified class task (Err e) = ⊤

-- what was found where the certificate that there is no plan is wanted, too, or isn't: a plan, or
-- that there is none, with the certificate exactly where it is wanted
abbrev pub IsSought : Bool → Class → Task → Result Sought SetErr → Type 0
IsSought certified class task (Ok (FoundTable plan)) = IsFoundPlan class task plan
IsSought certified class task (Ok Missing) =
    (certified ≡ false) × HasNoSolution class (system_of task)
IsSought certified class task (Ok (Certified certificate)) =
    (certified ≡ true) × IsFoundCertificate class task certificate
IsSought certified class task (Err e) = ⊤

-- what a search from the initial states found: that there is none, or what was looked for
abbrev pub IsSoughtFrom : Bool → Class → Task → Result (Option Sought) SetErr → Type 0
IsSoughtFrom certified class task (Ok None) = initial_states task ≡ []
IsSoughtFrom certified class task (Ok (Some found)) =
    (initial_states task ≢ []) × IsSought certified class task (Ok found)
IsSoughtFrom certified class task (Err e) = ⊤

-- Private: the answer is such a plan's text
pub record IsTableShown (class : Class) (sys : System) (fluents actions : List Name)
    (answer : Answer) : Type 0 where
  pub text : Bytes
  pub shown : answer ≡ affirmed text
  pub rules : List PlanRule
  pub spelled : SpellsTable fluents actions text class rules
  pub table : IsTable sys (denoted sys rules)
  pub solves : IsSolution class sys (denoted sys rules)
  pub executable : IsExecutable sys rules
  pub followed : CanFollowRules sys rules
  pub shortest : IsShortest class sys (denoted sys rules)
  pub printed : ArePrintedRules class sys rules
  pub written : text ≡ table_text fluents actions class rules

-- Private: the answer is that there is none, with the certificate of that where it is wanted
pub record IsTableMissing (certified : Bool) (class : Class) (sys : System) (fluents : List Name)
    (answer : Answer) : Type 0 where
  pub text : Bytes
  pub shown : answer ≡ denied text
  pub none : HasNoSolution class sys
  pub written : IsNoTableText certified class sys fluents text

abbrev pub IsTableResult : Bool → Class → System → List Name → List Name → Answer → Type 0
IsTableResult certified class sys fluents actions answer =
    IsTableShown class sys fluents actions answer
    ⊎ IsTableMissing certified class sys fluents answer
