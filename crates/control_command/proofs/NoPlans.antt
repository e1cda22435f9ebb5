-- Where a certificate is accepted there is no plan, and that is told.
use Rattle.std.proofs.Common.{◌≡◌, ◌++◌, Bool, true, false, List, refl, subst, sym}
use Rattle.pddl_ast.specs.Trees.{DomainTree, ProblemTree}
use Rattle.pddl_system.specs.Systems.{fluent_names, system}
use Rattle.pddl_system.proofs.States.{they_have_a_system}
use Rattle.plan_certs.specs.Certificates.{IsAccepted, PlainCertificate}
use Rattle.task_core.specs.Names.{Name}
use Rattle.task_core.specs.Systems.{System}
use Rattle.task_core.specs.Tasks.{fluent_names as names_of_fluents, system_of}
use Rattle.task_core.specs.declared.tasks.Task.{Task}
use Rattle.command_base.specs.Answers.{denied}
use Rattle.command_base.specs.Grounded.{IsTaskOf}
use Rattle.command_base.specs.Values.{bytes_of}
use Rattle.command_base.specs.Words.{PlanKind, of_class}
use Rattle.command_base.specs.declared.answers.Text.{Text}
use Rattle.command_base.proofs.TaskNames.{same_fluents}
use Rattle.plan_certs.specs.Readings.{SpellsPlain as SpellsCertificate}
use Rattle.plan_certs.specs.Texts.{certificate_text}
use Rattle.plan_command.specs.PlanCommand.{HasNoPlan, no_plan_text}
use Rattle.std.specs.Prelude.{Err, IfOk, Ok, Result}
use Rattle.std.specs.declared.alloc.AllocError.{AllocError}
use Rattle.plan_command.proofs.Meetings.{no_table, AcceptedMeansNone}
use Rattle.control_command.specs.Controllers.{IsNoPlanShown, IsRefuted}
use Rattle.control_command.specs.Judged.{IsNoPlanTold}
use Rattle.control_command.specs.Words.{ControlWords}

-- what is told of a task is told of the problem
told_of : (certified : Bool) (kind : PlanKind) (d : DomainTree) (p : ProblemTree) (certificate : PlainCertificate) (text : Text) → kind ≡ of_class certificate.class
    → IsAccepted (system d p) certificate → IsNoPlanTold certified (fluent_names d p) certificate text → IsNoPlanShown certified kind d p (bytes_of text)
told_of false kind d p certificate text is accepted told = told
told_of true kind d p certificate text is accepted told = record {
  certificate = certificate;
  of_class = is;
  accepted = accepted;
  spelled = told.1;
  written = told.0;
}

pub is_refuted : AcceptedMeansNone → (asked : ControlWords) (d : DomainTree) (p : ProblemTree) (task : Task) (certificate : PlainCertificate) (text : Text) → IsTaskOf d p task
    → asked.plan.kind ≡ of_class certificate.class → IsAccepted (system_of task) certificate → IsNoPlanTold asked.plan.certified (names_of_fluents task) certificate text
    → IsRefuted asked d p (denied (bytes_of text))
is_refuted law asked d p task certificate text of kind accepted told =
    let here = subst (λ (sys : System). IsAccepted sys certificate) of.system_is accepted in
    record {
      certificate = certificate;
      of_class = kind;
      accepted = here;
      none = subst (λ (k : PlanKind). HasNoPlan k d p) (sym kind) (no_table certificate.class d p (law (system d p) certificate (they_have_a_system d p) here));
      text = bytes_of text;
      shown = refl;
      told = told_of asked.plan.certified asked.plan.kind d p certificate text kind here
          (subst (λ (ns : List Name). IsNoPlanTold asked.plan.certified ns certificate text) (same_fluents d p task of.task_is) told);
    }

-- a text and what it spells
pub both_told : (fluents : List Name) (certificate : PlainCertificate) (r : Result Text AllocError) → IfOk r (λ text. bytes_of text ≡ no_plan_text ++ certificate_text fluents certificate)
    → IfOk r (λ text. SpellsCertificate fluents (certificate_text fluents certificate) certificate) → IfOk r (IsNoPlanTold true fluents certificate)
both_told fluents certificate (Ok text) written spells = (written, spells)
both_told fluents certificate (Err error) written spells = tt
