-- `plan .. --cert`: what was written at status 1 has a certificate that is accepted.
use Rattle.std.proofs.Common.{◌≡◌, ℕ, true, List, ◌++◌, refl, subst, sym, ap, ◌∙◌}
use Rattle.std.specs.Io.KnownBytes.{append_known}
use Rattle.std.proofs.lemmas.Bool.{true≢false}
use Rattle.pddl_ast.specs.Trees.{DomainTree, ProblemTree}
use Rattle.pddl_system.proofs.States.{they_have_a_system}
use Rattle.pddl_system.specs.Systems.{fluent_names, system}
use Rattle.plan_certs.proofs.PrintedLemmas.{printed_class}
use Rattle.plan_certs.specs.Certificates.{IsAccepted, PlainCertificate}
use Rattle.plan_certs.specs.Printed.{IsPrinted}
use Rattle.plan_certs.specs.Readings.{SpellsPlain as SpellsCertificate}
use Rattle.plan_certs.specs.Texts.{certificate_text}
use Rattle.plan_io.specs.Held.{Held}
use Rattle.task_core.specs.Solutions.{HasNoSolution}
use Rattle.task_core.specs.Systems.{IsSystem, System}
use Rattle.task_core.specs.declared.classes.Class.{Class}
use Rattle.command_base.specs.Answers.{Answer}
use Rattle.command_base.specs.Delivery.{Seen}
use Rattle.plan_meets.specs.Meets.{pairs}
use Rattle.command_base.specs.PddlTexts.{HoldBoth}
use Rattle.plan_command.specs.PlanCommand.{HasNoPlan, IsNoPlanText, no_plan_text}
use Rattle.replay_command.specs.ReplayCommand.{Tallies}
use Rattle.command_base.specs.Words.{Bytes, MayBeCertified, PlanKind, PlanWords, SaysPlan, of_class, with_contexts}
use Rattle.mbp_top.proofs.PlanWritten.{NoPlanWritten, no_plan_written}
use Rattle.plan_command.proofs.Meetings.{AcceptedMeansNone}
use Rattle.mbp_top.proofs.DueStatuses.{Done}

abbrev pub PrintedIsAccepted : Type 0
PrintedIsAccepted =
    (class : Class) (sys : System) (certificate : PlainCertificate) → IsSystem sys → IsPrinted class sys certificate → HasNoSolution class sys → IsAccepted sys certificate

-- what was written at status 1: that there is no plan, and a certificate of that
pub record CertificateWritten (held : Bytes → Held) (asked : PlanWords) (out out' : Seen) : Type 0 where
  pub domain : DomainTree
  pub problem : ProblemTree
  pub certificate : PlainCertificate
  pub both : HoldBoth held asked.domain asked.problem domain problem
  pub kind : asked.kind ≡ of_class certificate.class
  pub spelled : SpellsCertificate (fluent_names domain problem) (certificate_text (fluent_names domain problem) certificate) certificate
  pub accepted : IsAccepted (system domain problem) certificate
  pub none : HasNoSolution certificate.class (system domain problem)
  pub written : out'.written ≡ append_known out.written (no_plan_text ++ certificate_text (fluent_names domain problem) certificate)

of_text : AcceptedMeansNone → PrintedIsAccepted → (held : Bytes → Held) (asked : PlanWords) (out out' : Seen) (w : NoPlanWritten held asked out out') (kind : PlanKind) → asked.kind ≡ kind
    → MayBeCertified kind true → HasNoPlan kind w.domain w.problem → IsNoPlanText true kind w.domain w.problem w.text → CertificateWritten held asked out out'
of_text law accepted held asked out out' w (of_class class) kind may none text =
    let sys = system w.domain w.problem in
    let ok = they_have_a_system w.domain w.problem in
    let is : IsAccepted sys text.certificate = accepted class sys text.certificate ok text.printed (λ rows table solves. none (pairs rows) (table, solves)) in
    record {
      domain = w.domain;
      problem = w.problem;
      certificate = text.certificate;
      both = w.both;
      kind = kind ∙ ap of_class (sym (printed_class class sys text.certificate text.printed));
      spelled = text.spelled;
      accepted = is;
      none = law sys text.certificate ok is;
      written = w.written ∙ ap (λ (b : Bytes). append_known out.written b) text.written;
    }
of_text law accepted held asked out out' w with_contexts kind may none text = absurd (true≢false may)

pub certificate_written : AcceptedMeansNone → PrintedIsAccepted → (held : Bytes → Held) (failed : Bytes → Type 0) (tallies : Tallies) (words : List Bytes) (before after : ℕ) (out out' err err' : Seen) (status : ℕ)
    (a : Answer) (asked : PlanWords) → Done held failed tallies words before after out out' err err' status a → SaysPlan words asked → asked.certified ≡ true → status ≡ 1 → CertificateWritten held asked out out'
certificate_written law accepted held failed tallies words before after out out' err err' status a asked d says wanted one =
    let w = no_plan_written held failed tallies words before after out out' err err' status a asked d says one in
    of_text law accepted held asked out out' w asked.kind refl
    (subst (λ b. MayBeCertified asked.kind b) wanted says.for_class) w.none
    (subst (λ b. IsNoPlanText b asked.kind w.domain w.problem w.text) wanted w.is_text)
