-- The three files decide the answer of `refute`, unless the table of nodes is full.
use Rattle.std.proofs.Common.{◌≡◌, ◌≢◌, List, refl, sym, ap, ◌∙◌}
use Rattle.std.proofs.lemmas.Bool.{false≢true}
use Rattle.pddl_ast.specs.Trees.{DomainTree, ProblemTree}
use Rattle.pddl_system.specs.Systems.{fluent_names, system}
use Rattle.plan_certs.specs.Certificates.{HoldsGoal, HoldsInitial, HoldsNoGoal, HoldsNoInitial, IsAccepted, PlainCertificate}
use Rattle.plan_certs.specs.Readings.{SpellsPlain}
use Rattle.plan_io.specs.Held.{Held, Untold}
use Rattle.cert_check.specs.Judgements.{IsVerdict}
use Rattle.cert_check.specs.declared.verdict.Flaw.TheVariants.{Initial, Goal, Action}
use Rattle.cert_check.specs.declared.verdict.Judged.{Judged}
use Rattle.cert_check.specs.declared.verdict.Judged.TheVariants.{Accepted, Rejected}
use Rattle.task_core.specs.Names.{Name}
use Rattle.task_core.specs.Systems.{System}
use Rattle.task_core.specs.Vectors.{Vector}
use Rattle.command_base.specs.Answers.{Answer, text_fault}
use Rattle.command_base.specs.Grounding.{GroundThen, for_tables}
use Rattle.command_base.specs.InitialStates.{empty_init}
use Rattle.command_base.specs.OneReading.{OneReading}
use Rattle.command_base.specs.PddlTexts.{ReadBoth}
use Rattle.refute_command.specs.RefuteCommand.{IsFaultyCertificate, IsRefuted, JudgeThen, RefuteThen, ShowsJudged, judged_answer}
use Rattle.command_base.specs.Words.{Bytes, RefuteWords}
use Rattle.command_base.proofs.Deciding.{Decides, IsGrammar, read_decides}
use Rattle.command_base.proofs.Initials.{initial_decides}
use Rattle.command_base.proofs.PddlDecides.{both_decides, goal_decides, ground_decides}
use Rattle.plan_certs.proofs.Spelled.{certificate_no_fault, one_certificate}
use Rattle.plan_certs.specs.Readings.{certificate_passes}
use Rattle.sexpr_text.proofs.PassLaws.{one_fault_by}

pub certificate_grammar : (fluents : List Name) → IsGrammar (SpellsPlain fluents) (IsFaultyCertificate fluents)
certificate_grammar fluents = record {
  one_tree = λ bytes c e. one_certificate fluents bytes c e;
  one_refusal = λ name bytes r s wrong other. wrong.2 ∙ ap (text_fault name) (one_fault_by (certificate_passes fluents) bytes wrong.0 other.0 wrong.1 other.1) ∙ sym other.2;
  not_both = λ name bytes r c wrong spelled. certificate_no_fault fluents bytes c wrong.0 spelled wrong.1;
}

-- what is wrong with a certificate excludes what it would be refused for before, and that it is
-- accepted
module _ (sys : System) (certificate : PlainCertificate) where
  no_start : HoldsNoInitial sys certificate → (s : Vector) → HoldsInitial sys certificate s → ⊥
  no_start none s holds = false≢true (sym (none s holds.initial) ∙ holds.held)

  no_goal : HoldsNoGoal sys certificate → (s : Vector) → HoldsGoal sys certificate s → ⊥
  no_goal none s holds = false≢true (sym (none s holds.goal) ∙ holds.held)

  pub not_accepted : (flaw_of : Judged) → IsVerdict sys certificate flaw_of → IsAccepted sys certificate → flaw_of ≡ Accepted
  not_accepted Accepted is accepted = refl
  not_accepted (Rejected Initial) none accepted = absurd (no_start none accepted.start accepted.initial)
  not_accepted (Rejected Goal) (s, (first, holds)) accepted = absurd (no_goal accepted.goal s holds)
  not_accepted (Rejected Action) (i, s, a, (first, none, out)) accepted = absurd (false≢true (sym out.leads ∙ accepted.actions i s a out.acts))

  -- no certificate has two verdicts
  pub one_judged : (j k : Judged) → IsVerdict sys certificate j → IsVerdict sys certificate k → j ≡ k
  one_judged j Accepted of_j of_k = not_accepted j of_j of_k
  one_judged Accepted (Rejected Initial) of_j of_k = sym (not_accepted (Rejected Initial) of_k of_j)
  one_judged Accepted (Rejected Goal) of_j of_k = sym (not_accepted (Rejected Goal) of_k of_j)
  one_judged Accepted (Rejected Action) of_j of_k = sym (not_accepted (Rejected Action) of_k of_j)
  one_judged (Rejected Initial) (Rejected Initial) of_j of_k = refl
  one_judged (Rejected Initial) (Rejected Goal) none (s, (first, holds)) = absurd (no_start none first.0 first.1)
  one_judged (Rejected Initial) (Rejected Action) none (i, s, a, (first, goalless, out)) = absurd (no_start none first.0 first.1)
  one_judged (Rejected Goal) (Rejected Initial) (s, (first, holds)) none = absurd (no_start none first.0 first.1)
  one_judged (Rejected Goal) (Rejected Goal) of_j of_k = refl
  one_judged (Rejected Goal) (Rejected Action) (s, (first, holds)) (i, t, a, (first', goalless, out)) = absurd (no_goal goalless s holds)
  one_judged (Rejected Action) (Rejected Initial) (i, s, a, (first, goalless, out)) none = absurd (no_start none first.0 first.1)
  one_judged (Rejected Action) (Rejected Goal) (i, t, a, (first', goalless, out)) (s, (first, holds)) = absurd (no_goal goalless s holds)
  one_judged (Rejected Action) (Rejected Action) of_j of_k = refl

  shown_decides : Decides (ShowsJudged sys certificate) (ShowsJudged sys certificate)
  shown_decides a b (j, of_j, is) (k, of_k, is') = is ∙ (ap judged_answer (one_judged j k of_j of_k) ∙ sym is')

judge_decides : (asked : RefuteWords) (d : DomainTree) (p : ProblemTree) (certificate : PlainCertificate)
    → Decides (JudgeThen asked d p certificate) (JudgeThen asked d p certificate)
judge_decides asked d p certificate =
    initial_decides (empty_init asked.problem p) (system d p).initial (ShowsJudged (system d p) certificate) (shown_decides (system d p) certificate)

then_decides : OneReading → (held : Bytes → Held) (failed failed' : Bytes → Type 0) (asked : RefuteWords) (d : DomainTree) (p : ProblemTree)
    → held asked.certificate ≢ Untold → ((file : Bytes) → failed file → ⊥) → ((file : Bytes) → failed' file → ⊥)
    → Decides (RefuteThen held failed asked d p) (RefuteThen held failed' asked d p)
then_decides one held failed failed' asked d p told quiet quiet' =
    let Then : PlainCertificate → Answer → Type 0 = JudgeThen asked d p in
    read_decides held failed failed' asked.certificate (SpellsPlain (fluent_names d p)) (IsFaultyCertificate (fluent_names d p))
    Then Then told (quiet asked.certificate) (quiet' asked.certificate) (certificate_grammar (fluent_names d p)) (λ certificate holds. judge_decides asked d p certificate)

pub refute_decides : OneReading → (held : Bytes → Held) (failed failed' : Bytes → Type 0) (asked : RefuteWords)
    → held asked.domain ≢ Untold → held asked.problem ≢ Untold → held asked.certificate ≢ Untold
    → ((file : Bytes) → failed file → ⊥) → ((file : Bytes) → failed' file → ⊥)
    → Decides (ReadBoth held failed asked.domain asked.problem (IsRefuted held failed asked)) (ReadBoth held failed' asked.domain asked.problem (IsRefuted held failed' asked))
refute_decides one held failed failed' asked told told' told'' quiet quiet' =
    both_decides one held failed failed' asked.domain asked.problem (IsRefuted held failed asked) (IsRefuted held failed' asked) told told' quiet quiet' (λ d p.
    goal_decides for_tables asked.problem p (GroundThen d p (RefuteThen held failed asked d p)) (GroundThen d p (RefuteThen held failed' asked d p))
    (ground_decides d p (RefuteThen held failed asked d p) (RefuteThen held failed' asked d p)
    (then_decides one held failed failed' asked d p told'' quiet quiet')))
