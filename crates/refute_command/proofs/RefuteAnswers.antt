-- The verdict on a certificate for a task is that for the domain and the problem that the task comes
-- from; and what is known once more is read.
use Rattle.std.proofs.Common.{◌≡◌, ◌⊎◌, ◌∙◌, ℕ, List, inl, inr, refl, subst, ap, None, true}
use Rattle.pddl_ast.specs.Trees.{DomainTree, ProblemTree}
use Rattle.pddl_system.specs.Sizes.{first_passed}
use Rattle.pddl_system.specs.Systems.{fluent_names, system}
use Rattle.pddl_system.specs.Tasks.{task_of}
use Rattle.pddl_system.specs.Values.{task_value}
use Rattle.plan_certs.specs.Certificates.{PlainCertificate}
use Rattle.plan_certs.specs.Readings.{SpellsPlain}
use Rattle.plan_io.specs.Held.{Held}
use Rattle.task_core.specs.Names.{Name}
use Rattle.task_core.specs.Systems.{System}
use Rattle.task_core.specs.Tasks.{fluent_names as names_of_fluents, initial_states, system_of}
use Rattle.task_core.specs.declared.tasks.Task.{Task}
use Rattle.command_base.specs.Answers.{Answer, Refusal, full, no_memory, refused}
use Rattle.task_sets.specs.FullTables.{IsTightToEncode}
use Rattle.task_sets.specs.NodeRoom.{IsTightLimit}
use Rattle.refute_command.specs.FoundVerdicts.{IsRefutedOrFull}
use Rattle.command_base.specs.Grounded.{IsTaskOf}
use Rattle.command_base.specs.Grounding.{for_tables, has_goal_for}
use Rattle.command_base.specs.InitialStates.{InitialThen, empty_init}
use Rattle.command_base.specs.PddlTexts.{HoldBoth, ReadBoth}
use Rattle.command_base.specs.Reading.{IsRefusedFile}
use Rattle.refute_command.specs.RefuteCommand.{HoldsCertificate, IsFaultyCertificate, IsRefuteAnswer, IsRefuted, IsTightToJudge, IsTightVerdict, JudgeThen, MayJudgeTooFew, ShowsJudged}
use Rattle.command_base.specs.Words.{Bytes, RefuteWords}
use Rattle.command_base.proofs.Initials.{initial_over}
use Rattle.command_base.proofs.Later.{holds_over, read_over}
use Rattle.command_base.proofs.TaskNames.{same_fluents}
use Rattle.command_base.proofs.TaskGoals.{has_some, has_some_back}
use Rattle.ctl_syntax.specs.Conditions.{condition_value}
use Rattle.pddl_ast.specs.Trees.{FormulaTree}
use Rattle.pddl_system.specs.Fluents.{fluents}
use Rattle.pddl_system.specs.Settings.{setting}
use Rattle.pddl_system.specs.Tasks.{TaskTree, condition_of}
use Rattle.std.proofs.Common.{[]}
use Rattle.std.specs.Prelude.{IsSome}

-- a task has a goal where its problem has one
pub table_goal : (d : DomainTree) (p : ProblemTree) (t : Task) → task_value t ≡ task_of d p → has_goal_for for_tables p ≡ true → IsSome t.goal
table_goal d p t is some =
    has_some_back condition_value t.goal
    (has_some (λ (f : FormulaTree). condition_of (setting d p) (fluents d p) f []) p.goal (task_value t).goal (ap (λ (x : TaskTree). x.goal) is) some)

-- the answer of a later step, from the command's start
then_over : (held held' : Bytes → Held) (failed failed' : Bytes → Type 0) (asked : RefuteWords) (d : DomainTree) (p : ProblemTree) (a : Answer)
    → ((file : Bytes) → held' file ≡ held file) → (failed' asked.certificate → failed asked.certificate)
    → IsRefuted held' failed' asked d p a → IsRefuted held failed asked d p a
then_over held held' failed failed' asked d p a same over (inl why) = inl why
then_over held held' failed failed' asked d p a same over (inr (some, inl why)) = inr (some, inl why)
then_over held held' failed failed' asked d p a same over (inr (some, inr (kept, then))) =
    inr (
      some,
      inr (
        kept,
        read_over held held' failed failed' asked.certificate (SpellsPlain (fluent_names d p)) (IsFaultyCertificate (fluent_names d p)) (JudgeThen asked d p) a same over then,
      ),
    )

-- and so that the nodes may be too few
few_over : (held held' : Bytes → Held) (asked : RefuteWords) (d : DomainTree) (p : ProblemTree)
    → ((file : Bytes) → held' file ≡ held file) → MayJudgeTooFew held' asked d p → MayJudgeTooFew held asked d p
few_over held held' asked d p same few = record {
  goal = few.goal;
  within = few.within;
  certificate = few.certificate;
  file = holds_over held held' (SpellsPlain (fluent_names d p)) asked.certificate few.certificate same few.file;
  tight = few.tight;
  not_begun = few.not_begun;
}

-- after both files were read
pub after_refute : (held held' : Bytes → Held) (failed failed' : Bytes → Type 0) (asked : RefuteWords) (d : DomainTree) (p : ProblemTree) (a : Answer)
    → HoldBoth held asked.domain asked.problem d p
    → ((file : Bytes) → held' file ≡ held file) → (failed' asked.certificate → failed asked.certificate)
    → IsRefutedOrFull held' failed' asked d p a → (a ≡ refused no_memory) ⊎ IsRefuteAnswer held failed asked a
after_refute held held' failed failed' asked d p a both same over (inl memory) = inl memory
after_refute held held' failed failed' asked d p a both same over (inr (inl (few, is))) =
    inr (inl (record { domain = d; problem = p; both = both; few = few_over held held' asked d p same few }, is))
after_refute held held' failed failed' asked d p a both same over (inr (inr then)) =
    inr (inr (inr (d, both.holds_domain, inr (p, both.holds_problem, then_over held held' failed failed' asked d p a same over then))))

-- one of the files is refused
pub before_refute : (held : Bytes → Held) (failed : Bytes → Type 0) (asked : RefuteWords) (a : Answer)
    → (a ≡ refused no_memory) ⊎ ReadBoth held failed asked.domain asked.problem (IsRefuted held failed asked) a
    → (a ≡ refused no_memory) ⊎ IsRefuteAnswer held failed asked a
before_refute held failed asked a (inl memory) = inl memory
before_refute held failed asked a (inr read) = inr (inr read)

-- what is decided before the certificate is read
pub refuted_early : (held : Bytes → Held) (failed : Bytes → Type 0) (asked : RefuteWords) (d : DomainTree) (p : ProblemTree) (a : Answer)
    → (a ≡ refused no_memory) ⊎ IsRefuted held failed asked d p a → IsRefutedOrFull held failed asked d p a
refuted_early held failed asked d p a (inl memory) = inl memory
refuted_early held failed asked d p a (inr is) = inr (inr is)

-- the file of the certificate is refused
pub certificate_refused : (held : Bytes → Held) (failed : Bytes → Type 0) (asked : RefuteWords) (d : DomainTree) (p : ProblemTree) (t : Task) (r : Refusal)
    → task_value t ≡ task_of d p → first_passed d p ≡ None → has_goal_for for_tables p ≡ true
    → (r ≡ no_memory) ⊎ IsRefusedFile held failed (IsFaultyCertificate (names_of_fluents t)) asked.certificate r
    → IsRefutedOrFull held failed asked d p (refused r)
certificate_refused held failed asked d p t r is within goal (inl memory) = inl (ap refused memory)
certificate_refused held failed asked d p t r is within goal (inr why) =
    let named = subst (λ (ns : List Name). IsRefusedFile held failed (IsFaultyCertificate ns) asked.certificate r) (same_fluents d p t is) why in
    inr (inr (inr (goal, inr (within, inl (r, refl, named)))))

-- the verdict for a task is that for its domain and problem
shown_over : (sys sys' : System) (certificate : PlainCertificate) (a : Answer) → sys ≡ sys' → ShowsJudged sys certificate a → ShowsJudged sys' certificate a
shown_over sys sys' certificate a same shown = subst (λ (s : System). ShowsJudged s certificate a) same shown

tight_over : (nodes : ℕ) (d : DomainTree) (p : ProblemTree) (t : Task) (certificate : PlainCertificate) → IsTaskOf d p t
    → IsTightToJudge nodes t certificate → IsTightVerdict nodes d p certificate
tight_over nodes d p t certificate of tight = record {
  by_sizes = subst (λ (s : System). IsTightLimit 0 nodes s) of.system_is tight.by_sizes;
  by_sets = (t, of, tight.by_sets);
  full = (t, of, tight.full);
}

-- the answer for a certificate that was read
pub refuted_answer : (held : Bytes → Held) (failed : Bytes → Type 0) (asked : RefuteWords) (d : DomainTree) (p : ProblemTree) (t : Task) (certificate : PlainCertificate) (a : Answer)
    → task_value t ≡ task_of d p → system_of t ≡ system d p → first_passed d p ≡ None → has_goal_for for_tables p ≡ true
    → HoldsCertificate held (names_of_fluents t) asked.certificate certificate
    → (a ≡ refused no_memory)
    ⊎ (IsTightToJudge asked.options.nodes t certificate × (initial_states t ≡ [] → IsTightToEncode asked.options.nodes t) × (a ≡ refused (full asked.options.nodes)))
    ⊎ InitialThen (empty_init asked.problem p) (initial_states t) (ShowsJudged (system_of t) certificate) a
    → IsRefutedOrFull held failed asked d p a
refuted_answer held failed asked d p t certificate a is system_is within goal holds (inl memory) = inl memory
refuted_answer held failed asked d p t certificate a is system_is within goal holds (inr (inl (tight, alone, full_is))) =
    let of : IsTaskOf d p t = record { task_is = is; system_is = system_is; within = within } in
    let named = subst (λ (ns : List Name). HoldsCertificate held ns asked.certificate certificate) (same_fluents d p t is) holds in
    let few : MayJudgeTooFew held asked d p = record {
      goal = goal;
      within = within;
      certificate = certificate;
      file = named;
      tight = tight_over asked.options.nodes d p t certificate of tight;
      not_begun = λ none. (t, of, alone (ap (λ (s : System). s.initial) system_is ∙ none));
    } in
    inr (inl (few, full_is))
refuted_answer held failed asked d p t certificate a is system_is within goal holds (inr (inr then)) =
    let named = subst (λ (ns : List Name). HoldsCertificate held ns asked.certificate certificate) (same_fluents d p t is) holds in
    inr (inr (inr (
      goal,
      inr (
        within,
        inr (
          certificate,
          named,
          initial_over (empty_init asked.problem p) (initial_states t) (system d p).initial (ShowsJudged (system_of t) certificate) (ShowsJudged (system d p) certificate) a
              (ap (λ (s : System). s.initial) system_is) (shown_over (system_of t) (system d p) certificate a system_is) then,
        ),
      ),
    )))
