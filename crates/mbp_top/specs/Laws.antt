-- What follows for every run that has its cause: statements of laws. `held`, `faults` and `fetched`
-- are what the shelf tells.
use Rattle.std.specs.Prelude.{◌≡◌, ◌≢◌, ◌<◌, ◌⊎◌, ℕ, [], ◌∷◌, ◌++◌, Contains, List, None, Option}
use Rattle.std.specs.Prelude.{length, slice_index_or, true}
use Rattle.std.specs.Io.KnownBytes.{append_known}
use Rattle.exec_graph.specs.Executions.{ReachesMoreThan}
use Rattle.pddl_ast.specs.Trees.{DomainTree, ProblemTree}
use Rattle.pddl_system.specs.Sizes.{first_passed}
use Rattle.pddl_system.specs.Systems.{action_names, fluent_names, system}
use Rattle.plan_certs.specs.Certificates.{IsAccepted, PlainCertificate}
use Rattle.plan_certs.specs.Readings.{SpellsPlain as SpellsCertificate}
use Rattle.plan_certs.specs.Texts.{certificate_text}
use Rattle.plan_check.specs.declared.verdicts.Reason.{Reason}
use Rattle.plan_check.specs.declared.verdicts.Verdict.TheVariants.{Yes, No}
use Rattle.plan_io.specs.Fetches.{Fetches}
use Rattle.plan_io.specs.Held.{Held, Missing}
use Rattle.plan_rules.specs.Rules.{PlainPlan, PlanRule, table}
use Rattle.cert_check.specs.Judgements.{IsVerdict}
use Rattle.cert_check.specs.declared.verdict.Flaw.{Flaw}
use Rattle.cert_check.specs.declared.verdict.Judged.TheVariants.{Accepted, Rejected}
use Rattle.run_replay.specs.Records.{RecordTree}
use Rattle.run_replay.specs.declared.worlds.Step.{Step}
use Rattle.task_core.specs.Solutions.{HasNoSolution}
use Rattle.task_core.specs.Vectors.{Vector}
use Rattle.task_core.specs.declared.classes.Class.{Class}
use Rattle.task_core.specs.declared.classes.Class.TheVariants.{Weak, Strong, Cyclic}
use Rattle.command_base.specs.Answers.{Answer, full, read_fault, refused, status_of, text_of}
use Rattle.mbp_top.specs.Causes.{HasCause}
use Rattle.command_base.specs.Faults.{IsQuietAt, NoFault}
use Rattle.check_command.specs.CheckCommand.{HasBound, IsFirstAgainst, verdict_answer}
use Rattle.command_base.specs.Following.{HasTooManyStates, most_followed}
use Rattle.command_base.specs.Delivery.{IsCut, IsDelivered, IsWhole}
use Rattle.drill_command.specs.DrillCommand.{IsClassLine, MayDrillRunOut, SolvePrinted, SpellBoth}
use Rattle.drill_command.specs.DrillCommand.{drill_text}
use Rattle.ground_command.specs.GroundCommand.{listing_of}
use Rattle.plan_meets.specs.Meets.{PlanMeets}
use Rattle.command_base.specs.PddlTexts.{HoldBoth}
use Rattle.plan_command.specs.Enough.{IsTightPlan}
use Rattle.plan_command.specs.PlanCommand.{HasNoPlan, IsGoodText, IsNoPlanText, IsShortText}
use Rattle.plan_command.specs.PlanCommand.{IsTextPrinted, MayRunOut, no_plan_text}
use Rattle.command_base.specs.PlanFiles.{HoldsPlan}
use Rattle.command_base.specs.Reading.{IsFile}
use Rattle.command_base.specs.Grounding.{for_tables, has_goal_for}
use Rattle.refute_command.specs.RefuteCommand.{HoldsCertificate, IsTightVerdict, MayRefuteRunOut}
use Rattle.refute_command.specs.RefuteCommand.{judged_answer}
use Rattle.replay_command.specs.ReplayCommand.{AreToldAs, HoldRun, ended_status, replay_text}
use Rattle.replay_command.specs.ReplayCommand.{trace_under}
use Rattle.mbp_top.specs.Runs.{HasRun, IsTold, IsUndisturbed, Run}
use Rattle.command_base.specs.Frame.{FailedIn}
use Rattle.mbp_top.specs.Told.{IsDue, MayStandIn}
use Rattle.command_base.specs.Words.{Bytes, CheckWords, GroundWords, PlanWords, ReplayWords}
use Rattle.command_base.specs.Words.{SaysCheck, DrillWords, SaysDrill, SaysGround, SaysPlan}
use Rattle.command_base.specs.Words.{SaysReplay, Command, RefuteWords, Says, SaysRefute}
use Rattle.command_base.specs.Words.{default_nodes, files_of, of_class}

-- of every run that has its cause
abbrev pub OfRuns : {S : Type 0} → (S → Bytes → Held) → (S → ℕ) → (S → Bytes → S → Type 0)
    → (Run S → Type 0) → Type 0
OfRuns {S} held faults fetched Property =
    (run : Run S) → HasRun held faults fetched run → Property run

-- the status is one of ten
abbrev pub HasStatus : {S : Type 0} → Run S → Type 0
HasStatus {S} run = Contains (0 ∷ 1 ∷ 2 ∷ 3 ∷ 4 ∷ 5 ∷ 6 ∷ 7 ∷ 8 ∷ 9 ∷ []) run.status

-- at each status but 7 that is the answer's, and the answer is written whole
abbrev pub IsAnswered : {S : Type 0} → (S → Bytes → Held) → (S → ℕ) → (S → Bytes → S → Type 0)
    → Run S → Type 0
IsAnswered {S} held faults fetched run =
    run.status ≢ 7
    → (answer : Answer)
    × HasCause (held run.shelf) (FailedIn faults fetched run) run.handed run.words answer
    × (run.status ≡ status_of answer)
    × IsWhole answer run.out run.out_after run.err run.err_after

-- status 7: a sink had a fault, and took only a part of the answer
abbrev pub IsCutOff : {S : Type 0} → (S → Bytes → Held) → (S → ℕ) → (S → Bytes → S → Type 0)
    → Run S → Type 0
IsCutOff {S} held faults fetched run =
    run.status ≡ 7
    → (answer : Answer)
    × HasCause (held run.shelf) (FailedIn faults fetched run) run.handed run.words answer
    × IsQuietAt answer (faults run.shelf) (faults run.shelf_after)
    × IsCut answer run.out run.out_after run.err run.err_after

-- `plan`, status 0: the text that was written spells a plan whose meaning meets the problem that the two
-- files spell; it is as short as any; and it is the text that is printed
abbrev pub IsPlan : {S : Type 0} → (S → Bytes → Held) → Run S → Type 0
IsPlan {S} held run =
    (asked : PlanWords) → SaysPlan run.words asked → run.status ≡ 0
    → (domain : DomainTree) × (problem : ProblemTree) × (text : Bytes)
    × HoldBoth (held run.shelf) asked.domain asked.problem domain problem
    × IsGoodText asked.kind domain problem text
    × IsShortText asked.kind domain problem text
    × IsTextPrinted asked.kind domain problem text
    × (run.out_after.written ≡ append_known run.out.written text)

-- `plan`, status 1: nothing that a plan can mean meets the problem that the two files spell; and the
-- text that was written says so, with the certificate of that where it was asked for
abbrev pub IsNoPlan : {S : Type 0} → (S → Bytes → Held) → Run S → Type 0
IsNoPlan {S} held run =
    (asked : PlanWords) → SaysPlan run.words asked → run.status ≡ 1
    → (domain : DomainTree) × (problem : ProblemTree) × (text : Bytes)
    × HoldBoth (held run.shelf) asked.domain asked.problem domain problem
    × HasNoPlan asked.kind domain problem
    × IsNoPlanText asked.certified asked.kind domain problem text
    × (run.out_after.written ≡ append_known run.out.written text)

-- `plan`, status 5: the number of nodes may be too small for the problem that the two files spell, a
-- table for so many was full, and the number is what was written
abbrev pub IsFullAtLimit : {S : Type 0} → (S → Bytes → Held) → Run S → Type 0
IsFullAtLimit {S} held run =
    (asked : PlanWords) → SaysPlan run.words asked → run.status ≡ 5
    → MayRunOut (held run.shelf) asked
    × (run.err_after.written
    ≡ append_known run.err.written (text_of (refused (full asked.options.nodes))))

-- `plan .. --cert`, status 1: what was written is `no plan`, a line feed and a text that spells a
-- certificate of the class that was asked for. It is accepted for the problem that the two files
-- spell, so that no table at all is a solution of the class
abbrev pub IsCertified : {S : Type 0} → (S → Bytes → Held) → Run S → Type 0
IsCertified {S} held run =
    (asked : PlanWords) → SaysPlan run.words asked → asked.certified ≡ true → run.status ≡ 1
    → (domain : DomainTree) × (problem : ProblemTree) × (certificate : PlainCertificate)
    × HoldBoth (held run.shelf) asked.domain asked.problem domain problem
    × (asked.kind ≡ of_class certificate.class)
    × SpellsCertificate (fluent_names domain problem)
    (certificate_text (fluent_names domain problem) certificate) certificate
    × IsAccepted (system domain problem) certificate
    × HasNoSolution certificate.class (system domain problem)
    × (run.out_after.written ≡ append_known run.out.written
    (no_plan_text ++ certificate_text (fluent_names domain problem) certificate))

-- `ground`, status 0: the text that was written is the listing of the problem that the two files
-- spell, which is within the limits
abbrev pub IsListing : {S : Type 0} → (S → Bytes → Held) → Run S → Type 0
IsListing {S} held run =
    (asked : GroundWords) → SaysGround run.words asked → run.status ≡ 0
    → (domain : DomainTree) × (problem : ProblemTree)
    × HoldBoth (held run.shelf) asked.domain asked.problem domain problem
    × (first_passed domain problem ≡ None)
    × (run.out_after.written ≡ append_known run.out.written (listing_of domain problem))

-- `ground` of two files that spell a problem within the limits: it is listed, if no fault comes
abbrev pub ComesToListing : {S : Type 0} → (S → Bytes → Held) → (S → ℕ) → Run S → Type 0
ComesToListing {S} held faults run =
    (asked : GroundWords) (domain : DomainTree) (problem : ProblemTree)
    → SaysGround run.words asked
    → HoldBoth (held run.shelf) asked.domain asked.problem domain problem
    → first_passed domain problem ≡ None → IsUndisturbed held faults run
    → (run.status ≡ 0) ⊎ (run.status ≡ 8)

-- `check`, status 0: the plan that the third file spells meets the problem that the two others
-- spell, and the text that was written says yes, for a strong plan with the length of its longest
-- execution
abbrev pub IsYes : {S : Type 0} → (S → Bytes → Held) → Run S → Type 0
IsYes {S} held run =
    (asked : CheckWords) → SaysCheck run.words asked → run.status ≡ 0
    → (domain : DomainTree) × (problem : ProblemTree) × (plan : PlainPlan) × (bound : Option ℕ)
    × HoldBoth (held run.shelf) asked.domain asked.problem domain problem
    × HoldsPlan (held run.shelf) (fluent_names domain problem) (action_names domain problem)
    asked.plan plan
    × PlanMeets asked.kind domain problem plan
    × HasBound asked.kind domain problem plan bound
    × (run.out_after.written ≡ append_known run.out.written (text_of (verdict_answer (Yes bound))))

-- `check`, status 1: the text that was written names the first reason that speaks against the plan
abbrev pub IsNo : {S : Type 0} → (S → Bytes → Held) → Run S → Type 0
IsNo {S} held run =
    (asked : CheckWords) → SaysCheck run.words asked → run.status ≡ 1
    → (domain : DomainTree) × (problem : ProblemTree) × (plan : PlainPlan) × (reason : Reason)
    × HoldBoth (held run.shelf) asked.domain asked.problem domain problem
    × HoldsPlan (held run.shelf) (fluent_names domain problem) (action_names domain problem)
    asked.plan plan
    × IsFirstAgainst asked.kind domain problem plan reason
    × (run.out_after.written ≡ append_known run.out.written (text_of (verdict_answer (No reason))))

-- `replay`, status 0: the text that was written is that of the trace of the plan in the third file,
-- from the initial state and under the outcome numbers of the record in the fourth, and then that
-- of each monitor, with its title and the sum of its weights over the trace's steps
abbrev pub IsReplayOf : {S : Type 0} → (S → Bytes → Held) → Run S → Type 0
IsReplayOf {S} held run =
    (asked : ReplayWords) → SaysReplay run.words asked → run.status ≡ 0
    → (domain : DomainTree) × (problem : ProblemTree) × (plan : PlainPlan)
    × (recorded : RecordTree) × (first : Vector) × (told : List Step)
    × HoldBoth (held run.shelf) asked.domain asked.problem domain problem
    × (first_passed domain problem ≡ None)
    × HoldRun (held run.shelf) asked domain problem plan recorded first
    × AreToldAs (system domain problem)
    (trace_under (system domain problem) plan first recorded.words).steps told
    × (run.out_after.written ≡ append_known run.out.written
    (replay_text run.handed (action_names domain problem)
    (trace_under (system domain problem) plan first recorded.words) told))

-- `replay` of files that spell a problem within the limits with few initial states, a plan, and a
-- record that begins with the number of one: status 0 where the trace comes to an end, and 9 where
-- a number of the record is none of the action's outcomes or an action can't be executed, if no
-- fault comes
abbrev pub ComesToReplay : {S : Type 0} → (S → Bytes → Held) → (S → ℕ) → Run S → Type 0
ComesToReplay {S} held faults run =
    (asked : ReplayWords) (domain : DomainTree) (problem : ProblemTree) (plan : PlainPlan)
    (recorded : RecordTree) (first : Vector) → SaysReplay run.words asked
    → HoldBoth (held run.shelf) asked.domain asked.problem domain problem
    → first_passed domain problem ≡ None → (HasTooManyStates domain problem → ⊥)
    → HoldRun (held run.shelf) asked domain problem plan recorded first
    → IsUndisturbed held faults run
    → (run.status
    ≡ ended_status (trace_under (system domain problem) plan first recorded.words).ending)
    ⊎ (run.status ≡ 8)

-- `drill`, status 0: the two texts that are made spell a domain and a problem within the limits, and
-- the text that was written has the number of their fluents and actions, and for each class the line
-- that no table is a solution of it, or that of the printed rules, with their number and the verdict
-- on them
abbrev pub IsDrillOf : {S : Type 0} → Run S → Type 0
IsDrillOf {S} run =
    (asked : DrillWords) → SaysDrill run.words asked → run.status ≡ 0
    → (domain : DomainTree) × (problem : ProblemTree) × (weak : Bytes) × (strong : Bytes)
    × (cyclic : Bytes) × SpellBoth asked domain problem × (first_passed domain problem ≡ None)
    × IsClassLine (HasTooManyStates domain problem) Weak (system domain problem) weak
    × IsClassLine (HasTooManyStates domain problem) Strong (system domain problem) strong
    × IsClassLine (HasTooManyStates domain problem) Cyclic (system domain problem) cyclic
    × (run.out_after.written ≡ append_known run.out.written
    (drill_text asked (system domain problem) weak strong cyclic))

-- `drill` of a problem that is made, whose two texts spell one within the limits, with a goal and few
-- initial states, and of enough nodes: it is drilled if the printed rules of no class reach too many
-- configurations, and if no fault comes
abbrev pub ComesToDrill : {S : Type 0} → Run S → Type 0
ComesToDrill {S} run =
    (asked : DrillWords) (domain : DomainTree) (problem : ProblemTree) → SaysDrill run.words asked
    → SpellBoth asked domain problem
    → has_goal_for (of_class Weak) problem ≡ true → first_passed domain problem ≡ None
    → (HasTooManyStates domain problem → ⊥)
    → ((class : Class) (rules : List PlanRule) → SolvePrinted class (system domain problem) rules
    → ReachesMoreThan (system domain problem) (table class rules) most_followed → ⊥)
    → ((class : Class) → IsTightPlan (of_class class) default_nodes domain problem → ⊥)
    → NoFault run.out.faults run.out_after.faults → NoFault run.err.faults run.err_after.faults
    → (run.status ≡ 0) ⊎ (run.status ≡ 8)

-- `drill`, status 5: the number of nodes may be too small for the problem that the two texts spell, a
-- table for so many was full, and the number is what was written
abbrev pub IsFullDrill : {S : Type 0} → Run S → Type 0
IsFullDrill {S} run =
    (asked : DrillWords) → SaysDrill run.words asked → run.status ≡ 5
    → MayDrillRunOut asked
    × (run.err_after.written
    ≡ append_known run.err.written (text_of (refused (full default_nodes))))

-- `refute`, status 0: the certificate that the third file spells is accepted for the problem that the
-- two others spell, so that no table at all is a solution of its class; and the text that was written
-- says that it is accepted
abbrev pub IsAcceptance : {S : Type 0} → (S → Bytes → Held) → Run S → Type 0
IsAcceptance {S} held run =
    (asked : RefuteWords) → SaysRefute run.words asked → run.status ≡ 0
    → (domain : DomainTree) × (problem : ProblemTree) × (certificate : PlainCertificate)
    × HoldBoth (held run.shelf) asked.domain asked.problem domain problem
    × HoldsCertificate (held run.shelf) (fluent_names domain problem) asked.certificate
    certificate
    × IsAccepted (system domain problem) certificate
    × HasNoSolution certificate.class (system domain problem)
    × (run.out_after.written
    ≡ append_known run.out.written (text_of (judged_answer Accepted)))

-- `refute`, status 1: the text that was written names the first thing that is wrong with the
-- certificate
abbrev pub IsRejection : {S : Type 0} → (S → Bytes → Held) → Run S → Type 0
IsRejection {S} held run =
    (asked : RefuteWords) → SaysRefute run.words asked → run.status ≡ 1
    → (domain : DomainTree) × (problem : ProblemTree) × (certificate : PlainCertificate)
    × (flaw : Flaw)
    × HoldBoth (held run.shelf) asked.domain asked.problem domain problem
    × HoldsCertificate (held run.shelf) (fluent_names domain problem) asked.certificate
    certificate
    × IsVerdict (system domain problem) certificate (Rejected flaw)
    × (run.out_after.written
    ≡ append_known run.out.written (text_of (judged_answer (Rejected flaw))))

-- `refute`, status 5: the number of nodes may be too small for the verdict on the certificate, a table
-- for so many was full, and the number is what was written
abbrev pub IsFullRefutation : {S : Type 0} → (S → Bytes → Held) → Run S → Type 0
IsFullRefutation {S} held run =
    (asked : RefuteWords) → SaysRefute run.words asked → run.status ≡ 5
    → MayRefuteRunOut (held run.shelf) asked
    × (run.err_after.written
    ≡ append_known run.err.written (text_of (refused (full asked.options.nodes))))

-- `refute` of files that spell a problem within the limits, with an initial state and a goal, and a
-- certificate, and of enough nodes: status 0 exactly where the certificate is accepted, if no fault
-- comes
abbrev pub ComesToJudged : {S : Type 0} → (S → Bytes → Held) → (S → ℕ) → Run S → Type 0
ComesToJudged {S} held faults run =
    (asked : RefuteWords) (domain : DomainTree) (problem : ProblemTree)
    (certificate : PlainCertificate) → SaysRefute run.words asked
    → HoldBoth (held run.shelf) asked.domain asked.problem domain problem
    → has_goal_for for_tables problem ≡ true → first_passed domain problem ≡ None
    → (system domain problem).initial ≢ []
    → HoldsCertificate (held run.shelf) (fluent_names domain problem) asked.certificate
    certificate
    → (IsTightVerdict asked.options.nodes domain problem certificate → ⊥)
    → IsUndisturbed held faults run
    → ((run.status ≡ 0) × IsAccepted (system domain problem) certificate)
    ⊎ ((run.status ≡ 1) × (IsAccepted (system domain problem) certificate → ⊥))
    ⊎ (run.status ≡ 8)

-- the file of this place in the command can't be read: there is none of its name, or the count of
-- faults rose in its fetch, the last of the run. The files before it were read, and its name is what
-- was written
pub record IsUnreadAt {S : Type 0} (held : S → Bytes → Held) (faults : S → ℕ)
    (fetched : S → Bytes → S → Type 0) (run : Run S) (files : List Bytes)
    (place : ℕ) (name : Bytes) : Type 0 where
  pub there : place < length files
  pub named : slice_index_or files place [] ≡ name
  pub before : (i : ℕ) → i < place
      → (bytes : Bytes) × IsFile (held run.shelf) (slice_index_or files i []) bytes
  pub unread : (held run.shelf name ≡ Missing) ⊎ FailedIn faults fetched run name
  pub written : run.err_after.written
      ≡ append_known run.err.written (text_of (refused (read_fault name)))

-- status 6: a file of the command can't be read
abbrev pub IsUnread : {S : Type 0} → (S → Bytes → Held) → (S → ℕ) → (S → Bytes → S → Type 0)
    → Run S → Type 0
IsUnread {S} held faults fetched run =
    (command : Command) → Says run.words command → run.status ≡ 6
    → (place : ℕ) × (name : Bytes)
    × IsUnreadAt held faults fetched run (files_of command) place name

-- statuses 0, 1, 5 and 9 are decided by all files of the command: each was fetched, in their order,
-- each once, and nothing else was
abbrev pub AreAllFetched : {S : Type 0} → (S → Bytes → S → Type 0) → Run S → Type 0
AreAllFetched {S} fetched run =
    (command : Command) → Says run.words command
    → (run.status ≡ 0) ⊎ (run.status ≡ 1) ⊎ (run.status ≡ 5) ⊎ (run.status ≡ 9)
    → Fetches fetched (files_of command) run.shelf run.shelf_after

-- where the shelf tells of the files and has no fault, the words and the files alone decide the
-- answer, but for want of memory, or of nodes where there may be too few; of `replay` also what the
-- monitors make of its steps
abbrev pub IsDueAnswer : {S : Type 0} → (S → Bytes → Held) → (S → ℕ) → Run S → Type 0
IsDueAnswer {S} held faults run =
    (answer : Answer) → IsDue (held run.shelf) run.handed run.words answer
    → IsTold held faults run
    → (given : Answer) × ((given ≡ answer) ⊎ MayStandIn (held run.shelf) run.words given)
    × IsDelivered given run.out run.out_after run.err run.err_after run.status

-- and so the status, if no fault comes of the sinks either
abbrev pub IsDueStatus : {S : Type 0} → (S → Bytes → Held) → (S → ℕ) → Run S → Type 0
IsDueStatus {S} held faults run =
    (answer : Answer) → IsDue (held run.shelf) run.handed run.words answer
    → IsUndisturbed held faults run
    → (run.status ≡ status_of answer) ⊎ (run.status ≡ 8)
    ⊎ ((run.status ≡ 5) × (asked : PlanWords) × SaysPlan run.words asked
    × MayRunOut (held run.shelf) asked)
    ⊎ ((run.status ≡ 5) × (asked : DrillWords) × SaysDrill run.words asked
    × MayDrillRunOut asked)
    ⊎ ((run.status ≡ 5) × (asked : RefuteWords) × SaysRefute run.words asked
    × MayRefuteRunOut (held run.shelf) asked)

-- the shelf's count of faults is as it was unless a file can't be read, the answer can't be written
-- or memory is wanted
abbrev pub IsQuietShelf : {S : Type 0} → (S → ℕ) → Run S → Type 0
IsQuietShelf {S} faults run =
    run.status ≢ 6 → run.status ≢ 7 → run.status ≢ 8
    → faults run.shelf_after ≡ faults run.shelf

-- and those of the sinks unless the answer can't be written
abbrev pub AreQuietSinks : {S : Type 0} → Run S → Type 0
AreQuietSinks {S} run =
    run.status ≢ 7
    → (run.out_after.faults ≡ run.out.faults) × (run.err_after.faults ≡ run.err.faults)
