-- Private: what is known of the verdict on a certificate for a task, and of the answer after both files
-- of a problem were read.
use Rattle.std.specs.Prelude.{◌≡◌, ◌≢◌, ◌⊎◌, ⊤, [], Option, Some, None, Result, Ok, Err}
use Rattle.dd_sets.specs.declared.errors.SetErr.{SetErr}
use Rattle.pddl_ast.specs.Trees.{DomainTree, ProblemTree}
use Rattle.plan_certs.specs.Certificates.{PlainCertificate}
use Rattle.plan_io.specs.Held.{Held}
use Rattle.cert_check.specs.Judgements.{IsVerdict}
use Rattle.cert_check.specs.declared.verdict.Judged.{Judged}
use Rattle.task_core.specs.Tasks.{initial_states, system_of}
use Rattle.task_core.specs.declared.tasks.Task.{Task}
use Rattle.command_base.specs.Answers.{Answer, full, no_memory, refused}
use Rattle.refute_command.specs.RefuteCommand.{IsRefuted, MayJudgeTooFew}
use Rattle.command_base.specs.Words.{Bytes, RefuteWords}

-- there is no initial state; or there is one, and this is the verdict on the certificate
abbrev pub IsJudgedFrom : Task → PlainCertificate → Result (Option Judged) SetErr → Type 0
IsJudgedFrom task certificate (Ok None) = initial_states task ≡ []
IsJudgedFrom task certificate (Ok (Some judged)) =
    (initial_states task ≢ []) × IsVerdict (system_of task) certificate judged
IsJudgedFrom task certificate (Err e) = ⊤

-- the answer after both files were read
abbrev pub IsRefutedOrFull : (Bytes → Held) → (Bytes → Type 0) → RefuteWords → DomainTree
    → ProblemTree → Answer → Type 0
IsRefutedOrFull held failed asked domain problem answer =
    (answer ≡ refused no_memory)
    ⊎ (MayJudgeTooFew held asked domain problem
    × (answer ≡ refused (full asked.options.nodes)))
    ⊎ IsRefuted held failed asked domain problem answer
