-- The verdict on a certificate, or that there is no initial state.
use Rattle.std.proofs.Common.{◌≡◌, ◌≢◌, [], Option, Some, None, Result, Ok, Err}
use Rattle.std.specs.Prelude.{IfNone, IfOk, IfSome}
use Rattle.dd_sets.specs.declared.errors.SetErr.{SetErr}
use Rattle.plan_certs.specs.Certificates.{PlainCertificate}
use Rattle.cert_check.specs.Judgements.{IsVerdict}
use Rattle.cert_check.specs.declared.verdict.Judged.{Judged}
use Rattle.task_core.specs.Tasks.{initial_states, system_of}
use Rattle.task_core.specs.declared.tasks.Task.{Task}
use Rattle.refute_command.specs.FoundVerdicts.{IsJudgedFrom}

pub judged_from : (t : Task) (certificate : PlainCertificate) (r : Result (Option Judged) SetErr) → IfOk r (λ found. IfSome found (IsVerdict (system_of t) certificate))
    → IfOk r (λ found. IfSome found (λ _. initial_states t ≢ [])) → IfOk r (λ found. IfNone found (initial_states t ≡ [])) → IsJudgedFrom t certificate r
judged_from t certificate (Err e) found some none = tt
judged_from t certificate (Ok None) found some none = none
judged_from t certificate (Ok (Some judged)) found some none = (some, found)
