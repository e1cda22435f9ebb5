-- What was fetched for an answer was fetched for want of memory in its place.
use Rattle.std.proofs.Common.{[], ◌∷◌}
use Rattle.plan_io.specs.Fetches.{Fetches}
use Rattle.plan_io.specs.Held.{Held}
use Rattle.command_base.specs.Answers.{Answer, no_memory, refused}
use Rattle.mbp_top.specs.Fetching.{FetchesFiles}
use Rattle.command_base.specs.Words.{Bytes, Command, plan, ground, check, replay, drill, refute}
use Rattle.refute_command.specs.RefuteFetches.{as_check}
use Rattle.command_base.proofs.Fetched.{check_for_memory, domain_for_memory}
use Rattle.command_base.proofs.PlanFetched.{plan_for_memory}

-- want of memory may come in place of an answer
pub fetched_for_memory : {S : Type 0} (held : Bytes → Held) (failed : Bytes → Type 0) (fetched : S → Bytes → S → Type 0) (command : Command) (a : Answer) (before after : S)
    → FetchesFiles held failed fetched command a before after → FetchesFiles held failed fetched command (refused no_memory) before after
fetched_for_memory held failed fetched (plan asked) a before after = domain_for_memory held failed fetched asked.domain (Fetches fetched (asked.problem ∷ [])) (Fetches fetched (asked.problem ∷ [])) a before after (λ x rest. rest)
fetched_for_memory held failed fetched (ground asked) a before after = domain_for_memory held failed fetched asked.domain (Fetches fetched (asked.problem ∷ [])) (Fetches fetched (asked.problem ∷ [])) a before after (λ x rest. rest)
fetched_for_memory held failed fetched (check asked) a before after = check_for_memory held failed fetched asked a before after
fetched_for_memory held failed fetched (replay asked) a before after = plan_for_memory held failed fetched asked.domain asked.problem asked.plan (Fetches fetched (asked.recorded ∷ [])) a before after
fetched_for_memory held failed fetched (drill asked) a before after = λ same. same
fetched_for_memory held failed fetched (refute asked) a before after = check_for_memory held failed fetched (as_check asked) a before after
