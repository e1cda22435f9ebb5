-- What may be asked for.
use Rattle.std.specs.Prelude.{◌≡◌, true, ⊤}
use Rattle.command_base.specs.Words.{IsNodeLimit, MayBeCertified, with_contexts}
use Rattle.control_command.specs.Words.{ControlRequest, to_plan, to_try}
use Rattle.pulgazer_top.specs.Asked.{Asked, control, draw, judge, lint, trace, why}
use Rattle.pulgazer_top.specs.Values.{asked_of}
use Rattle.pulgazer_top.specs.declared.requests.Request.{Request}
use Rattle.pulgazer_top.specs.declared.requests.Request.TheVariants.{Asks, Fails, Helps}

-- what is asked for has a number of nodes that may be asked for; a certificate is wanted of a class alone;
-- and actions may be tried again in a plan with contexts alone
abbrev pub IsControlAllowed : ControlRequest → Type 0
IsControlAllowed (to_plan asked) =
    IsNodeLimit asked.plan.options.nodes × MayBeCertified asked.plan.kind asked.plan.certified
IsControlAllowed (to_try asked) = IsNodeLimit asked.options.nodes

abbrev pub IsAllowed : Asked → Type 0
IsAllowed (control asked) = IsControlAllowed asked
IsAllowed (judge asked) = asked.fair ≡ true → asked.check.kind ≡ with_contexts
IsAllowed (why asked) = IsNodeLimit asked.options.nodes
IsAllowed (lint asked) = ⊤
IsAllowed (trace asked) = ⊤
IsAllowed (draw asked) = ⊤

-- Private: a command line that was read asks for what may be asked for
abbrev pub IsRequestAllowed : Request → Type 0
IsRequestAllowed (Asks asked) = IsAllowed (asked_of asked)
IsRequestAllowed (Helps sub) = ⊤
IsRequestAllowed (Fails sub found) = ⊤
