-- Which files `refute` fetches.
use Rattle.command_base.specs.Grounding.{for_tables}
use Rattle.command_base.specs.Words.{Bytes, CheckWords, RefuteWords}
use Rattle.plan_io.specs.Held.{Held}
use Rattle.command_base.specs.Answers.{Answer}
use Rattle.command_base.specs.Fetching.{FetchDomain, FetchPlan}

-- `refute` asks for its certificate where `check` of a table would ask for its plan
abbrev pub as_check : RefuteWords → CheckWords
as_check asked = record {
  kind = for_tables;
  domain = asked.domain;
  problem = asked.problem;
  plan = asked.certificate;
}

-- the fetches of the command with this answer: of its files in their order, each once, up to the one
-- that decides the answer. `held`, `failed` and `fetched`
-- are what the shelf tells
abbrev pub FetchesToRefute : {S : Type 0} → (Bytes → Held) → (Bytes → Type 0)
    → (S → Bytes → S → Type 0) → RefuteWords → Answer → S → S → Type 0
FetchesToRefute {S} held failed fetched asked answer =
    FetchDomain held failed fetched asked.domain answer
    (FetchPlan held failed fetched (as_check asked) answer)
