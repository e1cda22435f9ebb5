-- Which files a command fetches. `held`, `failed` and `fetched` are what the shelf tells.
use Rattle.plan_io.specs.Fetches.{FetchesNothing}
use Rattle.plan_io.specs.Held.{Held}
use Rattle.check_command.specs.CheckCommand.{FetchesToCheck}
use Rattle.command_base.specs.Answers.{Answer}
use Rattle.command_base.specs.Words.{Bytes, Command, check, drill, ground, plan, refute, replay}
use Rattle.ground_command.specs.GroundCommand.{FetchesToGround}
use Rattle.plan_command.specs.PlanCommand.{FetchesToPlan}
use Rattle.refute_command.specs.RefuteFetches.{FetchesToRefute}
use Rattle.replay_command.specs.RunFetches.{FetchesToReplay}

-- the fetches of a command with this answer: of its files in their order, each once, up to the one
-- that decides the answer
abbrev pub FetchesFiles : {S : Type 0} → (Bytes → Held) → (Bytes → Type 0)
    → (S → Bytes → S → Type 0) → Command → Answer → S → S → Type 0
FetchesFiles {S} held failed fetched (plan asked) = FetchesToPlan held failed fetched asked
FetchesFiles {S} held failed fetched (ground asked) = FetchesToGround held failed fetched asked
FetchesFiles {S} held failed fetched (check asked) = FetchesToCheck held failed fetched asked
FetchesFiles {S} held failed fetched (replay asked) = FetchesToReplay held failed fetched asked
FetchesFiles {S} held failed fetched (drill asked) = λ answer. FetchesNothing
FetchesFiles {S} held failed fetched (refute asked) = FetchesToRefute held failed fetched asked
