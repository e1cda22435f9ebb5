-- The cause of each answer: the words say no command; or they say one, and the answer is that
-- command's, or want of memory, which has no further cause. `held` and `failed` are as in Reading,
-- and `tallies` is as in ReplayCommand.
use Rattle.std.specs.Prelude.{List}
use Rattle.plan_io.specs.Held.{Held}
use Rattle.command_base.specs.Answers.{Answer}
use Rattle.check_command.specs.CheckCommand.{IsCheckAnswer}
use Rattle.drill_command.specs.DrillCommand.{IsDrillAnswer}
use Rattle.ground_command.specs.GroundCommand.{IsGroundAnswer}
use Rattle.plan_command.specs.PlanCommand.{IsPlanAnswer}
use Rattle.refute_command.specs.RefuteCommand.{IsRefuteAnswer}
use Rattle.replay_command.specs.ReplayCommand.{IsReplayAnswer, Tallies}
use Rattle.command_base.specs.Frame.{HasCauseOf}
use Rattle.command_base.specs.Words.{Bytes, Command, plan, ground, check, replay, drill, Says}
use Rattle.command_base.specs.Words.{refute}

-- the answer of a command
abbrev pub IsAnswerOf : (Bytes → Held) → (Bytes → Type 0) → Tallies → Command → Answer → Type 0
IsAnswerOf held failed tallies (plan asked) = IsPlanAnswer held failed asked
IsAnswerOf held failed tallies (ground asked) = IsGroundAnswer held failed asked
IsAnswerOf held failed tallies (check asked) = IsCheckAnswer held failed asked
IsAnswerOf held failed tallies (replay asked) = IsReplayAnswer held failed tallies asked
IsAnswerOf held failed tallies (drill asked) = IsDrillAnswer asked
IsAnswerOf held failed tallies (refute asked) = IsRefuteAnswer held failed asked

abbrev pub HasCause : (Bytes → Held) → (Bytes → Type 0) → Tallies → List Bytes → Answer → Type 0
HasCause held failed tallies words answer =
    HasCauseOf Says (IsAnswerOf held failed tallies) words answer
