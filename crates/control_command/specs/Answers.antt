-- The answer to what is asked for.
use Rattle.plan_io.specs.Held.{Held}
use Rattle.command_base.specs.Answers.{Answer}
use Rattle.command_base.specs.Words.{Bytes}
use Rattle.control_command.specs.Controllers.{IsControlAnswer}
use Rattle.control_command.specs.FairControllers.{IsFairAnswer}
use Rattle.control_command.specs.Words.{ControlRequest, to_plan, to_try}

abbrev pub IsRequestAnswer : (Bytes → Held) → (Bytes → Type 0) → ControlRequest → Answer → Type 0
IsRequestAnswer held failed (to_plan asked) = IsControlAnswer held failed asked
IsRequestAnswer held failed (to_try asked) = IsFairAnswer held failed asked
