-- What the program can be asked for.
use Rattle.std.specs.Prelude.{Option}
use Rattle.command_base.specs.Words.{PlanWords, ReplayWords}
use Rattle.control_command.specs.Words.{ControlRequest}
use Rattle.draw_command.specs.Words.{PictureWords}
use Rattle.explain_command.specs.Words.{ExplainWords}
use Rattle.lint_command.specs.Words.{MistakesWords}
use Rattle.pulgazer_top.specs.Mistakes.{Mistake}
use Rattle.pulgazer_top.specs.declared.table.Subcommand.{Subcommand}

-- a controller; a verdict on a plan, alone or explained; why there is no plan; likely mistakes; a recorded
-- run; a picture
pub data Asked : Type 0 where
  control : ControlRequest → Asked
  judge : ExplainWords → Asked
  why : PlanWords → Asked
  lint : MistakesWords → Asked
  trace : ReplayWords → Asked
  draw : PictureWords → Asked

-- what a command line says: what is asked for; or that help is wanted, for a subcommand or for all; or
-- what is wrong with it, and with the words of which subcommand
pub data Request : Type 0 where
  asks : Asked → Request
  helps : Option Subcommand → Request
  fails : Option Subcommand → Mistake → Request
