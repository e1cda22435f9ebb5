-- What the words and the files alone decide. `held` is what the shelf tells of each name.
use Rattle.std.specs.Prelude.{◌≡◌, ◌≢◌, ℕ, ◌⊎◌, List, Contains}
use Rattle.plan_io.specs.Held.{Held, Untold}
use Rattle.command_base.specs.Answers.{Answer, refused, full, no_memory}
use Rattle.mbp_top.specs.Causes.{HasCause}
use Rattle.drill_command.specs.DrillCommand.{MayDrillRunOut}
use Rattle.plan_command.specs.PlanCommand.{MayRunOut}
use Rattle.refute_command.specs.RefuteCommand.{MayRefuteRunOut}
use Rattle.replay_command.specs.ReplayCommand.{Tallies}
use Rattle.command_base.specs.Words.{Bytes, Command, DrillWords, PlanWords, Says, SaysDrill}
use Rattle.command_base.specs.Words.{SaysPlan, RefuteWords, SaysRefute, default_nodes, files_of}

-- of each file that the words name, the shelf tells its bytes, or that there is none
abbrev pub AreFilesTold : (Bytes → Held) → List Bytes → Type 0
AreFilesTold held words =
    (command : Command) (file : Bytes) → Says words command → Contains (files_of command) file
    → held file ≢ Untold

-- the words and the files alone call for this answer, and for `replay` what the monitors show of
-- the steps: no fault of the shelf is a part of its cause, and it is neither want of memory nor
-- that the table of nodes is full
pub record IsDue (held : Bytes → Held) (tallies : Tallies) (words : List Bytes)
    (answer : Answer) : Type 0 where
  pub cause : HasCause held (λ file. ⊥) tallies words answer
  pub not_memory : answer ≢ refused no_memory
  pub not_full : (nodes : ℕ) → answer ≢ refused (full nodes)

-- an answer that may be given in place of one that is due: want of memory; or that the table of
-- nodes is full, where the words ask for a plan of a problem, or for plans of one that is made, or for
-- a verdict on a certificate, for which the limit may be too small
abbrev pub MayStandIn : (Bytes → Held) → List Bytes → Answer → Type 0
MayStandIn held words given =
    (given ≡ refused no_memory)
    ⊎ ((asked : PlanWords) × SaysPlan words asked × MayRunOut held asked
    × (given ≡ refused (full asked.options.nodes)))
    ⊎ ((asked : DrillWords) × SaysDrill words asked × MayDrillRunOut asked
    × (given ≡ refused (full default_nodes)))
    ⊎ ((asked : RefuteWords) × SaysRefute words asked × MayRefuteRunOut held asked
    × (given ≡ refused (full asked.options.nodes)))
