-- Which answer tells the run that a record has.
use Rattle.std.specs.Prelude.{◌≡◌}
use Rattle.command_base.specs.Answers.{Answer, Refusal, affirmed, denied}
use Rattle.command_base.specs.Following.{most_followed}
use Rattle.command_base.specs.Grounding.{GroundThen}
use Rattle.command_base.specs.InitialStates.{empty_init}
use Rattle.command_base.specs.PddlTexts.{ReadBoth}
use Rattle.command_base.specs.PlanFiles.{IsFaultyPlan}
use Rattle.command_base.specs.Reading.{ReadThen}
use Rattle.command_base.specs.Words.{Bytes, ReplayWords}
use Rattle.explain_command.specs.Explained.{source_in}
use Rattle.explain_command.specs.Lined.{LinedPlan, SpellsLined}
use Rattle.pddl_ast.specs.Trees.{DomainTree, ProblemTree}
use Rattle.pddl_system.specs.Tasks.{task_of}
use Rattle.pddl_system.specs.Values.{task_value}
use Rattle.plan_io.specs.Held.{Held}
use Rattle.trace.specs.RecordedRuns.{IsRecordedRun, PlainRecorded}
use Rattle.trace.specs.Texts.{recorded_text}
use Rattle.replay_command.specs.ReplayCommand.{FirstThen, IsFaultyRecord}
use Rattle.run_replay.specs.Records.{RecordTree, SpellsRecord}
use Rattle.run_replay.specs.Traces.{Capped, Ended, Ending, Stray, Terminal, Unexecutable}
use Rattle.task_core.specs.Tasks.{action_names, fluent_names, initial_states}
use Rattle.task_core.specs.Vectors.{Vector}
use Rattle.task_core.specs.declared.tasks.Task.{Task}
use Rattle.task_core.specs.Initials.{HasTooManyInitial}

-- the text is shown whatever the end of the trace: as a yes where `replay` shows the run, and as a no where
-- it refuses it
abbrev pub told_answer : Bytes → Ending → Answer
told_answer text Terminal = affirmed text
told_answer text Ended = affirmed text
told_answer text Capped = affirmed text
told_answer text (Stray step word outcomes) = denied text
told_answer text (Unexecutable step) = denied text

-- the answer tells the run that the record has from this state, of a plan of a task
pub record IsRunTold (task : Task) (lined : LinedPlan) (recorded : RecordTree) (first : Vector)
    (answer : Answer) : Type 0 where
  pub run : PlainRecorded
  pub is : IsRecordedRun task lined.placed.plan first recorded.words run
  pub shown : answer ≡ told_answer
      (recorded_text (source_in task lined.placed.plan lined.lines) recorded.first first run) is.ending

-- what follows once the plan is read: the record is read, its first number names an initial state, and the
-- run from there is told
abbrev pub RecordThen : (Bytes → Held) → (Bytes → Type 0) → Bytes → Refusal → Task → LinedPlan
    → Answer → Type 0
RecordThen held failed name empty task lined =
    ReadThen held failed name SpellsRecord IsFaultyRecord (λ recorded.
    FirstThen (HasTooManyInitial task most_followed) empty (initial_states task) name recorded
    (IsRunTold task lined recorded))

-- what follows for a task: the plan is read, and then the record
abbrev pub TaskThen : (Bytes → Held) → (Bytes → Type 0) → ReplayWords → Refusal → Task → Answer
    → Type 0
TaskThen held failed asked empty task =
    ReadThen held failed asked.plan (SpellsLined (fluent_names task) (action_names task))
    (IsFaultyPlan (fluent_names task) (action_names task))
    (RecordThen held failed asked.recorded empty task)

-- the same for the task of a domain and a problem
pub record IsToldOf (held : Bytes → Held) (failed : Bytes → Type 0) (asked : ReplayWords)
    (domain : DomainTree) (problem : ProblemTree) (answer : Answer) : Type 0 where
  pub task : Task
  pub grounded : task_value task ≡ task_of domain problem
  pub then : TaskThen held failed asked (empty_init asked.problem problem) task answer

-- what follows once both are read
abbrev pub IsTold : (Bytes → Held) → (Bytes → Type 0) → ReplayWords → DomainTree → ProblemTree
    → Answer → Type 0
IsTold held failed asked domain problem =
    GroundThen domain problem (IsToldOf held failed asked domain problem)

-- the answer
abbrev pub IsToldAnswer : (Bytes → Held) → (Bytes → Type 0) → ReplayWords → Answer → Type 0
IsToldAnswer held failed asked =
    ReadBoth held failed asked.domain asked.problem (IsTold held failed asked)
