-- What follows once a file is read, or is refused.
use Rattle.std.proofs.Common.{◌≡◌, ◌⊎◌, List, inl, inr, None}
use Rattle.command_base.specs.Answers.{Answer, Refusal, no_memory, refused}
use Rattle.command_base.specs.Following.{most_followed}
use Rattle.command_base.specs.InitialStates.{empty_init}
use Rattle.command_base.specs.PlanFiles.{IsFaultyPlan, SpellsPlaced}
use Rattle.command_base.specs.Reading.{Holds, IsRefusedFile}
use Rattle.command_base.specs.Words.{Bytes, ReplayWords}
use Rattle.command_base.proofs.Later.{file_refused, next_answer, read_over}
use Rattle.command_base.proofs.WhatFollows.{ground_map, then_map}
use Rattle.explain_command.specs.Lined.{LinedPlan, SpellsLined}
use Rattle.pddl_ast.specs.Trees.{DomainTree, ProblemTree}
use Rattle.pddl_system.specs.Sizes.{first_passed}
use Rattle.pddl_system.specs.Tasks.{task_of}
use Rattle.pddl_system.specs.Values.{task_value}
use Rattle.plan_io.specs.Held.{Held}
use Rattle.replay_command.specs.ReplayCommand.{FirstThen, IsFaultyRecord}
use Rattle.run_replay.specs.Records.{RecordTree, SpellsRecord}
use Rattle.task_core.specs.Names.{Name}
use Rattle.task_core.specs.Tasks.{action_names, fluent_names, initial_states}
use Rattle.task_core.specs.declared.tasks.Task.{Task}
use Rattle.trace_command.specs.Told.{IsRunTold, IsTold, IsToldOf, RecordThen, TaskThen}
use Rattle.task_core.specs.Initials.{HasTooManyInitial}

-- what follows once a record of this name is read
abbrev RunThen : Refusal → Bytes → Task → LinedPlan → RecordTree → Answer → Type 0
RunThen empty name task lined recorded =
    FirstThen (HasTooManyInitial task most_followed) empty (initial_states task) name recorded (IsRunTold task lined recorded)

pub record_refused : (held : Bytes → Held) (failed : Bytes → Type 0) (name : Bytes) (empty : Refusal) (task : Task) (lined : LinedPlan) (r : Refusal)
    → (r ≡ no_memory) ⊎ IsRefusedFile held failed IsFaultyRecord name r
    → (refused r ≡ refused no_memory) ⊎ RecordThen held failed name empty task lined (refused r)
record_refused held failed name empty task lined r why = file_refused held failed name SpellsRecord IsFaultyRecord (RunThen empty name task lined) r why

pub record_answer : (held : Bytes → Held) (failed : Bytes → Type 0) (name : Bytes) (empty : Refusal) (task : Task) (lined : LinedPlan) (recorded : RecordTree) (a : Answer)
    → Holds held SpellsRecord name recorded → (a ≡ refused no_memory) ⊎ RunThen empty name task lined recorded a
    → (a ≡ refused no_memory) ⊎ RecordThen held failed name empty task lined a
record_answer held failed name empty task lined recorded a holds then = next_answer held failed name SpellsRecord IsFaultyRecord (RunThen empty name task lined) recorded a holds then

pub plan_refused : (held : Bytes → Held) (failed : Bytes → Type 0) (asked : ReplayWords) (empty : Refusal) (task : Task) (r : Refusal)
    → (r ≡ no_memory) ⊎ IsRefusedFile held failed (IsFaultyPlan (fluent_names task) (action_names task)) asked.plan r
    → (refused r ≡ refused no_memory) ⊎ TaskThen held failed asked empty task (refused r)
plan_refused held failed asked empty task r why =
    file_refused held failed asked.plan (SpellsLined (fluent_names task) (action_names task)) (IsFaultyPlan (fluent_names task) (action_names task)) (RecordThen held failed asked.recorded empty task) r why

pub plan_answer : (held : Bytes → Held) (failed : Bytes → Type 0) (asked : ReplayWords) (empty : Refusal) (task : Task) (lined : LinedPlan) (a : Answer)
    → Holds held (SpellsLined (fluent_names task) (action_names task)) asked.plan lined → (a ≡ refused no_memory) ⊎ RecordThen held failed asked.recorded empty task lined a
    → (a ≡ refused no_memory) ⊎ TaskThen held failed asked empty task a
plan_answer held failed asked empty task lined a holds then =
    next_answer held failed asked.plan (SpellsLined (fluent_names task) (action_names task)) (IsFaultyPlan (fluent_names task) (action_names task)) (RecordThen held failed asked.recorded empty task) lined a holds then

pub task_answer : (held : Bytes → Held) (failed : Bytes → Type 0) (asked : ReplayWords) (d : DomainTree) (p : ProblemTree) (task : Task) (a : Answer)
    → task_value task ≡ task_of d p → first_passed d p ≡ None → (a ≡ refused no_memory) ⊎ TaskThen held failed asked (empty_init asked.problem p) task a
    → (a ≡ refused no_memory) ⊎ IsTold held failed asked d p a
task_answer held failed asked d p task a is within (inl memory) = inl memory
task_answer held failed asked d p task a is within (inr then) = inr (inr (within, record { task = task; grounded = is; then = then }))

-- what is said from a later state of the shelf holds from an earlier one
record_over : (held held' : Bytes → Held) (failed failed' : Bytes → Type 0) (name : Bytes) (empty : Refusal) (task : Task) (lined : LinedPlan) (a : Answer)
    → ((file : Bytes) → held' file ≡ held file) → (failed' name → failed name)
    → RecordThen held' failed' name empty task lined a → RecordThen held failed name empty task lined a
record_over held held' failed failed' name empty task lined a same over = read_over held held' failed failed' name SpellsRecord IsFaultyRecord (RunThen empty name task lined) a same over

pub record_later : (held held' : Bytes → Held) (failed failed' : Bytes → Type 0) (name : Bytes) (empty : Refusal) (task : Task) (lined : LinedPlan) (a : Answer)
    → ((file : Bytes) → held' file ≡ held file) → (failed' name → failed name)
    → (a ≡ refused no_memory) ⊎ RecordThen held' failed' name empty task lined a → (a ≡ refused no_memory) ⊎ RecordThen held failed name empty task lined a
record_later held held' failed failed' name empty task lined a same over (inl memory) = inl memory
record_later held held' failed failed' name empty task lined a same over (inr is) = inr (record_over held held' failed failed' name empty task lined a same over is)

files_over : (held held' : Bytes → Held) (failed failed' : Bytes → Type 0) (asked : ReplayWords) (empty : Refusal) (task : Task) (a : Answer)
    → ((file : Bytes) → held' file ≡ held file) → ((file : Bytes) → failed' file → failed file)
    → TaskThen held' failed' asked empty task a → TaskThen held failed asked empty task a
files_over held held' failed failed' asked empty task a same over then =
    let Spells = SpellsLined (fluent_names task) (action_names task) in
    let Wrong = IsFaultyPlan (fluent_names task) (action_names task) in
    then_map held failed asked.plan Spells Wrong (RecordThen held' failed' asked.recorded empty task) (RecordThen held failed asked.recorded empty task) a
    (λ lined. record_over held held' failed failed' asked.recorded empty task lined a same (over asked.recorded))
    (read_over held held' failed failed' asked.plan Spells Wrong (RecordThen held' failed' asked.recorded empty task) a same (over asked.plan) then)

pub told_later : (held held' : Bytes → Held) (failed failed' : Bytes → Type 0) (asked : ReplayWords) (d : DomainTree) (p : ProblemTree) (a : Answer)
    → ((file : Bytes) → held' file ≡ held file) → ((file : Bytes) → failed' file → failed file)
    → (a ≡ refused no_memory) ⊎ IsTold held' failed' asked d p a → (a ≡ refused no_memory) ⊎ IsTold held failed asked d p a
told_later held held' failed failed' asked d p a same over (inl memory) = inl memory
told_later held held' failed failed' asked d p a same over (inr is) =
    inr (ground_map d p (IsToldOf held' failed' asked d p) (IsToldOf held failed asked d p) a
    (λ told. record {
      task = told.task;
      grounded = told.grounded;
      then = files_over held held' failed failed' asked (empty_init asked.problem p) told.task a same over told.then;
    }) is)

-- the file of a plan with the lines of its rules is one of the plan
pub lined_holds : (held : Bytes → Held) (fluents actions : List Name) (name : Bytes) (lined : LinedPlan) → Holds held (SpellsLined fluents actions) name lined
    → Holds held (SpellsPlaced fluents actions) name lined.placed
lined_holds held fluents actions name lined h = record { bytes = h.bytes; file = h.file; spelled = h.spelled.spelled }
