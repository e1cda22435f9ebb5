-- The run of a plan of a task is that for the domain and the problem that the task comes from.
use Rattle.std.proofs.Common.{◌≡◌, ◌<◌, ◌⊎◌, List, arith, inl, inr, length, subst, ap, None, Some}
use Rattle.pddl_ast.specs.Trees.{DomainTree, ProblemTree}
use Rattle.pddl_system.specs.Sizes.{Limit, first_passed}
use Rattle.pddl_system.specs.Systems.{action_names, fluent_names, system}
use Rattle.pddl_system.specs.Tasks.{task_of}
use Rattle.pddl_system.specs.Values.{task_value}
use Rattle.plan_io.specs.Held.{Held}
use Rattle.plan_rules.specs.Rules.{PlainPlan}
use Rattle.run_replay.specs.Records.{RecordTree, SpellsRecord}
use Rattle.task_core.specs.Names.{Name}
use Rattle.task_core.specs.Systems.{System}
use Rattle.task_core.specs.Tasks.{action_names as names_of_actions, fluent_names as names_of_fluents, system_of}
use Rattle.task_core.specs.Vectors.{Vector}
use Rattle.task_core.specs.declared.tasks.Task.{Task}
use Rattle.command_base.specs.Answers.{Answer, Refusal, refused, no_memory, over_limit}
use Rattle.command_base.specs.Following.{HasTooManyStates, most_followed}
use Rattle.command_base.specs.Grounding.{GroundThen, limit_name}
use Rattle.command_base.specs.InitialStates.{empty_init}
use Rattle.command_base.specs.PlanFiles.{IsFaultyPlan, PlacedPlan, SpellsPlaced}
use Rattle.command_base.specs.Reading.{Holds, IsRefusedFile}
use Rattle.replay_command.specs.ReplayCommand.{FirstThen, IsFaultyRecord, IsFirstState, IsReplay, IsReplayed, NumberThen, RecordThen, ReplayThen, Tallies, trace_under}
use Rattle.command_base.specs.Words.{Bytes, ReplayWords}
use Rattle.command_base.proofs.TooMany.{too_many, too_many_back}
use Rattle.command_base.proofs.Initials.{initial_map}
use Rattle.command_base.proofs.Later.{file_refused, next_answer, read_over}
use Rattle.command_base.proofs.TaskNames.{same_actions, same_fluents}
use Rattle.command_base.proofs.WhatFollows.{ground_map, then_map}
use Rattle.task_core.specs.Initials.{HasTooManyInitial}

-- what is said of the record's file from a later state of the shelf holds from an earlier one
record_over : (held held' : Bytes → Held) (failed failed' : Bytes → Type 0) (tallies : Tallies) (name : Bytes) (actions : List Name) (TooMany : Type 0) (empty : Refusal) (sys : System) (plan : PlainPlan) (a : Answer)
    → ((file : Bytes) → held' file ≡ held file) → (failed' name → failed name)
    → RecordThen held' failed' tallies name actions TooMany empty sys plan a → RecordThen held failed tallies name actions TooMany empty sys plan a
record_over held held' failed failed' tallies name actions TooMany empty sys plan a same over =
    read_over held held' failed failed' name SpellsRecord IsFaultyRecord
    (λ recorded. FirstThen TooMany empty sys.initial name recorded (λ first. IsReplayed tallies sys actions (trace_under sys plan first recorded.words))) a same over

pub record_later : (held held' : Bytes → Held) (failed failed' : Bytes → Type 0) (tallies : Tallies) (name : Bytes) (actions : List Name) (TooMany : Type 0) (empty : Refusal) (sys : System) (plan : PlainPlan) (a : Answer)
    → ((file : Bytes) → held' file ≡ held file) → (failed' name → failed name)
    → (a ≡ refused no_memory) ⊎ RecordThen held' failed' tallies name actions TooMany empty sys plan a → (a ≡ refused no_memory) ⊎ RecordThen held failed tallies name actions TooMany empty sys plan a
record_later held held' failed failed' tallies name actions TooMany empty sys plan a same over (inl memory) = inl memory
record_later held held' failed failed' tallies name actions TooMany empty sys plan a same over (inr is) =
    inr (record_over held held' failed failed' tallies name actions TooMany empty sys plan a same over is)

-- and so of both files
files_over : (held held' : Bytes → Held) (failed failed' : Bytes → Type 0) (tallies : Tallies) (asked : ReplayWords) (fluents actions : List Name) (TooMany : Type 0) (empty : Refusal) (sys : System) (a : Answer)
    → ((file : Bytes) → held' file ≡ held file) → ((file : Bytes) → failed' file → failed file)
    → ReplayThen held' failed' tallies asked fluents actions TooMany empty sys a → ReplayThen held failed tallies asked fluents actions TooMany empty sys a
files_over held held' failed failed' tallies asked fluents actions TooMany empty sys a same over then =
    then_map held failed asked.plan (SpellsPlaced fluents actions) (IsFaultyPlan fluents actions)
    (λ placed. RecordThen held' failed' tallies asked.recorded actions TooMany empty sys placed.plan)
    (λ placed. RecordThen held failed tallies asked.recorded actions TooMany empty sys placed.plan) a
    (λ placed. record_over held held' failed failed' tallies asked.recorded actions TooMany empty sys placed.plan a same (over asked.recorded))
    (read_over held held' failed failed' asked.plan (SpellsPlaced fluents actions) (IsFaultyPlan fluents actions)
    (λ placed. RecordThen held' failed' tallies asked.recorded actions TooMany empty sys placed.plan) a same (over asked.plan) then)

pub replay_later : (held held' : Bytes → Held) (failed failed' : Bytes → Type 0) (tallies : Tallies) (asked : ReplayWords) (d : DomainTree) (p : ProblemTree) (a : Answer)
    → ((file : Bytes) → held' file ≡ held file) → ((file : Bytes) → failed' file → failed file)
    → (a ≡ refused no_memory) ⊎ IsReplay held' failed' tallies asked d p a → (a ≡ refused no_memory) ⊎ IsReplay held failed tallies asked d p a
replay_later held held' failed failed' tallies asked d p a same over (inl memory) = inl memory
replay_later held held' failed failed' tallies asked d p a same over (inr is) =
    inr (ground_map d p
    (ReplayThen held' failed' tallies asked (fluent_names d p) (action_names d p) (HasTooManyStates d p) (empty_init asked.problem p) (system d p))
    (ReplayThen held failed tallies asked (fluent_names d p) (action_names d p) (HasTooManyStates d p) (empty_init asked.problem p) (system d p)) a
    (files_over held held' failed failed' tallies asked (fluent_names d p) (action_names d p) (HasTooManyStates d p) (empty_init asked.problem p) (system d p) a same over) is)

-- a limit of grounding is passed
pub ground_refused : (d : DomainTree) (p : ProblemTree) (Then : Answer → Type 0) (r : Refusal)
    → (r ≡ no_memory) ⊎ ((limit : Limit) × (first_passed d p ≡ Some limit) × (r ≡ over_limit (limit_name limit)))
    → (refused r ≡ refused no_memory) ⊎ GroundThen d p Then (refused r)
ground_refused d p Then r (inl memory) = inl (ap refused memory)
ground_refused d p Then r (inr (limit, passed, is)) = inr (inl (limit, passed, ap refused is))

-- there are too many initial states of the task exactly where there are of the problem
first_map : (X Y : Type 0) (empty : Refusal) (states : List Vector) (name : Bytes) (recorded : RecordTree) (Then : Vector → Answer → Type 0) (a : Answer)
    → (X → Y) → (Y → X) → FirstThen X empty states name recorded Then a → FirstThen Y empty states name recorded Then a
first_map X Y empty states name recorded Then a to from (inl (many, is)) = inl (to many, is)
first_map X Y empty states name recorded Then a to from (inr (few, then)) = inr (λ many. few (from many), then)

record_map : (X Y : Type 0) (held : Bytes → Held) (failed : Bytes → Type 0) (tallies : Tallies) (name : Bytes) (actions : List Name) (empty : Refusal) (sys : System) (plan : PlainPlan) (a : Answer)
    → (X → Y) → (Y → X) → RecordThen held failed tallies name actions X empty sys plan a → RecordThen held failed tallies name actions Y empty sys plan a
record_map X Y held failed tallies name actions empty sys plan a to from =
    then_map held failed name SpellsRecord IsFaultyRecord
    (λ recorded. FirstThen X empty sys.initial name recorded (λ first. IsReplayed tallies sys actions (trace_under sys plan first recorded.words)))
    (λ recorded. FirstThen Y empty sys.initial name recorded (λ first. IsReplayed tallies sys actions (trace_under sys plan first recorded.words))) a
    (λ recorded. first_map X Y empty sys.initial name recorded (λ first. IsReplayed tallies sys actions (trace_under sys plan first recorded.words)) a to from)

replay_map : (X Y : Type 0) (held : Bytes → Held) (failed : Bytes → Type 0) (tallies : Tallies) (asked : ReplayWords) (fluents actions : List Name) (empty : Refusal) (sys : System) (a : Answer)
    → (X → Y) → (Y → X) → ReplayThen held failed tallies asked fluents actions X empty sys a → ReplayThen held failed tallies asked fluents actions Y empty sys a
replay_map X Y held failed tallies asked fluents actions empty sys a to from =
    then_map held failed asked.plan (SpellsPlaced fluents actions) (IsFaultyPlan fluents actions)
    (λ placed. RecordThen held failed tallies asked.recorded actions X empty sys placed.plan)
    (λ placed. RecordThen held failed tallies asked.recorded actions Y empty sys placed.plan) a
    (λ placed. record_map X Y held failed tallies asked.recorded actions empty sys placed.plan a to from)

-- the answer for a task
pub replay_answer : (held : Bytes → Held) (failed : Bytes → Type 0) (tallies : Tallies) (asked : ReplayWords) (d : DomainTree) (p : ProblemTree) (t : Task) (a : Answer)
    → task_value t ≡ task_of d p → system_of t ≡ system d p → first_passed d p ≡ None
    → (a ≡ refused no_memory) ⊎ ReplayThen held failed tallies asked (names_of_fluents t) (names_of_actions t) (HasTooManyInitial t most_followed) (empty_init asked.problem p) (system_of t) a
    → (a ≡ refused no_memory) ⊎ IsReplay held failed tallies asked d p a
replay_answer held failed tallies asked d p t a is system_is within (inl memory) = inl memory
replay_answer held failed tallies asked d p t a is system_is within (inr then) =
    let many = replay_map (HasTooManyInitial t most_followed) (HasTooManyStates d p) held failed tallies asked (names_of_fluents t) (names_of_actions t) (empty_init asked.problem p) (system_of t) a
    (too_many d p t is) (too_many_back d p t is) then in
    let named = subst (λ (ns : List Name). ReplayThen held failed tallies asked ns (names_of_actions t) (HasTooManyStates d p) (empty_init asked.problem p) (system_of t) a) (same_fluents d p t is) many in
    let acts = subst (λ (ns : List Name). ReplayThen held failed tallies asked (fluent_names d p) ns (HasTooManyStates d p) (empty_init asked.problem p) (system_of t) a) (same_actions d p t is) named in
    inr (inr (within, subst (λ (s : System). ReplayThen held failed tallies asked (fluent_names d p) (action_names d p) (HasTooManyStates d p) (empty_init asked.problem p) s a) system_is acts))

-- the initial state that a record begins with was found, or the number is that of none
pub first_answer : (TooMany : Type 0) (empty : Refusal) (states : List Vector) (name : Bytes) (recorded : RecordTree) (first : Vector) (Then : Vector → Answer → Type 0) (a : Answer)
    → (TooMany → ⊥) → IsFirstState states recorded first → (a ≡ refused no_memory) ⊎ Then first a
    → (a ≡ refused no_memory) ⊎ FirstThen TooMany empty states name recorded Then a
first_answer TooMany empty states name recorded first Then a few is (inl memory) = inl memory
first_answer TooMany empty states name recorded first Then a few is (inr then) =
    inr (inr (few, inr (λ none. let lt : recorded.first < length states = is.there in omega (arith, lt, ap (length {A = Vector}) none), inr (first, is, then))))

never_number : (states : List Vector) (name : Bytes) (recorded : RecordTree) (Then : Vector → Answer → Type 0) (a : Answer)
    → NumberThen states name recorded (λ first answer. ⊥) a → NumberThen states name recorded Then a
never_number states name recorded Then a (inl why) = inl why
never_number states name recorded Then a (inr (first, there, never)) = absurd never

never_first : (TooMany : Type 0) (empty : Refusal) (states : List Vector) (name : Bytes) (recorded : RecordTree) (Then : Vector → Answer → Type 0) (a : Answer)
    → FirstThen TooMany empty states name recorded (λ first answer. ⊥) a → FirstThen TooMany empty states name recorded Then a
never_first TooMany empty states name recorded Then a (inl why) = inl why
never_first TooMany empty states name recorded Then a (inr (few, then)) =
    inr (few, initial_map empty states (NumberThen states name recorded (λ first answer. ⊥)) (NumberThen states name recorded Then) a (never_number states name recorded Then a) then)

pub first_refused : (TooMany : Type 0) (empty : Refusal) (states : List Vector) (name : Bytes) (recorded : RecordTree) (Then : Vector → Answer → Type 0) (r : Refusal)
    → (refused r ≡ refused no_memory) ⊎ FirstThen TooMany empty states name recorded (λ first answer. ⊥) (refused r)
    → (refused r ≡ refused no_memory) ⊎ FirstThen TooMany empty states name recorded Then (refused r)
first_refused TooMany empty states name recorded Then r (inl memory) = inl memory
first_refused TooMany empty states name recorded Then r (inr why) = inr (never_first TooMany empty states name recorded Then (refused r) why)

-- a file is refused, or was read
pub record_refused : (held : Bytes → Held) (failed : Bytes → Type 0) (tallies : Tallies) (name : Bytes) (actions : List Name) (TooMany : Type 0) (empty : Refusal) (sys : System) (plan : PlainPlan) (r : Refusal)
    → (r ≡ no_memory) ⊎ IsRefusedFile held failed IsFaultyRecord name r
    → (refused r ≡ refused no_memory) ⊎ RecordThen held failed tallies name actions TooMany empty sys plan (refused r)
record_refused held failed tallies name actions TooMany empty sys plan r why =
    file_refused held failed name SpellsRecord IsFaultyRecord
    (λ recorded. FirstThen TooMany empty sys.initial name recorded (λ first. IsReplayed tallies sys actions (trace_under sys plan first recorded.words))) r why

pub record_answer : (held : Bytes → Held) (failed : Bytes → Type 0) (tallies : Tallies) (name : Bytes) (actions : List Name) (TooMany : Type 0) (empty : Refusal) (sys : System) (plan : PlainPlan) (recorded : RecordTree) (a : Answer)
    → Holds held SpellsRecord name recorded
    → (a ≡ refused no_memory) ⊎ FirstThen TooMany empty sys.initial name recorded (λ first. IsReplayed tallies sys actions (trace_under sys plan first recorded.words)) a
    → (a ≡ refused no_memory) ⊎ RecordThen held failed tallies name actions TooMany empty sys plan a
record_answer held failed tallies name actions TooMany empty sys plan recorded a holds then =
    next_answer held failed name SpellsRecord IsFaultyRecord
    (λ r. FirstThen TooMany empty sys.initial name r (λ first. IsReplayed tallies sys actions (trace_under sys plan first r.words))) recorded a holds then

pub plan_refused : (held : Bytes → Held) (failed : Bytes → Type 0) (tallies : Tallies) (asked : ReplayWords) (fluents actions : List Name) (TooMany : Type 0) (empty : Refusal) (sys : System) (r : Refusal)
    → (r ≡ no_memory) ⊎ IsRefusedFile held failed (IsFaultyPlan fluents actions) asked.plan r
    → (refused r ≡ refused no_memory) ⊎ ReplayThen held failed tallies asked fluents actions TooMany empty sys (refused r)
plan_refused held failed tallies asked fluents actions TooMany empty sys r why =
    file_refused held failed asked.plan (SpellsPlaced fluents actions) (IsFaultyPlan fluents actions)
    (λ placed. RecordThen held failed tallies asked.recorded actions TooMany empty sys placed.plan) r why

pub plan_answer : (held : Bytes → Held) (failed : Bytes → Type 0) (tallies : Tallies) (asked : ReplayWords) (fluents actions : List Name) (TooMany : Type 0) (empty : Refusal) (sys : System) (placed : PlacedPlan) (a : Answer)
    → Holds held (SpellsPlaced fluents actions) asked.plan placed
    → (a ≡ refused no_memory) ⊎ RecordThen held failed tallies asked.recorded actions TooMany empty sys placed.plan a
    → (a ≡ refused no_memory) ⊎ ReplayThen held failed tallies asked fluents actions TooMany empty sys a
plan_answer held failed tallies asked fluents actions TooMany empty sys placed a holds then =
    next_answer held failed asked.plan (SpellsPlaced fluents actions) (IsFaultyPlan fluents actions)
    (λ x. RecordThen held failed tallies asked.recorded actions TooMany empty sys x.plan) placed a holds then
