-- Which files `replay` fetched, and which of them decided the answer.
use Rattle.std.proofs.Common.{◌≡◌, ◌⊎◌, ℕ, [], ◌∷◌, None}
use Rattle.pddl_ast.specs.Trees.{DomainTree, ProblemTree}
use Rattle.pddl_system.specs.Sizes.{first_passed}
use Rattle.pddl_system.specs.Systems.{action_names, fluent_names}
use Rattle.pddl_system.specs.Tasks.{task_of}
use Rattle.pddl_system.specs.Values.{task_value}
use Rattle.task_core.specs.Tasks.{action_names as names_of_actions, fluent_names as names_of_fluents}
use Rattle.task_core.specs.declared.tasks.Task.{Task}
use Rattle.plan_io.specs.Fetches.{FailedLast, Fetches}
use Rattle.plan_io.specs.Held.{Held}
use Rattle.command_base.specs.Answers.{Answer, refused, Refusal}
use Rattle.command_base.specs.Fetching.{FetchDomain, HoldsSomePlan, RefusesBoth, RefusesPlan, Stops}
use Rattle.replay_command.specs.RunFetches.{FetchRecord, FetchRun}
use Rattle.command_base.specs.Grounding.{GroundThen}
use Rattle.command_base.specs.PddlTexts.{HoldBoth}
use Rattle.command_base.specs.Words.{Bytes, ReplayWords}
use Rattle.command_base.proofs.PlanFetched.{names_fetched, plan_fetched, plan_unfetched}

-- `replay`: one of the first two files is refused
pub replay_stopped : {S : Type 0} (held : Bytes → Held) (failed : Bytes → Type 0) (fetched : S → Bytes → S → Type 0) (asked : ReplayWords) (r : Refusal) (before after : S)
    → RefusesBoth held failed asked.domain asked.problem (refused r) → FetchDomain held failed fetched asked.domain (refused r) (Fetches fetched (asked.problem ∷ [])) before after
    → FetchDomain held failed fetched asked.domain (refused r) (FetchRun held failed fetched asked (refused r)) before after
replay_stopped held failed fetched asked = plan_unfetched held failed fetched asked.domain asked.problem asked.plan (Fetches fetched (asked.recorded ∷ []))

-- what is said over the names of a task holds over those of its domain and problem
pub task_fetched : {S : Type 0} (held : Bytes → Held) (failed : Bytes → Type 0) (fetched : S → Bytes → S → Type 0) (asked : ReplayWords) (d : DomainTree) (p : ProblemTree) (t : Task) (a : Answer) (before after : S)
    → task_value t ≡ task_of d p
    → FetchRecord fetched asked (RefusesPlan held failed (names_of_fluents t) (names_of_actions t) asked.plan) (HoldsSomePlan held (names_of_fluents t) (names_of_actions t) asked.plan) a before after
    → FetchRecord fetched asked (RefusesPlan held failed (fluent_names d p) (action_names d p) asked.plan) (HoldsSomePlan held (fluent_names d p) (action_names d p) asked.plan) a before after
task_fetched held failed fetched asked = names_fetched held failed fetched asked.plan (Fetches fetched (asked.recorded ∷ []))

-- both were read, and then the plan may be, and the record
pub replay_fetched : {S : Type 0} (held held' : Bytes → Held) (fetched : S → Bytes → S → Type 0) (faults : S → ℕ) (asked : ReplayWords) (domain : DomainTree) (problem : ProblemTree) (a : Answer) (before between after : S)
    → HoldBoth held asked.domain asked.problem domain problem → ((file : Bytes) → held' file ≡ held file)
    → (FailedLast fetched faults between after asked.plan → FailedLast fetched faults before after asked.plan) → Fetches fetched (asked.domain ∷ asked.problem ∷ []) before between
    → (Stops (GroundThen domain problem (λ answer. ⊥)) a × (after ≡ between))
    ⊎ ((first_passed domain problem ≡ None) × FetchRecord fetched asked (RefusesPlan held' (FailedLast fetched faults between after) (fluent_names domain problem) (action_names domain problem) asked.plan)
    (HoldsSomePlan held' (fluent_names domain problem) (action_names domain problem) asked.plan) a between after)
    → FetchDomain held (FailedLast fetched faults before after) fetched asked.domain a (FetchRun held (FailedLast fetched faults before after) fetched asked a) before after
replay_fetched held held' fetched faults asked domain problem a before between after both same over =
    plan_fetched held (FailedLast fetched faults before after) fetched asked.domain asked.problem asked.plan (Fetches fetched (asked.recorded ∷ []))
    held' (FailedLast fetched faults between after) domain problem a between after both same over before
