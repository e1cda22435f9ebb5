-- Which files a picture fetched, and which of them decided the answer.
use Rattle.std.proofs.Common.{◌≡◌, ◌⊎◌, ℕ, [], ◌∷◌, subst, sym, None}
use Rattle.pddl_ast.specs.Trees.{DomainTree, ProblemTree}
use Rattle.pddl_system.specs.Sizes.{first_passed}
use Rattle.pddl_system.specs.Systems.{action_names, fluent_names}
use Rattle.pddl_system.specs.Tasks.{task_of}
use Rattle.pddl_system.specs.Values.{task_value}
use Rattle.task_core.specs.Tasks.{action_names as names_of_actions, fluent_names as names_of_fluents}
use Rattle.task_core.specs.declared.tasks.Task.{Task}
use Rattle.plan_io.specs.Fetches.{FailedLast, Fetches}
use Rattle.plan_io.specs.Held.{Held}
use Rattle.command_base.specs.Answers.{Answer, no_memory, refused, Refusal}
use Rattle.command_base.specs.Fetching.{FetchDomain, HoldsSomePlan, RefusesBoth, RefusesPlan, Stops}
use Rattle.draw_command.specs.Fetching.{FetchPlan, FetchPlanAndRun, FetchesRun, FetchesToPicture}
use Rattle.command_base.specs.Grounding.{GroundThen}
use Rattle.command_base.specs.PddlTexts.{HoldBoth}
use Rattle.command_base.specs.Words.{Bytes}
use Rattle.draw_command.specs.Words.{PictureForm, PictureWords, as_graph, as_graph_with, as_page, as_page_with, as_rules}
use Rattle.command_base.proofs.Fetched.{over_fetches}
use Rattle.command_base.proofs.PlanFetched.{names_fetched, over_plan_fetched, plan_fetched, plan_for_memory, plan_unfetched}

-- one of the first two files is refused
pub picture_stopped : {S : Type 0} (held : Bytes → Held) (failed : Bytes → Type 0) (fetched : S → Bytes → S → Type 0) (asked : PictureWords) (r : Refusal) (before after : S)
    → RefusesBoth held failed asked.domain asked.problem (refused r) → FetchDomain held failed fetched asked.domain (refused r) (Fetches fetched (asked.problem ∷ [])) before after
    → FetchDomain held failed fetched asked.domain (refused r) (FetchPlanAndRun held failed fetched asked (refused r)) before after
picture_stopped held failed fetched asked = plan_unfetched held failed fetched asked.domain asked.problem asked.plan (FetchesRun fetched asked.form)

-- what is said over the names of a task holds over those of its domain and problem
pub task_fetched : {S : Type 0} (held : Bytes → Held) (failed : Bytes → Type 0) (fetched : S → Bytes → S → Type 0) (asked : PictureWords) (d : DomainTree) (p : ProblemTree) (t : Task) (a : Answer) (before after : S)
    → task_value t ≡ task_of d p
    → FetchPlan fetched asked (RefusesPlan held failed (names_of_fluents t) (names_of_actions t) asked.plan) (HoldsSomePlan held (names_of_fluents t) (names_of_actions t) asked.plan) a before after
    → FetchPlan fetched asked (RefusesPlan held failed (fluent_names d p) (action_names d p) asked.plan) (HoldsSomePlan held (fluent_names d p) (action_names d p) asked.plan) a before after
task_fetched held failed fetched asked = names_fetched held failed fetched asked.plan (FetchesRun fetched asked.form)

-- both were read, and then the plan may be, and the run
pub picture_fetched : {S : Type 0} (held held' : Bytes → Held) (fetched : S → Bytes → S → Type 0) (faults : S → ℕ) (asked : PictureWords) (domain : DomainTree) (problem : ProblemTree) (a : Answer) (before between after : S)
    → HoldBoth held asked.domain asked.problem domain problem → ((file : Bytes) → held' file ≡ held file)
    → (FailedLast fetched faults between after asked.plan → FailedLast fetched faults before after asked.plan) → Fetches fetched (asked.domain ∷ asked.problem ∷ []) before between
    → (Stops (GroundThen domain problem (λ answer. ⊥)) a × (after ≡ between))
    ⊎ ((first_passed domain problem ≡ None) × FetchPlan fetched asked (RefusesPlan held' (FailedLast fetched faults between after) (fluent_names domain problem) (action_names domain problem) asked.plan)
    (HoldsSomePlan held' (fluent_names domain problem) (action_names domain problem) asked.plan) a between after)
    → FetchDomain held (FailedLast fetched faults before after) fetched asked.domain a (FetchPlanAndRun held (FailedLast fetched faults before after) fetched asked a) before after
picture_fetched held held' fetched faults asked domain problem a before between after both same over =
    plan_fetched held (FailedLast fetched faults before after) fetched asked.domain asked.problem asked.plan (FetchesRun fetched asked.form)
    held' (FailedLast fetched faults between after) domain problem a between after both same over before

-- want of memory may come in place of an answer
pub picture_for_memory : {S : Type 0} (held : Bytes → Held) (failed : Bytes → Type 0) (fetched : S → Bytes → S → Type 0) (asked : PictureWords) (a : Answer) (before after : S)
    → FetchesToPicture held failed fetched asked a before after → FetchesToPicture held failed fetched asked (refused no_memory) before after
picture_for_memory held failed fetched asked = plan_for_memory held failed fetched asked.domain asked.problem asked.plan (FetchesRun fetched asked.form)

-- what each fetch keeps true is true after all of them
module _ {S : Type 0} (P : S → Type 0) (fetched : S → Bytes → S → Type 0) (keeps : (before : S) (name : Bytes) (after : S) → fetched before name after → P before → P after) where
  over_run : (form : PictureForm) (before after : S) → FetchesRun fetched form before after → P before → P after
  over_run as_graph before after same holds = subst P (sym same) holds
  over_run (as_graph_with file) before after fetches holds = over_fetches P fetched keeps (file ∷ []) before after fetches holds
  over_run as_rules before after same holds = subst P (sym same) holds
  over_run as_page before after same holds = subst P (sym same) holds
  over_run (as_page_with file) before after fetches holds = over_fetches P fetched keeps (file ∷ []) before after fetches holds

  pub over_picture : (held : Bytes → Held) (failed : Bytes → Type 0) (asked : PictureWords) (a : Answer) (before after : S) → FetchesToPicture held failed fetched asked a before after → P before → P after
  over_picture held failed asked a before after =
      over_plan_fetched held failed fetched asked.domain asked.problem asked.plan (FetchesRun fetched asked.form) P keeps a before after (λ z. over_run asked.form z after)
