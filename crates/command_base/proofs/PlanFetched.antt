-- Which files a command fetched that reads a plan after a domain and a problem, and then more; and which of
-- them decided the answer.
use Rattle.std.proofs.Common.{◌≡◌, ◌⊎◌, List, [], ◌∷◌, inl, inr, subst, None}
use Rattle.pddl_ast.specs.Trees.{DomainTree, ProblemTree}
use Rattle.pddl_system.specs.Sizes.{first_passed}
use Rattle.pddl_system.specs.Systems.{action_names, fluent_names}
use Rattle.pddl_system.specs.Tasks.{task_of}
use Rattle.pddl_system.specs.Values.{task_value}
use Rattle.task_core.specs.Names.{Name}
use Rattle.task_core.specs.Tasks.{action_names as names_of_actions, fluent_names as names_of_fluents}
use Rattle.task_core.specs.declared.tasks.Task.{Task}
use Rattle.plan_io.specs.Fetches.{Fetches}
use Rattle.plan_io.specs.Held.{Held}
use Rattle.command_base.specs.Answers.{Answer, no_memory, refused, Refusal}
use Rattle.command_base.specs.Fetching.{FetchDomain, FetchThen, HoldsSomePlan, RefusesBoth, RefusesPlan, Stops}
use Rattle.command_base.specs.Grounding.{GroundThen}
use Rattle.command_base.specs.PddlTexts.{HoldBoth, ReadBoth}
use Rattle.command_base.specs.PlanFiles.{IsFaultyPlan, SpellsPlaced}
use Rattle.command_base.specs.Words.{Bytes}
use Rattle.command_base.proofs.Fetched.{after_files, both_stop, domain_for_memory, fetch_for_memory, one_decides, over_fetch_then}
use Rattle.command_base.proofs.Later.{read_over, some_plan_over}
use Rattle.command_base.proofs.PddlDecides.{refused_both}
use Rattle.command_base.proofs.TaskNames.{same_actions, same_fluents}

-- what is said over the names of a task holds over those of its domain and problem
pub names_fetched : {S : Type 0} (held : Bytes → Held) (failed : Bytes → Type 0) (fetched : S → Bytes → S → Type 0) (plan : Bytes) (Then : S → S → Type 0) (d : DomainTree) (p : ProblemTree) (t : Task) (a : Answer) (before after : S)
    → task_value t ≡ task_of d p
    → FetchThen fetched plan (Stops (RefusesPlan held failed (names_of_fluents t) (names_of_actions t) plan) a) (HoldsSomePlan held (names_of_fluents t) (names_of_actions t) plan) Then before after
    → FetchThen fetched plan (Stops (RefusesPlan held failed (fluent_names d p) (action_names d p) plan) a) (HoldsSomePlan held (fluent_names d p) (action_names d p) plan) Then before after
names_fetched held failed fetched plan Then d p t a before after is f =
    subst (λ (ns : List Name). FetchThen fetched plan (Stops (RefusesPlan held failed (fluent_names d p) ns plan) a) (HoldsSomePlan held (fluent_names d p) ns plan) Then before after) (same_actions d p t is)
    (subst (λ (ns : List Name). FetchThen fetched plan (Stops (RefusesPlan held failed ns (names_of_actions t) plan) a) (HoldsSomePlan held ns (names_of_actions t) plan) Then before after) (same_fluents d p t is) f)

-- what is said of the plan's file from a later state of the shelf holds from an earlier one
refuses_over : (held held' : Bytes → Held) (failed failed' : Bytes → Type 0) (fluents actions : List Name) (name : Bytes) (a : Answer)
    → ((file : Bytes) → held' file ≡ held file) → (failed' name → failed name) → RefusesPlan held' failed' fluents actions name a → RefusesPlan held failed fluents actions name a
refuses_over held held' failed failed' fluents actions name a same over f =
    read_over held held' failed failed' name (SpellsPlaced fluents actions) (IsFaultyPlan fluents actions) (λ placed b. ⊥) a same over f

-- the files in their order: the plan is needed once both spell a problem within the limits, and what comes
-- after it once it spells a plan
module _ {S : Type 0} (held : Bytes → Held) (failed : Bytes → Type 0) (fetched : S → Bytes → S → Type 0) (domain_name problem_name plan : Bytes) (Then : S → S → Type 0) where
  abbrev Both : (DomainTree → ProblemTree → Answer → Type 0) → Answer → Type 0
  Both = ReadBoth held failed domain_name problem_name

  abbrev Limits : DomainTree → ProblemTree → Answer → Type 0
  Limits d p = GroundThen d p (λ answer. ⊥)

  abbrev Plans : DomainTree → ProblemTree → Answer → Type 0
  Plans d p = GroundThen d p (RefusesPlan held failed (fluent_names d p) (action_names d p) plan)

  abbrev NeedsPlan : Type 0
  NeedsPlan = (d : DomainTree) × (p : ProblemTree) × HoldBoth held domain_name problem_name d p × (first_passed d p ≡ None)

  abbrev NeedsMore : Type 0
  NeedsMore = (d : DomainTree) × (p : ProblemTree) × HoldBoth held domain_name problem_name d p × HoldsSomePlan held (fluent_names d p) (action_names d p) plan

  abbrev FetchPlan : Answer → S → S → Type 0
  FetchPlan a = FetchThen fetched plan (Stops (Both Plans) a) NeedsMore Then

  abbrev pub FetchProblem : Answer → S → S → Type 0
  FetchProblem a = FetchThen fetched problem_name (Stops (Both Limits) a) NeedsPlan (FetchPlan a)

  -- one of the first two files is refused
  pub plan_unfetched : (r : Refusal) (before after : S) → RefusesBoth held failed domain_name problem_name (refused r)
      → FetchDomain held failed fetched domain_name (refused r) (Fetches fetched (problem_name ∷ [])) before after → FetchDomain held failed fetched domain_name (refused r) (FetchProblem (refused r)) before after
  plan_unfetched r before after refuses f =
      one_decides held failed fetched domain_name problem_name (Both Limits) NeedsPlan (FetchPlan (refused r)) (refused r) before after
      (refused_both held failed domain_name problem_name Limits r refuses) f

  -- want of memory may come in place of an answer
  pub plan_for_memory : (a : Answer) (before after : S) → FetchDomain held failed fetched domain_name a (FetchProblem a) before after
      → FetchDomain held failed fetched domain_name (refused no_memory) (FetchProblem (refused no_memory)) before after
  plan_for_memory a before after =
      domain_for_memory held failed fetched domain_name (FetchProblem a) (FetchProblem (refused no_memory)) a before after
      (λ x. fetch_for_memory fetched problem_name (Both Limits) NeedsPlan (FetchPlan a) (FetchPlan (refused no_memory)) a x after
      (λ y. fetch_for_memory fetched plan (Both Plans) NeedsMore Then Then a y after (λ z more. more)))

  -- what each fetch keeps true is true after all of them
  pub over_plan_fetched : (P : S → Type 0) → ((before : S) (name : Bytes) (after : S) → fetched before name after → P before → P after) → (a : Answer) (before after : S)
      → ((between : S) → Then between after → P between → P after) → FetchDomain held failed fetched domain_name a (FetchProblem a) before after → P before → P after
  over_plan_fetched P keeps a before after next =
      over_fetch_then P fetched keeps domain_name _ _ (FetchProblem a) before after
      (λ x. over_fetch_then P fetched keeps problem_name (Stops (Both Limits) a) NeedsPlan (FetchPlan a) x after
      (λ y. over_fetch_then P fetched keeps plan (Stops (Both Plans) a) NeedsMore Then y after next))

  -- both were read, and then the plan may be, and more
  module _ (held' : Bytes → Held) (failed' : Bytes → Type 0) (domain : DomainTree) (problem : ProblemTree) (a : Answer) (between after : S)
      (both : HoldBoth held domain_name problem_name domain problem) (same : (file : Bytes) → held' file ≡ held file) (over : failed' plan → failed plan) where
    abbrev Refuses : Answer → Type 0
    Refuses = RefusesPlan held' failed' (fluent_names domain problem) (action_names domain problem) plan

    abbrev Came : Type 0
    Came = (Stops (Limits domain problem) a × (after ≡ between))
        ⊎ ((first_passed domain problem ≡ None) × FetchThen fetched plan (Stops Refuses a) (HoldsSomePlan held' (fluent_names domain problem) (action_names domain problem) plan) Then between after)

    plan_stops : first_passed domain problem ≡ None → Stops Refuses a → Stops (Both Plans) a
    plan_stops within (inl memory) = inl memory
    plan_stops within (inr why) = inr (inr (
      domain,
      both.holds_domain,
      inr (
        problem,
        both.holds_problem,
        inr (
          within,
          refuses_over held held' failed failed' (fluent_names domain problem) (action_names domain problem) plan a same over why,
        ),
      ),
    ))

    after_both_files : Came → (Stops (Both Limits) a × (after ≡ between)) ⊎ (NeedsPlan × FetchPlan a between after)
    after_both_files (inl (stops, ends)) = inl (both_stop held failed domain_name problem_name Limits domain problem a both stops, ends)
    after_both_files (inr (within, (z, third, inl (stops, ends)))) = inr ((domain, problem, both, within), (z, third, inl (plan_stops within stops, ends)))
    after_both_files (inr (within, (z, third, inr (some, rest)))) =
        inr ((domain, problem, both, within), (z, third, inr ((domain, problem, both, some_plan_over held held' (fluent_names domain problem) (action_names domain problem) plan same some), rest)))

    pub plan_fetched : (before : S) → Fetches fetched (domain_name ∷ problem_name ∷ []) before between → Came → FetchDomain held failed fetched domain_name a (FetchProblem a) before after
    plan_fetched before came then =
        after_files held failed fetched domain_name problem_name (Stops (Both Limits) a) NeedsPlan (FetchPlan a) a before between after (domain, both.holds_domain) came (after_both_files then)
