-- The verdict on a plan of a task, explained, is that for the domain and the problem that the task comes
-- from.
use Rattle.std.proofs.Common.{◌≡◌, ◌⊎◌, Bool, List, inl, inr, refl, subst, ap, None, Option, true}
use Rattle.std.specs.Option.{option_map}
use Rattle.ctl_syntax.specs.declared.goals.Ctl.{Ctl}
use Rattle.fair_theory.proofs.NamesBelow.{FairGoalsAreTrue}
use Rattle.pddl_ast.specs.Trees.{DomainTree, ProblemTree}
use Rattle.pddl_system.specs.CtlGoals.{ctl_goal_of, goal_value}
use Rattle.pddl_system.specs.Laws.{GroundedGoalsAreTrue}
use Rattle.pddl_system.specs.Sizes.{first_passed}
use Rattle.pddl_system.specs.Systems.{action_names, fluent_names, system}
use Rattle.pddl_system.specs.Tasks.{task_of}
use Rattle.pddl_system.specs.Values.{task_value}
use Rattle.plan_io.specs.Held.{Held}
use Rattle.task_core.specs.Names.{Name}
use Rattle.task_core.specs.Systems.{System}
use Rattle.task_core.specs.Tasks.{action_names as names_of_actions, fluent_names as names_of_fluents, initial_states, system_of}
use Rattle.task_core.specs.declared.tasks.Task.{Task}
use Rattle.command_base.specs.Answers.{Answer, Refusal, refused, no_memory}
use Rattle.command_base.specs.Following.{HasTooManyStates, most_followed}
use Rattle.command_base.specs.Grounding.{GroundThen, has_goal_for}
use Rattle.command_base.specs.InitialStates.{InitialThen, empty_init}
use Rattle.command_base.specs.PlanFiles.{IsFaultyPlan, KindThen, is_of_kind}
use Rattle.command_base.specs.Reading.{Holds, IsRefusedFile}
use Rattle.command_base.specs.Words.{Bytes, with_contexts}
use Rattle.command_base.proofs.Initials.{initial_over}
use Rattle.command_base.proofs.Later.{read_over}
use Rattle.command_base.proofs.TaskNames.{same_actions, same_fluents}
use Rattle.command_base.proofs.WhatFollows.{goal_map, ground_map, kind_map}
use Rattle.check_command.specs.CheckCommand.{ExploreThen}
use Rattle.check_command.proofs.CheckAnswers.{explored}
use Rattle.command_base.proofs.TooMany.{too_many, too_many_back}
use Rattle.explain_command.specs.declared.words.ShownAs.{ShownAs}
use Rattle.explain_command.specs.declared.words.ShownAs.TheVariants.{Document, Run, Verdict}
use Rattle.explain_command.specs.Explained.{Explains, ExplainsIn, Judges, JudgesIn, Shows, ShowsIn, ExplainedThen, FollowedThen, IsExplained, PlanThen}
use Rattle.explain_command.specs.Fairly.{FairThen, GoalForThen, IsGoalFor, IsGoalRefusal}
use Rattle.explain_command.specs.Lined.{LinedPlan, SpellsLined}
use Rattle.explain_command.specs.Words.{ExplainWords}
use Rattle.explain_command.proofs.Fairness.{judged_as}
use Rattle.task_core.specs.Initials.{HasTooManyInitial}

-- what is said from a later state of the shelf holds from the command's start
explained_over : (held held' : Bytes → Held) (failed failed' : Bytes → Type 0) (asked : ExplainWords) (d : DomainTree) (p : ProblemTree) (a : Answer)
    → ((file : Bytes) → held' file ≡ held file) → (failed' asked.check.plan → failed asked.check.plan) → IsExplained held' failed' asked d p a → IsExplained held failed asked d p a
explained_over held held' failed failed' asked d p a same over =
    goal_map asked.check.kind asked.check.problem p (GroundThen d p (PlanThen held' failed' asked d p)) (GroundThen d p (PlanThen held failed asked d p)) a
    (ground_map d p (PlanThen held' failed' asked d p) (PlanThen held failed asked d p) a
    (read_over held held' failed failed' asked.check.plan (SpellsLined (fluent_names d p) (action_names d p)) (IsFaultyPlan (fluent_names d p) (action_names d p))
    (λ lined. KindThen asked.check.kind asked.check.plan lined.placed.place lined.placed.plan (FollowedThen asked d p lined)) a same over))

pub explained_later : (held held' : Bytes → Held) (failed failed' : Bytes → Type 0) (asked : ExplainWords) (d : DomainTree) (p : ProblemTree) (a : Answer)
    → ((file : Bytes) → held' file ≡ held file) → (failed' asked.check.plan → failed asked.check.plan)
    → (a ≡ refused no_memory) ⊎ IsExplained held' failed' asked d p a → (a ≡ refused no_memory) ⊎ IsExplained held failed asked d p a
explained_later held held' failed failed' asked d p a same over (inl memory) = inl memory
explained_later held held' failed failed' asked d p a same over (inr is) = inr (explained_over held held' failed failed' asked d p a same over is)

-- what is explained of a task is explained of the domain and the problem
explains_for : GroundedGoalsAreTrue → FairGoalsAreTrue → (asked : ExplainWords) (d : DomainTree) (p : ProblemTree) (t : Task) (given judged : Option Ctl) (lined : LinedPlan) (a : Answer)
    → (asked.fair ≡ true → asked.check.kind ≡ with_contexts) → task_value t ≡ task_of d p → system_of t ≡ system d p → option_map goal_value given ≡ ctl_goal_of d p
    → IsGoalFor asked.fair given judged → ExplainsIn asked t lined judged a → Explains asked d p lined a
explains_for law fair_law asked d p t given judged lined a contexts is same stands for explains = record {
  verdict = explains.verdict;
  judged = judged_as law fair_law asked.fair asked.check.kind d p t given judged lined.placed.plan explains.verdict contexts same stands for explains.judged;
  task = t;
  grounded = is;
  same = same;
  given = given;
  stands = stands;
  goal = judged;
  is_goal = for;
  finding = explains.finding;
  found = explains.found;
  some = explains.some;
  shown = explains.shown;
}

shows_for : GroundedGoalsAreTrue → FairGoalsAreTrue → (shown : ShownAs) (asked : ExplainWords) (d : DomainTree) (p : ProblemTree) (t : Task) (given judged : Option Ctl) (lined : LinedPlan) (a : Answer)
    → (asked.fair ≡ true → asked.check.kind ≡ with_contexts) → task_value t ≡ task_of d p → system_of t ≡ system d p → option_map goal_value given ≡ ctl_goal_of d p
    → IsGoalFor asked.fair given judged → ShowsIn shown asked t lined judged a → Shows shown asked d p lined a
shows_for law fair_law Verdict asked d p t given judged lined a contexts is same stands for judges = record {
  verdict = judges.verdict;
  judged = judged_as law fair_law asked.fair asked.check.kind d p t given judged lined.placed.plan judges.verdict contexts same stands for judges.judged;
  shown = judges.shown;
}
shows_for law fair_law Run asked d p t given judged lined a contexts is same stands for explains = explains_for law fair_law asked d p t given judged lined a contexts is same stands for explains
shows_for law fair_law Document asked d p t given judged lined a contexts is same stands for explains = explains_for law fair_law asked d p t given judged lined a contexts is same stands for explains

-- the file of the plan is refused
pub plan_refused : (held : Bytes → Held) (failed : Bytes → Type 0) (asked : ExplainWords) (d : DomainTree) (p : ProblemTree) (t : Task) (r : Refusal)
    → task_value t ≡ task_of d p → first_passed d p ≡ None → has_goal_for asked.check.kind p ≡ true
    → (r ≡ no_memory) ⊎ IsRefusedFile held failed (IsFaultyPlan (names_of_fluents t) (names_of_actions t)) asked.check.plan r
    → (refused r ≡ refused no_memory) ⊎ IsExplained held failed asked d p (refused r)
plan_refused held failed asked d p t r is within goal (inl memory) = inl (ap refused memory)
plan_refused held failed asked d p t r is within goal (inr why) =
    let fluents_named = subst (λ (ns : List Name). IsRefusedFile held failed (IsFaultyPlan ns (names_of_actions t)) asked.check.plan r) (same_fluents d p t is) why in
    let named = subst (λ (ns : List Name). IsRefusedFile held failed (IsFaultyPlan (fluent_names d p) ns) asked.check.plan r) (same_actions d p t is) fluents_named in
    inr (inr (goal, inr (within, inl (r, refl, named))))

-- what follows for the goal of a task follows for that of the domain and the problem
goal_mapped : (fair : Bool) (name : Bytes) (d : DomainTree) (p : ProblemTree) (given : Option Ctl) (P : Option Ctl → Answer → Type 0) (Q : Answer → Type 0) (a : Answer)
    → option_map goal_value given ≡ ctl_goal_of d p → ((judged : Option Ctl) → IsGoalFor fair given judged → P judged a → Q a)
    → GoalForThen fair name p.ctl_place given P a → FairThen fair name d p Q a
goal_mapped fair name d p given P Q a stands f (inl (refusal, is, why)) = inl (refusal, is, (given, stands, why))
goal_mapped fair name d p given P Q a stands f (inr (judged, for, then)) = inr (f judged for then)

-- the answer for a plan that was read
pub explained_answer : GroundedGoalsAreTrue → FairGoalsAreTrue → (held : Bytes → Held) (failed : Bytes → Type 0) (asked : ExplainWords) (d : DomainTree) (p : ProblemTree) (t : Task) (given : Option Ctl)
    (lined : LinedPlan) (a : Answer) → (asked.fair ≡ true → asked.check.kind ≡ with_contexts)
    → task_value t ≡ task_of d p → system_of t ≡ system d p → option_map goal_value given ≡ ctl_goal_of d p
    → first_passed d p ≡ None → has_goal_for asked.check.kind p ≡ true
    → Holds held (SpellsLined (names_of_fluents t) (names_of_actions t)) asked.check.plan lined
    → (a ≡ refused no_memory) ⊎ KindThen asked.check.kind asked.check.plan lined.placed.place lined.placed.plan
    (GoalForThen asked.fair asked.check.problem p.ctl_place given (λ judged. ExploreThen (HasTooManyInitial t most_followed) (system_of t) lined.placed.plan
    (InitialThen (empty_init asked.check.problem p) (initial_states t) (ShowsIn asked.shown asked t lined judged)))) a
    → (a ≡ refused no_memory) ⊎ IsExplained held failed asked d p a
explained_answer law fair_law held failed asked d p t given lined a contexts is system_is stands within some holds (inl memory) = inl memory
explained_answer law fair_law held failed asked d p t given lined a contexts is system_is stands within some holds (inr then) =
    let fluents_named = subst (λ (ns : List Name). Holds held (SpellsLined ns (names_of_actions t)) asked.check.plan lined) (same_fluents d p t is) holds in
    let named = subst (λ (ns : List Name). Holds held (SpellsLined (fluent_names d p) ns) asked.check.plan lined) (same_actions d p t is) fluents_named in
    let plan = lined.placed.plan in
    let empty = empty_init asked.check.problem p in
    let Of : Option Ctl → Answer → Type 0 = ShowsIn asked.shown asked t lined in
    let Of' : Answer → Type 0 = Shows asked.shown asked d p lined in
    let Before : Option Ctl → Answer → Type 0 = λ judged. InitialThen empty (initial_states t) (Of judged) in
    let Then : Option Ctl → Answer → Type 0 = λ judged. ExploreThen (HasTooManyInitial t most_followed) (system_of t) plan (Before judged) in
    let Then' : Answer → Type 0 = ExploreThen (HasTooManyStates d p) (system d p) plan (ExplainedThen asked d p lined) in
    let carried : (judged : Option Ctl) → IsGoalFor asked.fair given judged → Then judged a → Then' a = λ judged for.
    explored (HasTooManyInitial t most_followed) (HasTooManyStates d p) (system_of t) (system d p) plan (Before judged) (ExplainedThen asked d p lined) a
    (too_many d p t is) (too_many_back d p t is) system_is
    (initial_over empty (initial_states t) (system d p).initial (Of judged) Of' a (ap (λ (s : System). s.initial) system_is)
    (shows_for law fair_law asked.shown asked d p t given judged lined a contexts is system_is stands for)) in
    inr (inr (
      some,
      inr (
        within,
        inr (
          lined,
          named,
          kind_map asked.check.kind asked.check.plan lined.placed.place plan (GoalForThen asked.fair asked.check.problem p.ctl_place given Then)
              (FollowedThen asked d p lined) a (goal_mapped asked.fair asked.check.problem d p given Then Then' a stands carried) then,
        ),
      ),
    ))

-- what follows for the goal by which a plan is judged
module _ (asked : ExplainWords) (p : ProblemTree) (lined : LinedPlan) (t : Task) (given : Option Ctl) (is_kind : is_of_kind asked.check.kind lined.placed.plan ≡ true) where
  abbrev JudgedThen : Task → Option Ctl → Answer → Type 0
  JudgedThen task judged = ExploreThen (HasTooManyInitial task most_followed) (system_of task) lined.placed.plan
      (InitialThen (empty_init asked.check.problem p) (initial_states task) (ShowsIn asked.shown asked task lined judged))

  abbrev GoalThenJudged : Answer → Type 0
  GoalThenJudged = KindThen asked.check.kind asked.check.plan lined.placed.place lined.placed.plan (GoalForThen asked.fair asked.check.problem p.ctl_place given (JudgedThen t))

  pub judged_read : (a : Answer) (other : Task) (judged : Option Ctl) → other ≡ t → IsGoalFor asked.fair given judged → (a ≡ refused no_memory) ⊎ JudgedThen other judged a
      → (a ≡ refused no_memory) ⊎ GoalThenJudged a
  judged_read a other judged same for (inl memory) = inl memory
  judged_read a other judged same for (inr then) = inr (inr (is_kind, inr (judged, for, subst (λ (task : Task). JudgedThen task judged a) same then)))

  pub goal_refused : (r : Refusal) → (r ≡ no_memory) ⊎ IsGoalRefusal asked.fair asked.check.problem p.ctl_place given r → (refused r ≡ refused no_memory) ⊎ GoalThenJudged (refused r)
  goal_refused r (inl memory) = inl (ap refused memory)
  goal_refused r (inr why) = inr (inr (is_kind, inl (r, refl, why)))
