-- From what follows the reading of both files to the answer.
use Rattle.std.proofs.Common.{◌≡◌, ◌≢◌, ◌⊎◌, List, [], ◌∷◌, Contains, get_or, length, map, inl, inr, refl, sym, subst, ap, ◌∙◌, arith, None, drop}
use Rattle.exec_graph.specs.Executions.{ReachesMoreThan}
use Rattle.exec_graph.proofs.Reaching.{begins, reached_first}
use Rattle.pddl_ast.specs.Trees.{DomainTree, ProblemTree}
use Rattle.pddl_system.specs.Sizes.{first_passed}
use Rattle.pddl_system.specs.Systems.{action_names, fluent_names, system}
use Rattle.pddl_system.specs.Tasks.{task_of}
use Rattle.pddl_system.specs.Values.{task_value}
use Rattle.plan_io.specs.Held.{Held}
use Rattle.plan_picture.specs.Pictures.{IsPictureOf, PlainNode, configurations}
use Rattle.plan_rules.specs.Rules.{PlainPlan}
use Rattle.task_core.specs.ContextPlans.{Configuration, first_context}
use Rattle.task_core.specs.Names.{Name}
use Rattle.task_core.specs.Systems.{System}
use Rattle.task_core.specs.Tasks.{action_names as names_of_actions, fluent_names as names_of_fluents, initial_states, system_of}
use Rattle.task_core.specs.Vectors.{Vector}
use Rattle.task_core.specs.declared.tasks.Task.{Task}
use Rattle.command_base.specs.Answers.{Answer, no_memory, refused}
use Rattle.command_base.specs.Following.{HasTooManyStates, most_followed}
use Rattle.command_base.specs.InitialStates.{empty_init}
use Rattle.command_base.specs.PlanFiles.{IsFaultyPlan, PlacedPlan, SpellsPlaced}
use Rattle.command_base.specs.Reading.{ReadThen}
use Rattle.command_base.specs.Words.{Bytes}
use Rattle.command_base.proofs.TooMany.{too_many, too_many_back}
use Rattle.command_base.proofs.Initials.{initial_over}
use Rattle.command_base.proofs.Later.{read_over}
use Rattle.command_base.proofs.TaskNames.{same_actions, same_fluents}
use Rattle.command_base.proofs.WhatFollows.{then_map}
use Rattle.draw_command.specs.Pictures.{DrawnOf, DrawnThen, IsFaultyExplanation, IsPictured, RunThen, ShowsPicture, TaskThen, most_for}
use Rattle.draw_command.specs.Words.{PictureForm, PictureWords, as_graph, as_graph_with, as_page, as_page_with, as_rules}
use Rattle.plan_page.specs.Explanations.{PlainExplanation, TellsExplanation}
use Rattle.std.specs.Prelude.{Option, Some}
use Rattle.std.proofs.lemmas.Option.{same_Some}

-- what follows the reading of a run
run_map : (held : Bytes → Held) (failed : Bytes → Type 0) (form : PictureForm) (Then Then' : Option PlainExplanation → Answer → Type 0) (a : Answer)
    → ((explanation : Option PlainExplanation) → Then explanation a → Then' explanation a) → RunThen held failed form Then a → RunThen held failed form Then' a
run_map held failed as_graph Then Then' a over then = over None then
run_map held failed (as_graph_with file) Then Then' a over then =
    then_map held failed file TellsExplanation IsFaultyExplanation (λ (e : PlainExplanation). Then (Some e)) (λ (e : PlainExplanation). Then' (Some e)) a (λ e. over (Some e)) then
run_map held failed as_rules Then Then' a over then = over None then
run_map held failed as_page Then Then' a over then = over None then
run_map held failed (as_page_with file) Then Then' a over then =
    then_map held failed file TellsExplanation IsFaultyExplanation (λ (e : PlainExplanation). Then (Some e)) (λ (e : PlainExplanation). Then' (Some e)) a (λ e. over (Some e)) then

-- what is said from a later state of the shelf holds from the start
pub run_later : (held held' : Bytes → Held) (failed failed' : Bytes → Type 0) (form : PictureForm) (Then : Option PlainExplanation → Answer → Type 0) (a : Answer)
    → ((file : Bytes) → held' file ≡ held file) → ((file : Bytes) → failed' file → failed file) → RunThen held' failed' form Then a → RunThen held failed form Then a
run_later held held' failed failed' as_graph Then a same over then = then
run_later held held' failed failed' (as_graph_with file) Then a same over then =
    read_over held held' failed failed' file TellsExplanation IsFaultyExplanation (λ (e : PlainExplanation). Then (Some e)) a same (over file) then
run_later held held' failed failed' as_rules Then a same over then = then
run_later held held' failed failed' as_page Then a same over then = then
run_later held held' failed failed' (as_page_with file) Then a same over then =
    read_over held held' failed failed' file TellsExplanation IsFaultyExplanation (λ (e : PlainExplanation). Then (Some e)) a same (over file) then

pub run_later_or : (held held' : Bytes → Held) (failed failed' : Bytes → Type 0) (form : PictureForm) (Then : Option PlainExplanation → Answer → Type 0) (a : Answer)
    → ((file : Bytes) → held' file ≡ held file) → ((file : Bytes) → failed' file → failed file)
    → (a ≡ refused no_memory) ⊎ RunThen held' failed' form Then a → (a ≡ refused no_memory) ⊎ RunThen held failed form Then a
run_later_or held held' failed failed' form Then a same over (inl memory) = inl memory
run_later_or held held' failed failed' form Then a same over (inr then) = inr (run_later held held' failed failed' form Then a same over then)

pub pictured_later : (held held' : Bytes → Held) (failed failed' : Bytes → Type 0) (asked : PictureWords) (d : DomainTree) (p : ProblemTree) (a : Answer)
    → ((file : Bytes) → held' file ≡ held file) → ((file : Bytes) → failed' file → failed file)
    → (a ≡ refused no_memory) ⊎ IsPictured held' failed' asked d p a → (a ≡ refused no_memory) ⊎ IsPictured held failed asked d p a
pictured_later held held' failed failed' asked d p a same over (inl memory) = inl memory
pictured_later held held' failed failed' asked d p a same over (inr (inl passed)) = inr (inl passed)
pictured_later held held' failed failed' asked d p a same over (inr (inr (within, then))) =
    let Spells = SpellsPlaced (fluent_names d p) (action_names d p) in
    let Wrong = IsFaultyPlan (fluent_names d p) (action_names d p) in
    inr (inr (
      within,
      then_map held failed asked.plan Spells Wrong (λ placed. RunThen held' failed' asked.form (DrawnThen asked d p placed)) (λ placed. RunThen held failed asked.form (DrawnThen asked d p placed)) a
          (λ placed. run_later held held' failed failed' asked.form (DrawnThen asked d p placed) a same over)
          (read_over held held' failed failed' asked.plan Spells Wrong (λ placed. RunThen held' failed' asked.form (DrawnThen asked d p placed)) a same (over asked.plan) then),
    ))

-- what is drawn of a task is drawn of the domain and the problem
shows_for : (form : PictureForm) (t : Task) (d : DomainTree) (p : ProblemTree) (plan : PlainPlan) (run : Option PlainExplanation) (a : Answer) → task_value t ≡ task_of d p → system_of t ≡ system d p
    → ShowsPicture form (names_of_fluents t) (names_of_actions t) (system_of t) plan run a → ShowsPicture form (fluent_names d p) (action_names d p) (system d p) plan run a
shows_for form t d p plan run a is system_is shows =
    subst (λ (sys : System). ShowsPicture form (fluent_names d p) (action_names d p) sys plan run a) system_is
    (subst (λ (ns : List Name). ShowsPicture form (fluent_names d p) ns (system_of t) plan run a) (same_actions d p t is)
    (subst (λ (ns : List Name). ShowsPicture form ns (names_of_actions t) (system_of t) plan run a) (same_fluents d p t is) shows))

drawn_for : (asked : PictureWords) (d : DomainTree) (p : ProblemTree) (t : Task) (placed : PlacedPlan) (run : Option PlainExplanation) (a : Answer) → task_value t ≡ task_of d p → system_of t ≡ system d p
    → DrawnOf asked p t placed.plan run a → DrawnThen asked d p placed run a
drawn_for asked d p t placed run a is system_is (inl (many, refused_is)) = inl (too_many d p t is many, refused_is)
drawn_for asked d p t placed run a is system_is (inr (inl (few, more, refused_is))) =
    inr (inl (λ many. few (too_many_back d p t is many), subst (λ (s : System). ReachesMoreThan s placed.plan (most_for asked.form)) system_is more, refused_is))
drawn_for asked d p t placed run a is system_is (inr (inr then)) =
    inr (inr (initial_over (empty_init asked.problem p) (initial_states t) (system d p).initial
    (ShowsPicture asked.form (names_of_fluents t) (names_of_actions t) (system_of t) placed.plan run)
    (ShowsPicture asked.form (fluent_names d p) (action_names d p) (system d p) placed.plan run) a (ap (λ (s : System). s.initial) system_is)
    (shows_for asked.form t d p placed.plan run a is system_is) then))

-- the answer for a task is that for the domain and the problem
pub task_answer : (held : Bytes → Held) (failed : Bytes → Type 0) (asked : PictureWords) (d : DomainTree) (p : ProblemTree) (t : Task) (a : Answer)
    → task_value t ≡ task_of d p → system_of t ≡ system d p → first_passed d p ≡ None
    → (a ≡ refused no_memory) ⊎ TaskThen held failed asked p t a → (a ≡ refused no_memory) ⊎ IsPictured held failed asked d p a
task_answer held failed asked d p t a is system_is within (inl memory) = inl memory
task_answer held failed asked d p t a is system_is within (inr then) =
    let Then : PlacedPlan → Answer → Type 0 = λ placed. RunThen held failed asked.form (DrawnThen asked d p placed) in
    let drawn : ReadThen held failed asked.plan (SpellsPlaced (names_of_fluents t) (names_of_actions t)) (IsFaultyPlan (names_of_fluents t) (names_of_actions t)) Then a =
    then_map held failed asked.plan (SpellsPlaced (names_of_fluents t) (names_of_actions t)) (IsFaultyPlan (names_of_fluents t) (names_of_actions t))
    (λ placed. RunThen held failed asked.form (DrawnOf asked p t placed.plan)) Then a
    (λ placed. run_map held failed asked.form (DrawnOf asked p t placed.plan) (DrawnThen asked d p placed) a (λ run. drawn_for asked d p t placed run a is system_is)) then in
    let fluents_named = subst (λ (ns : List Name). ReadThen held failed asked.plan (SpellsPlaced ns (names_of_actions t)) (IsFaultyPlan ns (names_of_actions t)) Then a) (same_fluents d p t is) drawn in
    inr (inr (within, subst (λ (ns : List Name). ReadThen held failed asked.plan (SpellsPlaced (fluent_names d p) ns) (IsFaultyPlan (fluent_names d p) ns) Then a) (same_actions d p t is) fluents_named))

-- a picture has nodes exactly where there is an initial state
pub shows_nothing : (sys : System) (plan : PlainPlan) (nodes : List PlainNode) → IsPictureOf sys plan nodes → nodes ≡ [] → sys.initial ≡ []
shows_nothing sys plan nodes is none = go sys.initial refl where
  go : (states : List Vector) → sys.initial ≡ states → states ≡ []
  go [] same = refl
  go (s ∷ rest) same =
      let listed : Contains sys.initial s = subst (λ (vs : List Vector). Contains vs s) (sym same) (0, omega arith, refl) in
      let x : Configuration = record { state = s; context = first_context } in
      let node = (is.reached x).1 (reached_first sys plan x (record { state = listed; context = refl })) in
      let nowhere : Contains (configurations []) x = subst (λ (ns : List PlainNode). Contains (configurations ns) x) none node in
      absurd (let within = nowhere.1 in omega (arith, within))

pub shows_some : (sys : System) (plan : PlainPlan) (nodes : List PlainNode) → IsPictureOf sys plan nodes → nodes ≢ [] → sys.initial ≢ []
shows_some sys plan [] is some none = some refl
shows_some sys plan (node ∷ nodes) is some none =
    let first = begins sys plan node.configuration ((is.reached node.configuration).0 (0, omega arith, refl)) in
    let listed = subst (λ (vs : List Vector). Contains vs first.0) none first.1 in
    let within = listed.1 in omega (arith, within)

pub no_nodes : {X Y : Type 0} (f : X → Y) (xs : List X) → length xs ≡ 0 → map f xs ≡ []
no_nodes f [] none = refl
no_nodes f (x ∷ xs) none = absurd (omega (arith, none))

pub some_nodes : {X Y : Type 0} (f : X → Y) (xs : List X) → (length xs ≡ 0 → ⊥) → map f xs ≢ []
some_nodes f [] some none = some refl
some_nodes f (x ∷ xs) some none = cc none
