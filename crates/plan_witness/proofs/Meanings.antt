-- The reasons, at the numbers of a graph and at the configurations of its plan.
use Rattle.std.proofs.Common.{◌≡◌, ◌↔◌, ℕ, ◌<◌, Bool, true, false, not, List, [], ◌∷◌, length, map, Option, Some, None, Result, Ok, Err, refl, sym, ◌∙◌, subst, arith}
use Rattle.std.specs.List.{Contains}
use Rattle.std.specs.Option.{IfNone, IfSome}
use Rattle.std.specs.Result.{IfOk}
use Rattle.std.proofs.lemmas.Bool.{false≢true}
use Rattle.task_core.specs.ContextPlans.{Configuration, IsInitial}
use Rattle.task_core.specs.Paths.{IsPath, last_of}
use Rattle.task_core.specs.Systems.{System, goal_states}
use Rattle.task_core.specs.Tasks.{fluent_count, system_of}
use Rattle.task_core.specs.Vectors.{Vector}
use Rattle.task_core.specs.declared.conditions.Cond.{Cond}
use Rattle.task_core.specs.declared.tasks.Task.{Task}
use Rattle.task_core.proofs.Paths.{path_keeps}
use Rattle.task_core.proofs.TaskSystem.{goal_states_of, is_system, states_where_has, states_where_holds}
use Rattle.plan_rules.specs.Rules.{plain_of, PlainPlan}
use Rattle.plan_rules.specs.declared.rules.Plan.{Plan}
use Rattle.exec_graph.proofs.Reaching.{reached_first, reached_next, reached_state}
use Rattle.exec_graph.specs.Executions.{GoesTo, IsReachedBy}
use Rattle.exec_graph.specs.Values.{followers_at, graph_size, plain_graph, state_at}
use Rattle.exec_graph.specs.declared.graphs.Graph.{Graph}
use Rattle.plan_check.specs.Labels.{IsNegated, mark_at}
use Rattle.plan_check.specs.Plain.{IsGoalEnd, is_goal_at}
use Rattle.plan_check.specs.Walks.{IsMarked, LeadsToMarked, last_number}
use Rattle.plan_check.proofs.WalkFacts.{last_below}
use Rattle.plan_witness.specs.Ends.{IsEnd, IsEndInside, IsEndOutside, IsEndless, IsLostStart, IsNumberOutside, LeadsTo}
use Rattle.plan_witness.specs.Leading.{IsMarkedStart}
use Rattle.plan_witness.specs.Marked.{IsGraphIn, IsMarkedPlace, place_at}
use Rattle.plan_witness.specs.Runs.{IsShortestRun, NoneReached, PlainRun}
use Rattle.plan_witness.specs.Values.{run_value}
use Rattle.plan_witness.specs.declared.runs.Run.{Run}
use Rattle.plan_witness.proofs.GraphRuns.{end_of_walk, last_place, node_of, path_of, step_goes, step_to, walk_of}

pub if_found : {R E : Type 0} (r : Result (Option R) E) (P Q : R → Type 0) → ((x : R) → P x → Q x) → IfOk r (λ o. IfSome o P) → IfOk r (λ o. IfSome o Q)
if_found (Ok (Some x)) P Q f h = f x h
if_found (Ok None) P Q f h = tt
if_found (Err e) P Q f h = tt

pub if_none : {R E : Type 0} (r : Result (Option R) E) (A B : Type 0) → (A → B) → IfOk r (λ o. IfNone o A) → IfOk r (λ o. IfNone o B)
if_none (Ok (Some x)) A B f h = tt
if_none (Ok None) A B f h = f h
if_none (Err e) A B f h = tt

not_marked : (b : Bool) → (not b ≡ true) ↔ (b ≡ true → ⊥)
not_marked true = ((λ h. absurd (false≢true h)), (λ no. absurd (no refl)))
not_marked false = ((λ _ h. false≢true h), (λ _. refl))

pub both_ways : {A B C : Type 0} → A ↔ B → B ↔ C → A ↔ C
both_ways f g = ((λ a. g.0 (f.0 a)), (λ c. f.1 (g.1 c)))

pub neither : {A B : Type 0} → A ↔ B → (A → ⊥) ↔ (B → ⊥)
neither f = ((λ no b. no (f.1 b)), (λ no a. no (f.0 a)))

-- a number has the one mark exactly where it leads to no end, if it has the other exactly where it does
pub none_lead : (n : ℕ) (next : ℕ → List ℕ) (ends lead others : List Bool) → length lead ≡ n → ((i : ℕ) → i < n → IsMarked lead i ↔ LeadsToMarked next ends i) → IsNegated (length lead) lead others
    → (i : ℕ) → i < n → IsMarked others i ↔ (LeadsToMarked next ends i → ⊥)
none_lead n next ends lead others long leads is i l =
    both_ways (subst (λ (b : Bool). (b ≡ true) ↔ (IsMarked lead i → ⊥)) (sym (is.each i (subst (λ k. i < k) (sym long) l))) (not_marked (mark_at lead i))) (neither (leads i l))

pub at_place : (n : ℕ) (graph : Graph) (i : ℕ) (s : Vector) (c : ℕ) → (place_at n graph i).state ≡ s → (place_at n graph i).context ≡ c → place_at n graph i ≡ record { state = s; context = c }
at_place n graph i s c e f = λ k. record { state = e k; context = f k }

module _ (task : Task) (plan : Plan) (graph : Graph) (g : IsGraphIn task plan graph) where
  abbrev n : ℕ
  n = fluent_count task

  abbrev sys : System
  sys = system_of task

  abbrev plain : PlainPlan
  plain = plain_of plan

  module _ (marks : List Bool) (P : Configuration → Type 0) (meaning : (i : ℕ) → i < graph_size graph → IsMarked marks i ↔ P (place_at n graph i)) where
    -- a configuration with the property that the plan may reach is that of a number with a mark
    marked_place : (x : Configuration) → IsReachedBy sys plain x → P x → IsMarkedPlace n graph marks x
    marked_place x r p =
        let at = node_of sys plain (plain_graph n graph) g x r in
        let is = at.1.is in
        record { number = at.0; below = at.1.below; marked = (meaning at.0 at.1.below).1 (subst P (sym is) p); place = is }

    pub none_reached : ((i : ℕ) → IsMarked marks i → ⊥) → NoneReached sys plain P
    none_reached none x r p = let m = marked_place x r p in none m.number m.marked

  -- a number has a mark where its configuration is that of one
  pub marked_meaning : (marks : List Bool) (i : ℕ) → i < graph_size graph → IsMarked marks i ↔ IsMarkedPlace n graph marks (place_at n graph i)
  marked_meaning marks i l = (
    (λ m. record { number = i; below = l; marked = m; place = refl }),
    (λ p. subst (IsMarked marks) (g.once p.number i p.below l p.place) p.marked),
  )

  -- the plan ends where nothing follows
  pub end_meaning : (i : ℕ) → i < graph_size graph → (followers_at graph i ≡ []) ↔ IsEnd sys plain (place_at n graph i)
  end_meaning i l = (
    (λ none y goes. let at = step_to sys plain (plain_graph n graph) g i y l goes in none_in at.0 (subst (λ xs. Contains xs at.0) none at.2)),
    (λ end. go end (followers_at graph i) refl),
  )
    where
      none_in : (j : ℕ) → Contains [] j → ⊥
      none_in j (k, below, is) = omega arith

      go : IsEnd sys plain (place_at n graph i) → (xs : List ℕ) → followers_at graph i ≡ xs → xs ≡ []
      go end [] e = refl
      go end (j ∷ xs) e =
          let c : Contains (followers_at graph i) j = subst (λ ys. Contains ys j) (sym e) (0, omega arith, refl) in
          absurd (end (place_at n graph j) (step_goes sys plain (plain_graph n graph) g i j l c))

  -- walks to marked numbers are paths to configurations with a property
  pub leads_meaning : (ends : List Bool) (P : Configuration → Type 0) → ((i : ℕ) → i < graph_size graph → IsMarked ends i ↔ P (place_at n graph i))
      → (i : ℕ) → i < graph_size graph → LeadsToMarked (followers_at graph) ends i ↔ LeadsTo sys plain P (place_at n graph i)
  leads_meaning ends P meaning i l = (
    (λ x.
        let e = last_number i x.rest in
        let below = last_below (graph_size graph) (followers_at graph) g.next_below i x.rest l x.walk in
        record {
          rest = map (place_at n graph) x.rest;
          path = path_of sys plain (plain_graph n graph) g i x.rest l x.walk;
          ends = subst P (sym (last_place (place_at n graph) i x.rest)) ((meaning e below).0 x.ends);
        }),
    (λ x.
        let w = walk_of sys plain (plain_graph n graph) g i x.rest l x.path in
        let e = last_number i w.numbers in
        let below = last_below (graph_size graph) (followers_at graph) g.next_below i w.numbers l w.walk in
        let at = end_of_walk sys plain (plain_graph n graph) g i x.rest w in
        record { rest = w.numbers; walk = w.walk; ends = (meaning e below).1 (subst P (sym at) x.ends) }),
  )

  pub endless_meaning : (ends : List Bool) → ((i : ℕ) → i < graph_size graph → IsMarked ends i ↔ (followers_at graph i ≡ []))
      → (i : ℕ) → i < graph_size graph → (LeadsToMarked (followers_at graph) ends i → ⊥) ↔ IsEndless sys plain (place_at n graph i)
  endless_meaning ends marked i l = neither (leads_meaning ends (IsEnd sys plain) (λ j b. both_ways (marked j b) (end_meaning j b)) i l)

  -- an end inside or outside the goal
  module _ (goal : Cond) (is : task.goal ≡ Some goal) where
    outside_states : (i : ℕ) → is_goal_at n goal graph i ≡ false → Contains (goal_states sys) (state_at n graph i) → ⊥
    outside_states i e c =
        false≢true (sym e ∙ (states_where_holds task goal (state_at n graph i) (subst (λ ss. Contains ss (state_at n graph i)) (goal_states_of task goal is) c)).1)

    goal_inside : (i : ℕ) → i < graph_size graph → is_goal_at n goal graph i ≡ true → Contains (goal_states sys) (state_at n graph i)
    goal_inside i l e =
        let here = reached_state sys plain ((plain_graph n graph).configuration i) (is_system task) (g.reached i l) in
        subst (λ ss. Contains ss (state_at n graph i)) (sym (goal_states_of task goal is)) (states_where_has task goal (state_at n graph i) here.vector here.inside e)

    outside_number : (i : ℕ) → i < graph_size graph → (b : Bool) → is_goal_at n goal graph i ≡ b → (Contains (goal_states sys) (state_at n graph i) → ⊥) → b ≡ false
    outside_number i l true e h = absurd (h (goal_inside i l e))
    outside_number i l false e h = refl

    inside_number : (i : ℕ) → Contains (goal_states sys) (state_at n graph i) → is_goal_at n goal graph i ≡ true
    inside_number i c = (states_where_holds task goal (state_at n graph i) (subst (λ ss. Contains ss (state_at n graph i)) (goal_states_of task goal is) c)).1

    pub outside_meaning : (i : ℕ) → i < graph_size graph → IsNumberOutside n goal graph i ↔ IsEndOutside sys plain (place_at n graph i)
    outside_meaning i l = (
      (λ x. record { end = (end_meaning i l).0 x.end; outside = outside_states i x.outside }),
      (λ x. record { end = (end_meaning i l).1 x.end; outside = outside_number i l (is_goal_at n goal graph i) refl x.outside }),
    )

    pub inside_meaning : (i : ℕ) → i < graph_size graph → IsGoalEnd n goal graph i ↔ IsEndInside sys plain (place_at n graph i)
    inside_meaning i l = (
      (λ x. record { end = (end_meaning i l).0 x.end; inside = goal_inside i l x.inside }),
      (λ x. record { end = (end_meaning i l).1 x.end; inside = inside_number i x.inside }),
    )

    -- an initial configuration that leads to no end inside the goal
    pub lost_meaning : (ends : List Bool) → ((i : ℕ) → i < graph_size graph → IsMarked ends i ↔ IsGoalEnd n goal graph i)
        → (lost : List Bool) → ((i : ℕ) → i < graph_size graph → IsMarked lost i ↔ (LeadsToMarked (followers_at graph) ends i → ⊥))
        → (i : ℕ) → i < graph_size graph → IsMarkedStart graph lost i ↔ IsLostStart sys plain (place_at n graph i)
    lost_meaning ends marked lost never i l =
        let misses = both_ways (never i l) (neither (leads_meaning ends (IsEndInside sys plain) (λ j b. both_ways (marked j b) (inside_meaning j b)) i l)) in (
          (λ x. record { initial = (g.initial i l).0 x.initial; misses = misses.0 x.marked }),
          (λ x. record { initial = (g.initial i l).1 x.initial; marked = misses.1 x.misses }),
        )

-- the plan may reach the configuration of a number
pub marked_reached : (task : Task) (plan : Plan) (graph : Graph) (g : IsGraphIn task plan graph) (marks : List Bool) (x : Configuration)
    → IsMarkedPlace (fluent_count task) graph marks x → IsReachedBy (system_of task) (plain_of plan) x
marked_reached task plan graph g marks x m = subst (IsReachedBy (system_of task) (plain_of plan)) m.place (g.reached m.number m.below)

-- a shortest run to the configuration of a marked number shows what the marks mean
pub same_run : (task : Task) (plan : Plan) (graph : Graph) (g : IsGraphIn task plan graph) (marks : List Bool) (P : Configuration → Type 0)
    → ((i : ℕ) → i < graph_size graph → IsMarked marks i ↔ P (place_at (fluent_count task) graph i))
    → (run : PlainRun) → IsShortestRun (system_of task) (plain_of plan) (IsMarkedPlace (fluent_count task) graph marks) run → IsShortestRun (system_of task) (plain_of plan) P run
same_run task plan graph g marks P meaning run h = record {
  initial = h.initial;
  run_of = h.run_of;
  shows = let m = h.shows in subst P m.place ((meaning m.number m.below).0 m.marked);
  shortest = λ start rest initial path p. h.shortest start rest initial path (marked_place task plan graph g marks P meaning _ (reached_end start rest initial path) p);
}
  where
    reached_end : (start : Configuration) (rest : List Configuration) → IsInitial (system_of task) start → IsPath (GoesTo (system_of task) (plain_of plan)) start rest
        → IsReachedBy (system_of task) (plain_of plan) (last_of start rest)
    reached_end start rest initial path =
        path_keeps (GoesTo (system_of task) (plain_of plan)) (IsReachedBy (system_of task) (plain_of plan)) (reached_next (system_of task) (plain_of plan)) start rest (reached_first (system_of task) (plain_of plan) start initial) path

-- what a search for a marked number found, or didn't find, where the marks are those of a property
module _ (task : Task) (plan : Plan) (graph : Graph) (g : IsGraphIn task plan graph) (made : List Bool) (P : Configuration → Type 0)
    (meaning : (i : ℕ) → i < graph_size graph → IsMarked made i ↔ P (place_at (fluent_count task) graph i)) (seen : List Bool) (same : seen ≡ made) where
  seen_meaning : (i : ℕ) → i < graph_size graph → IsMarked seen i ↔ P (place_at (fluent_count task) graph i)
  seen_meaning = subst (λ (ms : List Bool). (i : ℕ) → i < graph_size graph → IsMarked ms i ↔ P (place_at (fluent_count task) graph i)) (sym same) meaning

  pub shown : {E : Type 0} (r : Result (Option Run) E) → IfOk r (λ o. IfSome o (λ run. IsShortestRun (system_of task) (plain_of plan) (IsMarkedPlace (fluent_count task) graph seen) (run_value (fluent_count task) run)))
      → IfOk r (λ o. IfSome o (λ run. IsShortestRun (system_of task) (plain_of plan) P (run_value (fluent_count task) run)))
  shown r h = if_found r _ _ (λ run. same_run task plan graph g seen P seen_meaning (run_value (fluent_count task) run)) h

  pub missing : {E : Type 0} (r : Result (Option Run) E) → IfOk r (λ o. IfNone o ((i : ℕ) → IsMarked seen i → ⊥)) → IfOk r (λ o. IfNone o (NoneReached (system_of task) (plain_of plan) P))
  missing r h = if_none r _ _ (λ none. none_reached task plan graph g seen P seen_meaning none) h
