-- The longest walk of a plan's graph is its longest run.
use Rattle.std.proofs.Common.{◌≡◌, ◌≤◌, ℕ, List, [], ◌∷◌, ◌++◌, length, map, refl, sym, ap, ◌∙◌, subst, arith}
use Rattle.std.specs.List.{Contains}
use Rattle.std.proofs.lemmas.List.{length-append, length-map}
use Rattle.task_core.specs.ContextPlans.{Configuration, IsInitial}
use Rattle.task_core.specs.Paths.{IsPath}
use Rattle.task_core.specs.States.{vector}
use Rattle.task_core.specs.Systems.{System}
use Rattle.task_core.specs.Tasks.{fluent_count, system_of}
use Rattle.task_core.specs.declared.tasks.Task.{Task}
use Rattle.plan_rules.specs.Rules.{PlainPlan, plain_of}
use Rattle.plan_rules.specs.declared.rules.Plan.{Plan}
use Rattle.exec_graph.proofs.Reaching.{reached_first}
use Rattle.exec_graph.specs.Executions.{GoesTo, IsReachedBy}
use Rattle.exec_graph.specs.Values.{followers_at, graph_size, plain_graph, state_at}
use Rattle.exec_graph.specs.declared.graphs.Graph.{Graph}
use Rattle.plan_check.specs.Walks.{last_number}
use Rattle.plan_check.proofs.WalkFacts.{last_below, walk_append}
use Rattle.plan_witness.specs.Ends.{IsEnd}
use Rattle.plan_witness.specs.Heights.{AreHeights, HasNoStart, HasWalksWithin, IsHighestStart, IsWayDown}
use Rattle.plan_witness.specs.Longest.{HasPathsWithin, IsLongestRun}
use Rattle.plan_witness.specs.Marked.{IsGraphIn, IsRunAlong, place_at}
use Rattle.plan_witness.specs.Runs.{IsRunOf, PlainStep, end_of}
use Rattle.plan_witness.specs.Values.{run_value, steps_value}
use Rattle.plan_witness.specs.Ways.{at}
use Rattle.plan_witness.specs.declared.runs.Run.{Run}
use Rattle.plan_witness.proofs.GraphRuns.{along_ends, along_length, length_walk, node_of, path_of, walk_of}
use Rattle.plan_witness.proofs.Meanings.{end_meaning}
use Rattle.plan_witness.proofs.Tall.{walk_low}

module _ (task : Task) (plan : Plan) (graph : Graph) (g : IsGraphIn task plan graph) where
  abbrev n : ℕ
  n = fluent_count task

  abbrev sys : System
  sys = system_of task

  abbrev plain : PlainPlan
  plain = plain_of plan

  pub walks_within : (bound : ℕ) → HasPathsWithin sys plain bound → HasWalksWithin (graph_size graph) (followers_at graph) bound
  walks_within bound within i rest l w =
      let m = within (place_at n graph i) (map (place_at n graph) rest) (g.reached i l) (path_of sys plain (plain_graph n graph) g i rest l w) in
      let e = length-map rest (place_at n graph) in
      omega (arith, m, e)

  pub no_start : HasNoStart graph (graph_size graph) → (x : Configuration) → IsInitial sys x → ⊥
  no_start none x initial =
      let at = node_of sys plain (plain_graph n graph) g x (reached_first sys plain x initial) in
      let is = at.1.is in
      none at.0 at.1.below ((g.initial at.0 at.1.below).1 (subst (IsInitial sys) (sym is) initial))

  module _ (heights : List ℕ) (h : AreHeights (graph_size graph) (followers_at graph) heights) (start : ℕ) (s : IsHighestStart graph heights (graph_size graph) start) where
    begins : (run : Run) → vector n run.start ≡ state_at n graph start → (run_value n run).start ≡ place_at n graph start
    begins run e =
        let first = ((g.initial start s.below).0 s.initial).context in
        λ k. record { state = e k; context = sym first k }

    -- none follows the end of a longest walk
    ends_walk : (numbers : List ℕ) → IsWayDown (followers_at graph) start numbers (at heights start) → followers_at graph (last_number start numbers) ≡ []
    ends_walk numbers down = none (followers_at graph (last_number start numbers)) (λ j c. not_longer j c)
      where
        none : (xs : List ℕ) → ((j : ℕ) → Contains xs j → ⊥) → xs ≡ []
        none [] never = refl
        none (x ∷ xs) never = absurd (never x (0, omega arith, refl))

        not_longer : (j : ℕ) → Contains (followers_at graph (last_number start numbers)) j → ⊥
        not_longer j c =
            let walk = walk_append (followers_at graph) start numbers (j ∷ []) down.walk (c, tt) in
            let low = walk_low (graph_size graph) (followers_at graph) g.next_below heights h start (numbers ++ j ∷ []) s.below walk in
            let more = length-append numbers (j ∷ []) in
            let long = down.long in
            omega (arith, low, more, long)

    pub within_it : (bound : ℕ) (numbers : List ℕ) (steps : List PlainStep) → HasWalksWithin (graph_size graph) (followers_at graph) bound → IsWayDown (followers_at graph) start numbers (at heights start)
        → IsRunAlong sys plain (place_at n graph) start numbers steps → length steps ≤ bound
    within_it bound numbers steps within down along =
        let most = within start numbers s.below down.walk in
        let same = along_length sys plain (place_at n graph) start numbers steps along in
        omega (arith, most, same)

    pub reached_down : (numbers : List ℕ) (run : Run) → IsWayDown (followers_at graph) start numbers (at heights start) → vector n run.start ≡ state_at n graph start
        → IsRunAlong sys plain (place_at n graph) start numbers (steps_value n run.steps.items) → IsReachedBy sys plain (end_of (run_value n run).start (run_value n run).steps)
    reached_down numbers run down e along =
        let last = last_below (graph_size graph) (followers_at graph) g.next_below start numbers s.below down.walk in
        subst (IsReachedBy sys plain) (sym (ap (λ x. end_of x (steps_value n run.steps.items)) (begins run e) ∙ along_ends sys plain (place_at n graph) start numbers (steps_value n run.steps.items) along))
        (g.reached (last_number start numbers) last)

    pub longest_down : (numbers : List ℕ) (run : Run) → IsWayDown (followers_at graph) start numbers (at heights start) → vector n run.start ≡ state_at n graph start
        → IsRunAlong sys plain (place_at n graph) start numbers (steps_value n run.steps.items) → IsLongestRun sys plain (run_value n run)
    longest_down numbers run down e along =
        let b = begins run e in
        record {
          initial = subst (IsInitial sys) (sym b) ((g.initial start s.below).0 s.initial);
          run_of = subst (λ x. IsRunOf sys plain x (steps_value n run.steps.items)) (sym b) along.run_of;
          end =
              subst (IsEnd sys plain) (sym (ap (λ x. end_of x (steps_value n run.steps.items)) b ∙ along_ends sys plain (place_at n graph) start numbers (steps_value n run.steps.items) along))
              ((end_meaning task plan graph g (last_number start numbers) (last_below (graph_size graph) (followers_at graph) g.next_below start numbers s.below down.walk)).0 (ends_walk numbers down));
          longest = λ from rest initial path.
              let at = node_of sys plain (plain_graph n graph) g from (reached_first sys plain from initial) in
              let is = at.1.is in
              let w = walk_of sys plain (plain_graph n graph) g at.0 rest at.1.below (subst (λ x. IsPath (GoesTo sys plain) x rest) (sym is) path) in
              let low = walk_low (graph_size graph) (followers_at graph) g.next_below heights h at.0 w.numbers at.1.below w.walk in
              let high = s.highest at.0 at.1.below ((g.initial at.0 at.1.below).1 (subst (IsInitial sys) (sym is) initial)) in
              let long = length_walk sys plain (plain_graph n graph) g at.0 rest w in
              let same = along_length sys plain (place_at n graph) start numbers (steps_value n run.steps.items) along in
              let steps = down.long in
              omega (arith, low, high, long, same, steps);
        }
