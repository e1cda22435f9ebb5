-- Runs along the ways that were found.
use Rattle.std.proofs.Common.{◌≡◌, ◌↔◌, ℕ, suc, ◌<◌, ◌+◌, Bool, false, List, [], ◌∷◌, ◌++◌, length, take, get_or, nat_lt, refl, sym, ap, ◌∙◌, subst, arith}
use Rattle.std.specs.List.{Contains}
use Rattle.std.proofs.lemmas.Grind.{get_or_default_zero}
use Rattle.std.proofs.lemmas.List.{take_more, map-append}
use Rattle.task_core.specs.ContextPlans.{Configuration}
use Rattle.task_core.specs.States.{vector}
use Rattle.task_core.specs.Systems.{System}
use Rattle.task_core.specs.Tasks.{fluent_count, system_of}
use Rattle.task_core.specs.Vectors.{Vector}
use Rattle.task_core.specs.declared.tasks.Task.{Task}
use Rattle.plan_rules.specs.Rules.{plain_of, PlainPlan}
use Rattle.plan_rules.specs.declared.rules.Plan.{Plan}
use Rattle.exec_graph.specs.Executions.{GoesTo}
use Rattle.exec_graph.specs.Values.{followers_at, graph_size, plain_graph, state_at}
use Rattle.exec_graph.specs.declared.graphs.Graph.{Graph}
use Rattle.plan_check.specs.Walks.{IsMarked, IsWalk, last_number}
use Rattle.plan_check.proofs.MarkFacts.{marked_below}
use Rattle.plan_check.proofs.WalkFacts.{last_below}
use Rattle.plan_witness.specs.Lassos.{ComesBack, IsShortestRound}
use Rattle.plan_witness.specs.Marked.{IsGraphIn, IsMarkedPlace, IsRoundAlong, IsRunAlong, place_at}
use Rattle.plan_witness.specs.Runs.{IsShortestRun, IsStepOf, NoneReached, PlainStep, end_of}
use Rattle.plan_witness.specs.Values.{run_value, step_value, steps_value}
use Rattle.plan_witness.specs.Ways.{IsOnRound, IsShortestRoundAt, IsShortestWay, NoneLeads}
use Rattle.plan_witness.specs.declared.runs.Run.{Run}
use Rattle.plan_witness.specs.declared.runs.RunStep.{RunStep}
use Rattle.plan_witness.proofs.GraphRuns.{along_ends, along_more, begins_initial, none_along, round_along, round_meaning, shortest_along, step_goes}
use Rattle.plan_witness.proofs.Meanings.{at_place, marked_meaning}
use Rattle.plan_witness.proofs.Walks.{last_at, walk_at}

module _ (task : Task) (plan : Plan) (graph : Graph) (g : IsGraphIn task plan graph) (made seen : List Bool) (same : seen ≡ made) (count : length made ≡ graph_size graph)
    (marks : (i : ℕ) → i < graph_size graph → get_or made i false ≡ nat_lt i graph.initials) where
  abbrev n : ℕ
  n = fluent_count task

  abbrev sys : System
  sys = system_of task

  abbrev plain : PlainPlan
  plain = plain_of plan

  seen_marks : (i : ℕ) → i < graph_size graph → get_or seen i false ≡ nat_lt i graph.initials
  seen_marks i l = ap (λ xs. get_or xs i false) same ∙ marks i l

  pub start_below : (i : ℕ) → IsMarked seen i → i < graph_size graph
  start_below i m = subst (λ k. i < k) (ap length same ∙ count) (marked_below seen i m)

  begins_at : (start : ℕ) (run : Run) → start < graph_size graph → IsMarked seen start → vector n run.start ≡ state_at n graph start → (run_value n run).start ≡ place_at n graph start
  begins_at start run l m e =
      let first = (begins_initial sys plain (plain_graph n graph) g seen seen_marks start l m).context in
      λ k. record { state = e k; context = sym first k }

  module _ (P : Configuration → Type 0) (Q : ℕ → Type 0) (meaning : (i : ℕ) → i < graph_size graph → Q i ↔ P (place_at n graph i)) where
    pub run_found : (start : ℕ) (numbers : List ℕ) (run : Run) → IsShortestWay (followers_at graph) seen Q start numbers → vector n run.start ≡ state_at n graph start
        → IsRunAlong sys plain (place_at n graph) start numbers (steps_value n run.steps.items) → IsShortestRun sys plain P (run_value n run)
    run_found start numbers run way e along =
        let l = start_below start way.begins in
        shortest_along sys plain (plain_graph n graph) g seen seen_marks P Q meaning start numbers l way (run_value n run) (begins_at start run l way.begins e) along

    pub none_found : NoneLeads (followers_at graph) seen Q → NoneReached sys plain P
    none_found none = none_along sys plain (plain_graph n graph) g seen seen_marks P Q meaning none

  pub marked_run : (ends : List Bool) (start : ℕ) (numbers : List ℕ) (run : Run) → IsShortestWay (followers_at graph) seen (IsMarked ends) start numbers → vector n run.start ≡ state_at n graph start
      → IsRunAlong sys plain (place_at n graph) start numbers (steps_value n run.steps.items) → IsShortestRun sys plain (IsMarkedPlace n graph ends) (run_value n run)
  marked_run ends = run_found (IsMarkedPlace n graph ends) (IsMarked ends) (marked_meaning task plan graph g ends)

  pub marked_none : (ends : List Bool) → length ends ≡ graph_size graph → NoneLeads (followers_at graph) seen (IsMarked ends) → (i : ℕ) → IsMarked ends i → ⊥
  marked_none ends long none i m =
      let l : i < graph_size graph = subst (λ k. i < k) long (marked_below ends i m) in
      none_found (IsMarkedPlace n graph ends) (IsMarked ends) (marked_meaning task plan graph g ends) none (place_at n graph i) (g.reached i l) (record { number = i; below = l; marked = m; place = refl })

  -- a shortest run that comes back, and the run back
  pub stem_found : (start : ℕ) (numbers : List ℕ) (run : Run) → IsShortestWay (followers_at graph) seen (IsOnRound (followers_at graph)) start numbers → vector n run.start ≡ state_at n graph start
      → IsRunAlong sys plain (place_at n graph) start numbers (steps_value n run.steps.items) → IsShortestRun sys plain (ComesBack sys plain) (run_value n run)
  stem_found = run_found (ComesBack sys plain) (IsOnRound (followers_at graph)) (round_meaning sys plain (plain_graph n graph) g)

  pub stem_none : NoneLeads (followers_at graph) seen (IsOnRound (followers_at graph)) → NoneReached sys plain (ComesBack sys plain)
  stem_none = none_found (ComesBack sys plain) (IsOnRound (followers_at graph)) (round_meaning sys plain (plain_graph n graph) g)

  pub way_below : (Q : ℕ → Type 0) (start end : ℕ) (numbers : List ℕ) → IsShortestWay (followers_at graph) seen Q start numbers → last_number start numbers ≡ end → end < graph_size graph
  way_below Q start end numbers way is = subst (λ k. k < graph_size graph) is (last_below (graph_size graph) (followers_at graph) g.next_below start numbers (start_below start way.begins) way.walk)

  pub round_found : (start end : ℕ) (numbers : List ℕ) (run : Run) (back : ℕ) (backs : List ℕ) (steps : List PlainStep)
      → IsShortestWay (followers_at graph) seen (IsOnRound (followers_at graph)) start numbers → last_number start numbers ≡ end → vector n run.start ≡ state_at n graph start
      → IsRunAlong sys plain (place_at n graph) start numbers (steps_value n run.steps.items) → IsShortestRoundAt (followers_at graph) end back backs
      → IsRoundAlong sys plain (place_at n graph) end back backs steps
      → IsShortestRound sys plain (end_of (run_value n run).start (run_value n run).steps) steps
  round_found start end numbers run back backs steps way is e along round r =
      let l = start_below start way.begins in
      let ends : end_of (run_value n run).start (run_value n run).steps ≡ place_at n graph end =
      ap (λ x. end_of x (run_value n run).steps) (begins_at start run l way.begins e) ∙ along_ends sys plain (place_at n graph) start numbers (steps_value n run.steps.items) along ∙ ap (place_at n graph) is in
      subst (λ x. IsShortestRound sys plain x steps) (sym ends)
      (subst (IsShortestRound sys plain (place_at n graph end)) (sym r.is)
      (round_along sys plain (plain_graph n graph) g end back backs (way_below (IsOnRound (followers_at graph)) start end numbers way is) round r.first r.others r.step r.after r.along))

-- the next step along a way
pub walk_step : (next : ℕ → List ℕ) (start : ℕ) (numbers : List ℕ) (k from number : ℕ) → IsWalk next start numbers → k < length numbers → from ≡ last_number start (take k numbers) → number ≡ get_or numbers k number
    → Contains (next from) number
walk_step next start numbers k from number walk l last is =
    let c = walk_at next start numbers walk k l in
    let at : get_or numbers k 0 ≡ number = sym (get_or_default_zero numbers k number l) ∙ sym is in
    subst (λ i. Contains (next i) number) (sym last) (subst (Contains (next (last_number start (take k numbers)))) at c)

pub last_step : (start : ℕ) (numbers : List ℕ) (k number : ℕ) → k < length numbers → number ≡ get_or numbers k number → number ≡ last_number start (take (k + 1) numbers)
last_step start numbers k number l is =
    let more : k + 1 ≡ suc k = omega arith in
    is ∙ get_or_default_zero numbers k number l ∙ sym (last_at start numbers k l) ∙ ap (λ m. last_number start (take m numbers)) (sym more)

pub along_step : (sys : System) (plan : PlainPlan) (place : ℕ → Configuration) (n start : ℕ) (numbers : List ℕ) (k from number : ℕ) (steps : List RunStep) (step : RunStep) → k < length numbers
    → number ≡ get_or numbers k number → from ≡ last_number start (take k numbers) → IsRunAlong sys plan place start (take k numbers) (steps_value n steps)
    → IsStepOf sys plan (place from) (step_value n step) → (step_value n step).after ≡ place number
    → IsRunAlong sys plan place start (take (k + 1) numbers) (steps_value n (steps ++ step ∷ []))
along_step sys plan place n start numbers k from number steps step l is last along s after =
    let more = along_more sys plan place start (take k numbers) (steps_value n steps) number (step_value n step) along (subst (λ i. IsStepOf sys plan (place i) (step_value n step)) last s) after in
    let grown : take (k + 1) numbers ≡ take k numbers ++ number ∷ [] = take_more numbers k number l ∙ ap (λ x. take k numbers ++ x ∷ []) (sym is) in
    subst (λ xs. IsRunAlong sys plan place start xs (steps_value n (steps ++ step ∷ []))) (sym grown)
    (subst (IsRunAlong sys plan place start (take k numbers ++ number ∷ [])) (sym (map-append (step_value n) steps (step ∷ []))) more)

pub along_nothing : (sys : System) (plan : PlainPlan) (place : ℕ → Configuration) (start : ℕ) → IsRunAlong sys plan place start [] []
along_nothing _ plan place start = record { run_of = tt; places = refl }

pub goes_between : (task : Task) (plan : Plan) (graph : Graph) (g : IsGraphIn task plan graph) (i j : ℕ) (s t : Vector) (c d : ℕ) → i < graph_size graph → Contains (followers_at graph i) j
    → (place_at (fluent_count task) graph i).state ≡ s → (place_at (fluent_count task) graph i).context ≡ c → (place_at (fluent_count task) graph j).state ≡ t → (place_at (fluent_count task) graph j).context ≡ d
    → GoesTo (system_of task) (plain_of plan) (record { state = s; context = c }) (record { state = t; context = d })
goes_between task plan graph g i j s t c d l follows e f h k =
    let n = fluent_count task in
    let goes = step_goes (system_of task) (plain_of plan) (plain_graph n graph) g i j l follows in
    subst (λ x. GoesTo (system_of task) (plain_of plan) x (record { state = t; context = d })) (at_place n graph i s c e f)
    (subst (GoesTo (system_of task) (plain_of plan) (place_at n graph i)) (at_place n graph j t d h k) goes)
