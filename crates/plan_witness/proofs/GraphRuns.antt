-- The walks of a plan's graph are the paths of the plan, and the runs along them.
use Rattle.std.proofs.Common.{◌≡◌, ◌↔◌, ℕ, ◌<◌, Bool, false, List, [], ◌∷◌, ◌++◌, length, map, get_or, refl, sym, ap, ◌∙◌, subst, arith}
use Rattle.std.specs.List.{Contains}
use Rattle.std.proofs.lemmas.List.{length-map, map-append}
use Rattle.task_core.specs.Systems.{System}
use Rattle.task_core.specs.ContextPlans.{Configuration, IsInitial}
use Rattle.task_core.specs.Paths.{IsPath, last_of}
use Rattle.task_core.proofs.Paths.{last_onward, path_onward}
use Rattle.plan_rules.specs.Rules.{PlainPlan}
use Rattle.exec_graph.specs.Executions.{GoesTo, IsReachedBy}
use Rattle.exec_graph.specs.Graphs.{IsGraphOf, PlainGraph}
use Rattle.exec_graph.proofs.Reaching.{reached_first, reached_keeps, reached_next}
use Rattle.plan_check.specs.Walks.{IsMarked, IsWalk, last_number}
use Rattle.plan_check.proofs.WalkFacts.{last_below}
use Rattle.plan_witness.specs.Lassos.{ComesBack, IsShortestRound}
use Rattle.plan_witness.specs.Marked.{IsRunAlong}
use Rattle.plan_witness.specs.Runs.{IsRunOf, IsShortestRun, IsStepOf, NoneReached, PlainRun, PlainStep, end_of}
use Rattle.plan_witness.specs.Ways.{IsOnRound, IsShortestRoundAt, IsShortestWay, NoneLeads}

-- a run ends in the last of the configurations to which its steps lead
pub ends_last : (x : Configuration) (steps : List PlainStep) → end_of x steps ≡ last_of x (map (λ (step : PlainStep). step.after) steps)
ends_last x [] = refl
ends_last x (step ∷ steps) = ends_last step.after steps

pub last_place : (place : ℕ → Configuration) (i : ℕ) (numbers : List ℕ) → last_of (place i) (map place numbers) ≡ place (last_number i numbers)
last_place place i [] = refl
last_place place i (j ∷ rest) = last_place place j rest

module _ (sys : System) (plan : PlainPlan) (place : ℕ → Configuration) where
  pub along_ends : (start : ℕ) (numbers : List ℕ) (steps : List PlainStep) → IsRunAlong sys plan place start numbers steps → end_of (place start) steps ≡ place (last_number start numbers)
  along_ends start numbers steps r = ends_last (place start) steps ∙ ap (last_of (place start)) r.places ∙ last_place place start numbers

  pub along_length : (start : ℕ) (numbers : List ℕ) (steps : List PlainStep) → IsRunAlong sys plan place start numbers steps → length steps ≡ length numbers
  along_length start numbers steps r = sym (length-map steps (λ (step : PlainStep). step.after)) ∙ ap length r.places ∙ length-map numbers place

  -- one step more at the end
  run_push : (x : Configuration) (steps : List PlainStep) (step : PlainStep) → IsRunOf sys plan x steps → IsStepOf sys plan (end_of x steps) step → IsRunOf sys plan x (steps ++ step ∷ [])
  run_push x [] step r s = (s, tt)
  run_push x (first ∷ steps) step r s = (r.0, run_push first.after steps step r.1 s)

  pub along_more : (start : ℕ) (numbers : List ℕ) (steps : List PlainStep) (number : ℕ) (step : PlainStep) → IsRunAlong sys plan place start numbers steps
      → IsStepOf sys plan (place (last_number start numbers)) step → step.after ≡ place number → IsRunAlong sys plan place start (numbers ++ number ∷ []) (steps ++ step ∷ [])
  along_more start numbers steps number step r s after = record {
    run_of = run_push (place start) steps step r.run_of (subst (λ x. IsStepOf sys plan x step) (sym (along_ends start numbers steps r)) s);
    places =
        map-append (λ (t : PlainStep). t.after) steps (step ∷ [])
        ∙ ap (λ xs. xs ++ step.after ∷ []) r.places
        ∙ ap (λ x. map place numbers ++ x ∷ []) after
        ∙ sym (map-append place numbers (number ∷ []));
  }

module _ (sys : System) (plan : PlainPlan) (graph : PlainGraph) (h : IsGraphOf sys plan graph) where
  abbrev place : ℕ → Configuration
  place = graph.configuration

  -- one step
  pub step_goes : (i j : ℕ) → i < graph.size → Contains (graph.next i) j → GoesTo sys plan (place i) (place j)
  step_goes i j l c = (h.next i j l (h.next_below i j l c)).0 c

  pub record IsNodeOf (x : Configuration) (i : ℕ) : Type 0 where
    pub below : i < graph.size
    pub is : place i ≡ x

  pub node_of : (x : Configuration) → IsReachedBy sys plan x → (i : ℕ) × IsNodeOf x i
  node_of x r = let n = h.listed x r in (n.number, record { below = n.below; is = n.is })

  pub step_to : (i : ℕ) (y : Configuration) → i < graph.size → GoesTo sys plan (place i) y → (j : ℕ) × IsNodeOf y j × Contains (graph.next i) j
  step_to i y l goes =
      let at = node_of y (reached_next sys plan (place i) y (h.reached i l) goes) in
      let is = at.1.is in
      (at.0, at.1, (h.next i at.0 l at.1.below).1 (subst (GoesTo sys plan (place i)) (sym is) goes))

  -- walks are paths
  pub path_of : (i : ℕ) (rest : List ℕ) → i < graph.size → IsWalk graph.next i rest → IsPath (GoesTo sys plan) (place i) (map place rest)
  path_of i [] l w = tt
  path_of i (j ∷ rest) l w = (step_goes i j l w.0, path_of j rest (h.next_below i j l w.0) w.1)

  -- paths are walks
  pub record IsWalkOf (i : ℕ) (rest : List Configuration) : Type 0 where
    pub numbers : List ℕ
    pub walk : IsWalk graph.next i numbers
    pub places : map place numbers ≡ rest

  pub walk_of : (i : ℕ) (rest : List Configuration) → i < graph.size → IsPath (GoesTo sys plan) (place i) rest → IsWalkOf i rest
  walk_of i [] l p = record { numbers = []; walk = tt; places = refl }
  walk_of i (y ∷ rest) l p =
      let at = step_to i y l p.0 in
      let j = at.0 in
      let is = at.1.is in
      let more = walk_of j rest at.1.below (subst (λ x. IsPath (GoesTo sys plan) x rest) (sym is) p.1) in
      record { numbers = j ∷ more.numbers; walk = (at.2, more.walk); places = ap (λ x. x ∷ map place more.numbers) is ∙ ap (λ xs. y ∷ xs) more.places }

  pub length_walk : (i : ℕ) (rest : List Configuration) (w : IsWalkOf i rest) → length w.numbers ≡ length rest
  length_walk i rest w = sym (length-map w.numbers place) ∙ ap length w.places

  pub end_of_walk : (i : ℕ) (rest : List Configuration) (w : IsWalkOf i rest) → place (last_number i w.numbers) ≡ last_of (place i) rest
  end_of_walk i rest w = sym (last_place place i w.numbers) ∙ ap (last_of (place i)) w.places

  -- a configuration that is reached is the end of a path from an initial one
  record IsPathTo (x : Configuration) : Type 0 where
    start : Configuration
    initial : IsInitial sys start
    rest : List Configuration
    path : IsPath (GoesTo sys plan) start rest
    ends : last_of start rest ≡ x

  path_to : (x : Configuration) → IsReachedBy sys plan x → IsPathTo x
  path_to =
      reached_keeps sys IsPathTo plan
      (λ x first. record { start = x; initial = first; rest = []; path = tt; ends = refl })
      (λ x y p goes. record {
        start = p.start;
        initial = p.initial;
        rest = p.rest ++ y ∷ [];
        path = path_onward (GoesTo sys plan) p.start p.rest y p.path (subst (λ z. GoesTo sys plan z y) (sym p.ends) goes);
        ends = last_onward p.start p.rest y;
      })

  pub begins_initial : (starts : List Bool) → ((i : ℕ) → i < graph.size → get_or starts i false ≡ graph.initial i) → (i : ℕ) → i < graph.size → IsMarked starts i → IsInitial sys (place i)
  begins_initial starts marks i l m = (h.initial i l).0 (sym (marks i l) ∙ m)

  module _ (starts : List Bool) (marks : (i : ℕ) → i < graph.size → get_or starts i false ≡ graph.initial i) (P : Configuration → Type 0) (Q : ℕ → Type 0)
      (meaning : (i : ℕ) → i < graph.size → Q i ↔ P (place i)) where
    start_of : (x : Configuration) → IsInitial sys x → (i : ℕ) × IsNodeOf x i × IsMarked starts i
    start_of x initial =
        let at = node_of x (reached_first sys plan x initial) in
        let is = at.1.is in
        (at.0, at.1, marks at.0 at.1.below ∙ (h.initial at.0 at.1.below).1 (subst (IsInitial sys) (sym is) initial))

    -- a path from an initial configuration, as a walk
    walk_from : (start : Configuration) (rest : List Configuration) → IsInitial sys start → IsPath (GoesTo sys plan) start rest → P (last_of start rest)
        → (i : ℕ) × (numbers : List ℕ) × IsMarked starts i × IsWalk graph.next i numbers × Q (last_number i numbers) × (length numbers ≡ length rest)
    walk_from start rest initial path p =
        let from = start_of start initial in
        let i = from.0 in
        let l = from.1.below in
        let is = from.1.is in
        let w = walk_of i rest l (subst (λ x. IsPath (GoesTo sys plan) x rest) (sym is) path) in
        let ends : place (last_number i w.numbers) ≡ last_of start rest = end_of_walk i rest w ∙ ap (λ x. last_of x rest) is in
        (i, w.numbers, from.2, w.walk, (meaning (last_number i w.numbers) (last_below graph.size graph.next h.next_below i w.numbers l w.walk)).1 (subst P (sym ends) p), length_walk i rest w)

    pub shortest_along : (start : ℕ) (numbers : List ℕ) → start < graph.size → IsShortestWay graph.next starts Q start numbers
        → (run : PlainRun) → run.start ≡ place start → IsRunAlong sys plan place start numbers run.steps → IsShortestRun sys plan P run
    shortest_along start numbers l way run begins along = record {
      initial = subst (IsInitial sys) (sym begins) (begins_initial starts marks start l way.begins);
      run_of = subst (λ x. IsRunOf sys plan x run.steps) (sym begins) along.run_of;
      shows = subst P (sym (ap (λ x. end_of x run.steps) begins ∙ along_ends sys plan place start numbers run.steps along)) ((meaning (last_number start numbers) (last_below graph.size graph.next h.next_below start numbers l way.walk)).0 way.shows);
      shortest = λ from rest initial path p.
          let w = walk_from from rest initial path p in
          let least = way.least w.0 w.1 w.2 w.3 w.4 in
          let same = along_length sys plan place start numbers run.steps along in
          let long = w.5 in
          omega (arith, least, same, long);
    }

    pub none_along : NoneLeads graph.next starts Q → NoneReached sys plan P
    none_along none x r p =
        let path = path_to x r in
        let w = walk_from path.start path.rest path.initial path.path (subst P (sym path.ends) p) in
        none w.0 w.1 w.2 w.3 w.4

  -- walks that come round
  pub round_meaning : (i : ℕ) → i < graph.size → IsOnRound graph.next i ↔ ComesBack sys plan (place i)
  round_meaning i l = (
    (λ r. record {
      next = place r.follower;
      rest = map place r.rest;
      path = path_of i (r.follower ∷ r.rest) l r.walk;
      round = last_place place r.follower r.rest ∙ ap place r.round;
    }),
    (λ c.
        let at = step_to i c.next l c.path.0 in
        let j = at.0 in
        let is = at.1.is in
        let w = walk_of j c.rest at.1.below (subst (λ x. IsPath (GoesTo sys plan) x c.rest) (sym is) c.path.1) in
        let ends : place (last_number j w.numbers) ≡ place i = end_of_walk j c.rest w ∙ ap (λ x. last_of x c.rest) is ∙ c.round in
        record {
          follower = j;
          rest = w.numbers;
          walk = (at.2, w.walk);
          round = h.once (last_number j w.numbers) i (last_below graph.size graph.next h.next_below j w.numbers at.1.below w.walk) l ends;
        }),
  )

  pub round_along : (i start : ℕ) (numbers : List ℕ) → i < graph.size → IsShortestRoundAt graph.next i start numbers → (first : PlainStep) (steps : List PlainStep)
      → IsStepOf sys plan (place i) first → first.after ≡ place start → IsRunAlong sys plan place start numbers steps → IsShortestRound sys plan (place i) (first ∷ steps)
  round_along i start numbers l r first steps step after along = record {
    run_of = (step, subst (λ x. IsRunOf sys plan x steps) (sym after) along.run_of);
    round = ap (λ x. end_of x steps) after ∙ along_ends sys plan place start numbers steps along ∙ ap place r.round;
    first = first;
    others = steps;
    some = refl;
    shortest = λ next rest path round.
        let at = step_to i next l path.0 in
        let j = at.0 in
        let is = at.1.is in
        let w = walk_of j rest at.1.below (subst (λ x. IsPath (GoesTo sys plan) x rest) (sym is) path.1) in
        let ends : place (last_number j w.numbers) ≡ place i = end_of_walk j rest w ∙ ap (λ x. last_of x rest) is ∙ round in
        let least = r.least j w.numbers (at.2, w.walk) (h.once (last_number j w.numbers) i (last_below graph.size graph.next h.next_below j w.numbers at.1.below w.walk) l ends) in
        let long = length_walk j rest w in
        let same = along_length sys plan place start numbers steps along in
        omega (arith, least, long, same);
  }
