-- Walks through a graph's numbers that lack a mark, as runs through the configurations with a property.
use Rattle.std.proofs.Common.{◌≡◌, ◌↔◌, ℕ, ◌<◌, Bool, true, List, [], ◌∷◌, length, map, sym, ap, ◌∙◌, subst, arith}
use Rattle.ctl_syntax.specs.Goals.{CtlTree}
use Rattle.ctl_syntax.specs.Truth.{Satisfies}
use Rattle.ctl_syntax.specs.Values.{NamesBelow}
use Rattle.ctl_syntax.proofs.Carried.{Lifted, carried}
use Rattle.exec_graph.specs.Executions.{GoesTo}
use Rattle.exec_graph.specs.Graphs.{PlainGraph}
use Rattle.exec_graph.specs.Values.{followers_at, plain_graph}
use Rattle.exec_graph.specs.declared.graphs.Graph.{Graph}
use Rattle.plan_check.specs.ContextVerdicts.{HoldsAt}
use Rattle.plan_check.specs.Labels.{ComesAfter, HoldsIn}
use Rattle.plan_check.specs.Walks.{IsWalk, last_number}
use Rattle.plan_check.proofs.WalkFacts.{last_below}
use Rattle.plan_rules.specs.Rules.{PlainPlan}
use Rattle.plan_witness.specs.Runs.{PlainStep}
use Rattle.plan_witness.proofs.GraphRuns.{along_ends, along_length, end_of_walk, last_place, length_walk, path_of, step_goes, step_to, walk_of}
use Rattle.task_core.specs.Conditions.{ids_below}
use Rattle.task_core.specs.ContextPlans.{Configuration}
use Rattle.task_core.specs.Paths.{IsPath, last_of}
use Rattle.task_core.specs.Systems.{System}
use Rattle.task_core.specs.Tasks.{fluent_count}
use Rattle.task_core.specs.declared.conditions.Cond.{Cond}
use Rattle.goal_witness.specs.Failures.{ComesBackThrough, EachOn, IsLassoThrough, IsShortestBack, IsShortestThrough, IsTrueIn, places}
use Rattle.goal_witness.specs.Scenes.{IsScene, place_in, plan_in, size_in, sys_in}
use Rattle.goal_witness.specs.Walks.{IsAlong, IsLassoFound, IsLeastRound, IsLeastWithout, IsRoundWithout, IsWalkWithout, Lacks}
use Rattle.plan_witness.specs.declared.scenes.Scene.{Scene}

module _ (scene : Scene) (s : IsScene scene) where
  abbrev n : ℕ
  n = fluent_count scene.task.now

  abbrev graph : Graph
  graph = scene.graph.now

  abbrev plain : PlainGraph
  plain = plain_graph n graph

  abbrev sys : System
  sys = sys_in scene

  abbrev plan : PlainPlan
  plan = plan_in scene

  abbrev place : ℕ → Configuration
  place = place_in scene

  abbrev size : ℕ
  size = size_in scene

  abbrev next : ℕ → List ℕ
  next = followers_at graph

  back_to : (i : ℕ) (y : Configuration) → i < size → GoesTo sys plan (place i) y → Lifted (ComesAfter graph) place i y
  back_to i y l goes = let to = step_to sys plan plain s.graph i y l goes in record { node = to.0; follows = to.2; is = to.1.is }

  -- truth at a number is truth at its configuration
  pub true_in : (goal : CtlTree Cond) → NamesBelow n goal → (i : ℕ) → i < size → Satisfies (ComesAfter graph) (HoldsIn n graph) goal i ↔ IsTrueIn sys plan goal (place i)
  true_in goal names i l =
      carried (ComesAfter graph) (GoesTo sys plan) place (λ i. i < size) (λ i j l c. s.graph.next_below i j l c) (λ i j l c. step_goes sys plan plain s.graph i j l c) back_to
      (HoldsIn n graph) HoldsAt (λ cond. ids_below n cond ≡ true) (λ p i k l. ((λ e. e), (λ e. e))) goal names i l

  module _ (right : List Bool) (P : Configuration → Type 0) (meaning : (i : ℕ) → i < size → Lacks right i ↔ P (place i)) where
    along_forth : (i : ℕ) (rest : List ℕ) → i < size → IsWalk next i rest → EachOn (Lacks right) i rest → EachOn P (place i) (map place rest)
    along_forth i [] l w e = (meaning i l).0 e
    along_forth i (j ∷ rest) l w e = ((meaning i l).0 e.0, along_forth j rest (s.graph.next_below i j l w.0) w.1 e.1)

    along_back : (i : ℕ) (rest : List ℕ) → i < size → IsWalk next i rest → EachOn P (place i) (map place rest) → EachOn (Lacks right) i rest
    along_back i [] l w e = (meaning i l).1 e
    along_back i (j ∷ rest) l w e = ((meaning i l).1 e.0, along_back j rest (s.graph.next_below i j l w.0) w.1 e.1)

    through_steps : (i : ℕ) (numbers : List ℕ) (steps : List PlainStep) → i < size → IsWalkWithout next right i numbers → IsAlong scene i numbers steps → EachOn P (place i) (places steps)
    through_steps i numbers steps l w along = subst (EachOn P (place i)) (sym along.places) (along_forth i numbers l w.walk w.each)

    -- a path through such configurations, as a walk
    record WalkOf (i : ℕ) (rest : List Configuration) : Type 0 where
      numbers : List ℕ
      walk : IsWalkWithout next right i numbers
      ends : place (last_number i numbers) ≡ last_of (place i) rest
      long : length numbers ≡ length rest
      below : last_number i numbers < size

    walk_through : (i : ℕ) (rest : List Configuration) → i < size → IsPath (GoesTo sys plan) (place i) rest → EachOn P (place i) rest → WalkOf i rest
    walk_through i rest l path each =
        let w = walk_of sys plan plain s.graph i rest l path in
        record {
          numbers = w.numbers;
          walk = record { walk = w.walk; each = along_back i w.numbers l w.walk (subst (EachOn P (place i)) (sym w.places) each) };
          ends = end_of_walk sys plan plain s.graph i rest w;
          long = length_walk sys plan plain s.graph i rest w;
          below = last_below size next s.graph.next_below i w.numbers l w.walk;
        }

    pub way_through : (Q : Configuration → Type 0) (E : ℕ → Type 0) → ((i : ℕ) → i < size → E i ↔ Q (place i))
        → (i : ℕ) (numbers : List ℕ) (steps : List PlainStep) → i < size → IsLeastWithout next right E i numbers → IsAlong scene i numbers steps
        → IsShortestThrough sys plan P Q (place i) steps
    way_through Q E same i numbers steps l least along = record {
      run_of = along.run_of;
      through = through_steps i numbers steps l least.walk along;
      ends = subst Q (sym (along_ends sys plan place i numbers steps along)) ((same (last_number i numbers) (last_below size next s.graph.next_below i numbers l least.walk.walk)).0 least.ends);
      shortest = λ rest path each q.
          let w = walk_through i rest l path each in
          let few = least.least w.numbers w.walk ((same (last_number i w.numbers) w.below).1 (subst Q (sym w.ends) q)) in
          let a = along_length sys plan place i numbers steps along in
          let b = w.long in
          omega (arith, few, a, b);
    }

    -- walks that come back
    pub round_through : (i : ℕ) → i < size → IsRoundWithout next right i ↔ ComesBackThrough sys plan P (place i)
    round_through i l = (
      (λ r. record {
        next = place r.follower;
        rest = map place r.rest;
        path = path_of sys plan plain s.graph i (r.follower ∷ r.rest) l r.walk.walk;
        through = along_forth i (r.follower ∷ r.rest) l r.walk.walk r.walk.each;
        round = last_place place r.follower r.rest ∙ ap place r.round;
      }),
      (λ c.
          let to = step_to sys plan plain s.graph i c.next l c.path.0 in
          let j = to.0 in
          let is = to.1.is in
          let path : IsPath (GoesTo sys plan) (place j) c.rest = subst (λ x. IsPath (GoesTo sys plan) x c.rest) (sym is) c.path.1 in
          let each : EachOn P (place j) c.rest = subst (λ x. EachOn P x c.rest) (sym is) c.through.1 in
          let w = walk_through j c.rest to.1.below path each in
          record {
            follower = j;
            rest = w.numbers;
            walk = record { walk = (to.2, w.walk.walk); each = ((meaning i l).1 c.through.0, w.walk.each) };
            round = s.graph.once (last_number j w.numbers) i w.below l (w.ends ∙ ap (λ x. last_of x c.rest) is ∙ c.round);
          }),
    )

    pub back_through : (i first : ℕ) (numbers : List ℕ) (steps : List PlainStep) → i < size → IsLeastRound next right i first numbers → IsAlong scene i (first ∷ numbers) steps
        → IsShortestBack sys plan P (place i) steps
    back_through i first numbers steps l r along =
        let long : length steps ≡ length (first ∷ numbers) = along_length sys plan place i (first ∷ numbers) steps along in
        record {
          run_of = along.run_of;
          through = through_steps i (first ∷ numbers) steps l r.walk along;
          round = along_ends sys plan place i (first ∷ numbers) steps along ∙ ap place r.round;
          some = omega (arith, long);
          shortest = λ to rest path each round.
              let at = step_to sys plan plain s.graph i to l path.0 in
              let j = at.0 in
              let is = at.1.is in
              let path_on : IsPath (GoesTo sys plan) (place j) rest = subst (λ x. IsPath (GoesTo sys plan) x rest) (sym is) path.1 in
              let each_on : EachOn P (place j) rest = subst (λ x. EachOn P x rest) (sym is) each.1 in
              let w = walk_through j rest at.1.below path_on each_on in
              let back = s.graph.once (last_number j w.numbers) i w.below l (w.ends ∙ ap (λ x. last_of x rest) is ∙ round) in
              let few = r.least j w.numbers (record { walk = (at.2, w.walk.walk); each = ((meaning i l).1 each.0, w.walk.each) }) back in
              let b = w.long in
              omega (arith, few, long, b);
        }

    -- the lasso that was found
    pub lasso_through : (i : ℕ) (stem back : List PlainStep) → i < size → IsLassoFound scene right i stem back → IsLassoThrough sys plan P (place i) stem back
    lasso_through i stem back l f =
        let b = last_below size next s.graph.next_below i f.numbers l f.least.walk.walk in
        record {
          arrives = way_through (ComesBackThrough sys plan P) (IsRoundWithout next right) round_through i f.numbers stem l f.least f.along;
          returns = subst (λ x. IsShortestBack sys plan P x back) (sym (along_ends sys plan place i f.numbers stem f.along))
              (back_through (last_number i f.numbers) f.first f.others back b f.round f.along_back);
        }
