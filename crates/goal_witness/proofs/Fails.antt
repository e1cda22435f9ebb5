-- How each form of goal fails, from what was found at the numbers of a graph.
use Rattle.std.proofs.Common.{◌≡◌, ◌↔◌, ℕ, zero, suc, ◌<◌, ◌≤◌, Bool, true, false, List, [], ◌∷◌, length, map, get_or, drop, refl, sym, ap, ◌∙◌, subst, arith, ⊎_elim, inl, inr}
use Rattle.std.specs.Prelude.{⊤}
use Rattle.std.proofs.lemmas.Bool.{false≢true}
use Rattle.ctl_syntax.specs.Goals.{CtlTree, CtlTrees, plain, negation, all, any, implication, ax, ex, af, ef, ag, eg, au, eu, aw, ew, no_goal, goal_then, goal_row}
use Rattle.ctl_syntax.specs.Paths.{EveryPathMeets, Meets}
use Rattle.ctl_syntax.specs.Truth.{Anything, Nothing, Satisfies}
use Rattle.ctl_syntax.specs.Values.{NamesBelow, ctl_value}
use Rattle.ctl_syntax.specs.declared.goals.Ctl.{Ctl}
use Rattle.ctl_syntax.proofs.Meeting.{holds_here, meets_here}
use Rattle.exec_graph.specs.Values.{followers_at}
use Rattle.exec_graph.specs.declared.graphs.Graph.{Graph}
use Rattle.plan_check.specs.Labels.{ComesAfter, HoldsIn, ShowsGoal, mark_at}
use Rattle.plan_check.specs.Walks.{last_number}
use Rattle.plan_check.proofs.LabelTruth.{is_not_so, is_so, nowhere}
use Rattle.plan_check.proofs.MarkFacts.{marked_below}
use Rattle.plan_check.proofs.WalkFacts.{last_below}
use Rattle.plan_rules.specs.Rules.{PlainPlan}
use Rattle.plan_witness.specs.Runs.{PlainStep, end_of}
use Rattle.plan_witness.proofs.GraphRuns.{along_ends}
use Rattle.task_core.specs.ContextPlans.{Configuration}
use Rattle.task_core.specs.Systems.{System}
use Rattle.task_core.specs.Tasks.{fluent_count}
use Rattle.task_core.specs.declared.conditions.Cond.{Cond}
use Rattle.goal_witness.specs.Failing.{FailsFrom, LeadsInside, goal_size, goals_size, until_of}
use Rattle.goal_witness.specs.Failures.{FailsAlong, FailsBy, How, IsFalseIn, PlainLink, SomePart, by_lasso, by_way, is_false}
use Rattle.goal_witness.specs.Scenes.{IsFalseAtNumber, IsScene, place_in, plan_in, size_in, sys_in}
use Rattle.goal_witness.specs.Walks.{IsAlong, IsLassoFound, IsWayFound, Lacks, NoneWithout}
use Rattle.plan_witness.specs.declared.scenes.Scene.{Scene}
use Rattle.goal_witness.proofs.Conjunctions.{TrueSoFar, row, so_far_names}
use Rattle.goal_witness.proofs.Through.{lasso_through, true_in, way_through}
use Rattle.goal_witness.proofs.Truths.{keeps_everywhere, lacks_right}

-- the forms of which it is told alone that they are false
abbrev pub IsTold : CtlTree Cond → Type 0
IsTold (plain p) = ⊤
IsTold (negation g) = ⊤
IsTold (any gs) = ⊤
IsTold (ex g) = ⊤
IsTold (ef g) = ⊤
IsTold (eg g) = ⊤
IsTold (eu g h) = ⊤
IsTold (ew g h) = ⊤
IsTold goal = ⊥

abbrev link : CtlTree Cond → How → PlainLink
link goal how = record { part = goal; how = how }

-- meets of weaker properties
meets_weaker : {X : Type 0} (G H I J : X → Type 0) → ((x : X) → G x → I x) → ((x : X) → H x → J x) → (path : List X) → Meets G H path → Meets I J path
meets_weaker G H I J f g path m = record { place = m.place; node = m.node; is = m.is; has = g m.node m.has; before = λ k y l e. f y (m.before k y l e) }

every_weaker : {X : Type 0} (Step : X → X → Type 0) (G H I J : X → Type 0) → ((x : X) → G x → I x) → ((x : X) → H x → J x) → (x : X) → EveryPathMeets Step G H x → EveryPathMeets Step I J x
every_weaker Step G H I J f g x e = record { steps = e.steps; meets = λ rest len p. meets_weaker G H I J f g (x ∷ rest) (e.meets rest len p) }

module _ (scene : Scene) (s : IsScene scene) where
  abbrev n : ℕ
  n = fluent_count scene.task.now

  abbrev graph : Graph
  graph = scene.graph.now

  abbrev sys : System
  sys = sys_in scene

  abbrev plan : PlainPlan
  plan = plan_in scene

  abbrev place : ℕ → Configuration
  place = place_in scene

  abbrev size : ℕ
  size = size_in scene

  abbrev Sat : CtlTree Cond → ℕ → Type 0
  Sat goal = Satisfies (ComesAfter graph) (HoldsIn n graph) goal

  abbrev IsFalse : CtlTree Cond → Configuration → Type 0
  IsFalse goal = IsFalseIn sys plan goal

  -- a label, at the configurations
  pub meaning : (goal : CtlTree Cond) → NamesBelow n goal → (marks : List Bool) → ShowsGoal n graph goal marks → (i : ℕ) → i < size → Lacks marks i ↔ IsFalse goal (place i)
  meaning goal names marks shows i l = (
    (λ f t. is_not_so size (Sat goal) marks shows i l f ((true_in scene s goal names i l).1 t)),
    (λ f. lacks_right size (followers_at graph) s.graph.next_below (Sat goal) (Sat goal) marks marks shows shows i l (λ t. f ((true_in scene s goal names i l).0 t))),
  )

  -- what is false at a number
  pub not_sat : (goal : CtlTree Cond) (i : ℕ) → IsFalseAtNumber scene goal i → Sat goal i → ⊥
  not_sat goal i f t = f.fails ((true_in scene s goal f.names i f.below).0 t)

  pub told : (goal : CtlTree Cond) → IsTold goal → (i : ℕ) → IsFalseAtNumber scene goal i → FailsFrom scene goal i (link goal is_false ∷ [])
  told (plain p) t i f = (refl, f.fails, refl)
  told (negation g) t i f = (refl, f.fails, refl)
  told (any gs) t i f = (refl, f.fails, refl)
  told (ex g) t i f = (refl, f.fails, refl)
  told (ef g) t i f = (refl, f.fails, refl)
  told (eg g) t i f = (refl, f.fails, refl)
  told (eu g h) t i f = (refl, f.fails, refl)
  told (ew g h) t i f = (refl, f.fails, refl)
  told (all gs) t i f = absurd t
  told (implication g h) t i f = absurd t
  told (ax g) t i f = absurd t
  told (af g) t i f = absurd t
  told (ag g) t i f = absurd t
  told (au g h) t i f = absurd t
  told (aw g h) t i f = absurd t

  pub told_as : (goal tree : CtlTree Cond) → goal ≡ tree → IsTold tree → (i : ℕ) → IsFalseAtNumber scene goal i → FailsFrom scene goal i (link goal is_false ∷ [])
  told_as goal tree is t i f = told goal (subst IsTold (sym is) t) i f

  -- the second part of an implication
  pub leads_imply : (g h : CtlTree Cond) (i : ℕ) → IsFalseAtNumber scene (implication g h) i → LeadsInside scene (implication g h) i (by_way []) h i
  leads_imply g h i f = record {
    inside = record { below = f.below; names = f.names.1; fails = λ t. f.fails (λ _. t) };
    smaller = omega arith;
    joins = λ links fails. (refl, f.fails, fails);
  }

  -- a part of a conjunction
  abbrev IsAmong : CtlTree Cond → CtlTrees Cond → Type 0
  IsAmong g gs = SomePart (λ h. h ≡ g) gs

  among_size : (g : CtlTree Cond) (gs : CtlTrees Cond) → IsAmong g gs → goal_size g ≤ goals_size gs
  among_size g no_goal a = absurd a
  among_size g (goal_then h hs) a =
      ⊎_elim (λ (e : h ≡ g). let same : goal_size h ≡ goal_size g = ap goal_size e in omega (arith, same)) (λ later. let le = among_size g hs later in omega (arith, le)) a

  among_some : (P : CtlTree Cond → Type 0) (g : CtlTree Cond) (gs : CtlTrees Cond) → IsAmong g gs → P g → SomePart P gs
  among_some P g no_goal a p = a
  among_some P g (goal_then h hs) a p = ⊎_elim (λ e. inl (subst P (sym e) p)) (λ later. inr (among_some P g hs later p)) a

  among_row : (parts : List Ctl) (k : ℕ) (part : Ctl) → k < length parts → get_or parts k part ≡ part → IsAmong (ctl_value part) (goal_row (map ctl_value parts))
  among_row [] k part l is = absurd (omega arith)
  among_row (x ∷ xs) zero part l is = inl (ap ctl_value is)
  among_row (x ∷ xs) (suc k) part l is = inr (among_row xs k part (omega arith) is)

  pub leads_all : (parts : List Ctl) (k : ℕ) (part : Ctl) (i : ℕ) (marks : List Bool) → k < length parts → get_or parts k part ≡ part → TrueSoFar scene parts (drop k parts) i
      → IsFalseAtNumber scene (row parts) i → ShowsGoal n graph (ctl_value part) marks → Lacks marks i → LeadsInside scene (row parts) i (by_way []) (ctl_value part) i
  leads_all parts k part i marks l is t f shows lacks =
      let among = among_row parts k part l is in
      let names = so_far_names scene parts k part i l is t in
      let le = among_size (ctl_value part) (goal_row (map ctl_value parts)) among in
      record {
        inside = record { below = f.below; names = names; fails = (meaning (ctl_value part) names marks shows i f.below).0 lacks };
        smaller = omega (arith, le);
        joins = λ links fails. (refl, f.fails, among_some (λ g. FailsAlong sys plan g (place i) links) (ctl_value part) (goal_row (map ctl_value parts)) among fails);
      }

  -- what holds next
  one_step : (g : CtlTree Cond) (i j : ℕ) (steps : List PlainStep) (links : List PlainLink) → IsAlong scene i (j ∷ []) steps → FailsAlong sys plan g (place j) links
      → FailsBy sys plan (ax g) (place i) (by_way steps) links (λ h y. FailsAlong sys plan h y links)
  one_step g i j [] links along fails = let e = ap length along.places in absurd (omega (arith, e))
  one_step g i j (step ∷ []) links along fails = (along.run_of.0, subst (λ x. FailsAlong sys plan g x links) (sym (first_same step.after (place j) along.places)) fails)
    where
      first_same : (x y : Configuration) → x ∷ [] ≡ y ∷ [] → x ≡ y
      first_same x y e = cc
  one_step g i j (step ∷ more ∷ steps) links along fails = let e = ap length along.places in absurd (omega (arith, e))

  pub leads_ax : (g : CtlTree Cond) (i j : ℕ) (steps : List PlainStep) (marks : List Bool) → IsFalseAtNumber scene (ax g) i → ComesAfter graph i j → ShowsGoal n graph g marks → Lacks marks j → IsAlong scene i (j ∷ []) steps
      → LeadsInside scene (ax g) i (by_way steps) g j
  leads_ax g i j steps marks f follows shows lacks along =
      let b = s.graph.next_below i j f.below follows in
      record {
        inside = record { below = b; names = f.names; fails = (meaning g f.names marks shows j b).0 lacks };
        smaller = omega arith;
        joins = λ links fails. (refl, f.fails, one_step g i j steps links along fails);
      }

  pub true_ax : (g : CtlTree Cond) (i : ℕ) (marks : List Bool) → i < size → ShowsGoal n graph g marks → ((j : ℕ) → ComesAfter graph i j → mark_at marks j ≡ true) → Sat (ax g) i
  true_ax g i marks l shows each j c = is_so size (Sat g) marks shows j (s.graph.next_below i j l c) (each j c)

  -- by a way
  way_end : (left right : List Bool) (i : ℕ) (steps : List PlainStep) (end : ℕ) → IsWayFound scene left right i steps end → end_of (place i) steps ≡ place end
  way_end left right i steps end w = along_ends sys plan place i w.numbers steps w.along ∙ ap place w.ends

  way_below : (left right : List Bool) (i : ℕ) (steps : List PlainStep) (end : ℕ) → i < size → IsWayFound scene left right i steps end → end < size
  way_below left right i steps end l w = subst (λ k. k < size) w.ends (last_below size (followers_at graph) s.graph.next_below i w.numbers l w.least.walk.walk)

  way_lacks : (left right : List Bool) (i : ℕ) (steps : List PlainStep) (end : ℕ) → IsWayFound scene left right i steps end → Lacks left end
  way_lacks left right i steps end w = subst (Lacks left) w.ends w.least.ends

  way_inside : (g : CtlTree Cond) (left right : List Bool) (i : ℕ) (steps : List PlainStep) (end : ℕ) → NamesBelow n g → i < size → ShowsGoal n graph g left → IsWayFound scene left right i steps end → IsFalseAtNumber scene g end
  way_inside g left right i steps end names l shows w =
      let b = way_below left right i steps end l w in
      record { below = b; names = names; fails = (meaning g names left shows end b).0 (way_lacks left right i steps end w) }

  pub leads_ag : (g : CtlTree Cond) (i : ℕ) (left right : List Bool) (steps : List PlainStep) (end : ℕ) → IsFalseAtNumber scene (ag g) i → ShowsGoal n graph g left → ((j : ℕ) → j < size → mark_at right j ≡ false)
      → IsWayFound scene left right i steps end → LeadsInside scene (ag g) i (by_way steps) g end
  leads_ag g i left right steps end f shows nowhere w = record {
    inside = way_inside g left right i steps end f.names f.below shows w;
    smaller = omega arith;
    joins = λ links fails. (
      refl,
      f.fails,
      (
        way_through scene s right Anything (λ j l. ((λ _. tt), (λ _. nowhere j l))) (IsFalse g) (Lacks left) (meaning g f.names left shows) i w.numbers steps f.below w.least w.along,
        subst (λ x. FailsAlong sys plan g x links) (sym (way_end left right i steps end w)) fails,
      ),
    );
  }

  leads_aw : (g h : CtlTree Cond) (i : ℕ) (left right : List Bool) (steps : List PlainStep) (end : ℕ) → IsFalseAtNumber scene (aw g h) i → ShowsGoal n graph g left → ShowsGoal n graph h right
      → IsWayFound scene left right i steps end → LeadsInside scene (aw g h) i (by_way steps) g end
  leads_aw g h i left right steps end f shows more w = record {
    inside = way_inside g left right i steps end f.names.0 f.below shows w;
    smaller = omega arith;
    joins = λ links fails. (
      refl,
      f.fails,
      (
        way_through scene s right (IsFalse h) (meaning h f.names.1 right more) (IsFalse g) (Lacks left) (meaning g f.names.0 left shows) i w.numbers steps f.below w.least w.along,
        subst (λ x. FailsAlong sys plan g x links) (sym (way_end left right i steps end w)) fails,
      ),
    );
  }

  leads_au : (g h : CtlTree Cond) (i : ℕ) (left right : List Bool) (steps : List PlainStep) (end : ℕ) → IsFalseAtNumber scene (au g h) i → ShowsGoal n graph g left → ShowsGoal n graph h right
      → IsWayFound scene left right i steps end → LeadsInside scene (au g h) i (by_way steps) g end
  leads_au g h i left right steps end f shows more w = record {
    inside = way_inside g left right i steps end f.names.0 f.below shows w;
    smaller = omega arith;
    joins = λ links fails. (
      refl,
      f.fails,
      (
        way_through scene s right (IsFalse h) (meaning h f.names.1 right more) (IsFalse g) (Lacks left) (meaning g f.names.0 left shows) i w.numbers steps f.below w.least w.along,
        subst (λ x. FailsAlong sys plan g x links) (sym (way_end left right i steps end w)) fails,
      ),
    );
  }

  -- for ever
  pub ends_au : (g h : CtlTree Cond) (i : ℕ) (right : List Bool) (stem back : List PlainStep) → IsFalseAtNumber scene (au g h) i → ShowsGoal n graph h right → IsLassoFound scene right i stem back
      → FailsFrom scene (au g h) i (link (au g h) (by_lasso stem back) ∷ [])
  ends_au g h i right stem back f shows lasso = (refl, f.fails, (lasso_through scene s right (IsFalse h) (meaning h f.names.1 right shows) i stem back f.below lasso, refl))

  pub ends_af : (g : CtlTree Cond) (i : ℕ) (right : List Bool) (stem back : List PlainStep) → IsFalseAtNumber scene (af g) i → ShowsGoal n graph g right → IsLassoFound scene right i stem back
      → FailsFrom scene (af g) i (link (af g) (by_lasso stem back) ∷ [])
  ends_af g i right stem back f shows lasso = (refl, f.fails, (lasso_through scene s right (IsFalse g) (meaning g f.names right shows) i stem back f.below lasso, refl))

  -- what is asked of the searches
  lacks_aw : (g h : CtlTree Cond) (i : ℕ) (right : List Bool) → IsFalseAtNumber scene (aw g h) i → ShowsGoal n graph h right → Lacks right i
  lacks_aw g h i right f shows =
      (meaning h f.names.1 right shows i f.below).1 (λ t. not_sat (aw g h) i f (λ k rest len p. holds_here (Sat g) (Sat h) i rest ((true_in scene s h f.names.1 i f.below).1 t)))

  lacks_au : (g h : CtlTree Cond) (i : ℕ) (right : List Bool) → IsFalseAtNumber scene (au g h) i → ShowsGoal n graph h right → Lacks right i
  lacks_au g h i right f shows =
      (meaning h f.names.1 right shows i f.below).1
      (λ t. not_sat (au g h) i f (record { steps = 0; meets = λ rest len p. meets_here (Sat g) (Sat h) i rest ((true_in scene s h f.names.1 i f.below).1 t) }))

  pub misses_au : (g h : CtlTree Cond) (i : ℕ) (left right : List Bool) → IsFalseAtNumber scene (au g h) i → ShowsGoal n graph g left → ShowsGoal n graph h right
      → EveryPathMeets (ComesAfter graph) (λ j. mark_at left j ≡ true) (λ j. mark_at right j ≡ true) i → ⊥
  misses_au g h i left right f shows more e =
      not_sat (au g h) i f
      (every_weaker (ComesAfter graph) (λ j. mark_at left j ≡ true) (λ j. mark_at right j ≡ true) (Sat g) (Sat h)
      (λ j m. is_so size (Sat g) left shows j (subst (λ k. j < k) shows.count (marked_below left j m)) m) (λ j m. is_so size (Sat h) right more j (subst (λ k. j < k) more.count (marked_below right j m)) m) i e)

  pub misses_af : (g : CtlTree Cond) (i : ℕ) (left right : List Bool) → IsFalseAtNumber scene (af g) i → ShowsGoal n graph g right
      → EveryPathMeets (ComesAfter graph) (λ j. mark_at left j ≡ true) (λ j. mark_at right j ≡ true) i → ⊥
  misses_af g i left right f shows e =
      not_sat (af g) i f
      (every_weaker (ComesAfter graph) (λ j. mark_at left j ≡ true) (λ j. mark_at right j ≡ true) Anything (Sat g)
      (λ j m. tt) (λ j m. is_so size (Sat g) right shows j (subst (λ k. j < k) shows.count (marked_below right j m)) m) i e)

  pub none_everywhere : (i : ℕ) (left right : List Bool) → i < size → ((j : ℕ) → j < size → mark_at left j ≡ true) → NoneWithout (followers_at graph) right (Lacks left) i
  none_everywhere i left right l each rest w e = false≢true (sym e ∙ each (last_number i rest) (last_below size (followers_at graph) s.graph.next_below i rest l w.walk))

  -- where no way leads there, the goal is true
  pub true_ag : (g : CtlTree Cond) (i : ℕ) (left right : List Bool) → i < size → ShowsGoal n graph g left → length right ≡ size → ((j : ℕ) → j < size → mark_at right j ≡ false)
      → NoneWithout (followers_at graph) right (Lacks left) i → Sat (ag g) i
  true_ag g i left right l shows count each none =
      keeps_everywhere size (followers_at graph) s.graph.next_below (Sat g) Nothing left right shows (nowhere size Nothing right count each (λ j p. p)) i l none

  pub true_aw : (g h : CtlTree Cond) (i : ℕ) (left right : List Bool) → i < size → ShowsGoal n graph g left → ShowsGoal n graph h right → NoneWithout (followers_at graph) right (Lacks left) i → Sat (aw g h) i
  true_aw g h i left right l shows more none = keeps_everywhere size (followers_at graph) s.graph.next_below (Sat g) (Sat h) left right shows more i l none

  -- the same for both kinds
  pub leads_until : (weak : Bool) (g h : CtlTree Cond) (i : ℕ) (left right : List Bool) (steps : List PlainStep) (end : ℕ) → IsFalseAtNumber scene (until_of weak g h) i → ShowsGoal n graph g left → ShowsGoal n graph h right
      → IsWayFound scene left right i steps end → LeadsInside scene (until_of weak g h) i (by_way steps) g end
  leads_until true = leads_aw
  leads_until false = leads_au

  pub lacks_until : (weak : Bool) (g h : CtlTree Cond) (i : ℕ) (right : List Bool) → IsFalseAtNumber scene (until_of weak g h) i → ShowsGoal n graph h right → Lacks right i
  lacks_until true = lacks_aw
  lacks_until false = lacks_au
