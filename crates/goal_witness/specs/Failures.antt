-- Why a goal in computation tree logic is false: the runs along which it fails, and so on inside
-- (Clarke, Grumberg, McMillan, Zhao 1995 call them counterexamples). Only parts over all runs are
-- followed; of any other it is said where it is false.
use Rattle.std.specs.Prelude.{◌≡◌, ◌⊎◌, ◌<◌, ◌≤◌, List, [], ◌∷◌, length, map}
use Rattle.ctl_syntax.specs.Goals.{CtlTree, CtlTrees, plain, negation, all, any, implication, ax}
use Rattle.ctl_syntax.specs.Goals.{ex, af, ef, ag, eg, au, eu, aw, ew, no_goal, goal_then}
use Rattle.ctl_syntax.specs.Truth.{Anything, Satisfies}
use Rattle.exec_graph.specs.Executions.{GoesTo}
use Rattle.plan_check.specs.ContextVerdicts.{HoldsAt}
use Rattle.plan_rules.specs.Rules.{PlainPlan}
use Rattle.plan_witness.specs.Runs.{IsRunOf, IsStepOf, PlainStep, end_of}
use Rattle.task_core.specs.ContextPlans.{Configuration}
use Rattle.task_core.specs.Paths.{IsPath, last_of}
use Rattle.task_core.specs.Systems.{System}
use Rattle.task_core.specs.declared.conditions.Cond.{Cond}

-- x has P, and so has each node of the path after it
abbrev pub EachOn : {X : Type 0} → (X → Type 0) → X → List X → Type 0
EachOn P x [] = P x
EachOn P x (y ∷ rest) = P x × EachOn P y rest

-- the configurations to which steps lead
abbrev pub places : List PlainStep → List Configuration
places = map (λ (step : PlainStep). step.after)

-- a goal is true at a configuration, along the paths of the plan; and it is not
abbrev pub IsTrueIn : System → PlainPlan → CtlTree Cond → Configuration → Type 0
IsTrueIn sys plan goal = Satisfies (GoesTo sys plan) HoldsAt goal

abbrev pub IsFalseIn : System → PlainPlan → CtlTree Cond → Configuration → Type 0
IsFalseIn sys plan goal x = IsTrueIn sys plan goal x → ⊥

-- a run from x through configurations with P alone, x and the last one too, to one with Q; no such
-- path is shorter
pub record IsShortestThrough (sys : System) (plan : PlainPlan) (P Q : Configuration → Type 0)
    (x : Configuration) (steps : List PlainStep) : Type 0 where
  pub run_of : IsRunOf sys plan x steps
  pub through : EachOn P x (places steps)
  pub ends : Q (end_of x steps)
  pub shortest : (rest : List Configuration) → IsPath (GoesTo sys plan) x rest → EachOn P x rest
      → Q (last_of x rest)
      → length steps ≤ length rest

-- some path of one step or more from x, through configurations with P alone, ends at x
pub record ComesBackThrough (sys : System) (plan : PlainPlan) (P : Configuration → Type 0)
    (x : Configuration) : Type 0 where
  pub next : Configuration
  pub rest : List Configuration
  pub path : IsPath (GoesTo sys plan) x (next ∷ rest)
  pub through : EachOn P x (next ∷ rest)
  pub round : last_of next rest ≡ x

-- a run of one step or more from x back to x, through configurations with P alone; no such path is
-- shorter
pub record IsShortestBack (sys : System) (plan : PlainPlan) (P : Configuration → Type 0)
    (x : Configuration) (steps : List PlainStep) : Type 0 where
  pub run_of : IsRunOf sys plan x steps
  pub through : EachOn P x (places steps)
  pub round : end_of x steps ≡ x
  pub some : 0 < length steps
  pub shortest : (next : Configuration) (rest : List Configuration)
      → IsPath (GoesTo sys plan) x (next ∷ rest)
      → EachOn P x (next ∷ rest)
      → last_of next rest ≡ x
      → length steps ≤ length (next ∷ rest)

-- a shortest run from x, through configurations with P alone, to one from which such a run comes back
-- to it, and a shortest run back
pub record IsLassoThrough (sys : System) (plan : PlainPlan) (P : Configuration → Type 0)
    (x : Configuration) (stem back : List PlainStep) : Type 0 where
  pub arrives : IsShortestThrough sys plan P (ComesBackThrough sys plan P) x stem
  pub returns : IsShortestBack sys plan P (end_of x stem) back

-- how a part fails: it is false, and no more is told; by these steps the plan comes to where the next
-- part is false; or by these steps, and others that lead back, it may go on for ever
pub data How : Type 0 where
  is_false : How
  by_way : List PlainStep → How
  by_lasso : (stem back : List PlainStep) → How

-- a part of a goal, and how it fails
pub record PlainLink : Type 0 where
  pub part : CtlTree Cond
  pub how : How

-- some of the goals has the property
abbrev pub SomePart : (CtlTree Cond → Type 0) → CtlTrees Cond → Type 0
SomePart P no_goal = ⊥
SomePart P (goal_then g gs) = P g ⊎ SomePart P gs

-- the goal fails so at x; `Inside g y` says that the parts after it show that g is false at y.
--   and: one of its parts is false.
--   imply: the second part is false.
--   ax: a step leads to where the part is false.
--   ag: a shortest run leads to where the part is false.
--   aw, au: the second part is false along a shortest run to where the first is false too.
--   af, au: the part, or the second part, is false along a run that may go on so for ever.
-- Of the other forms it is told that they are false, and nothing after it.
abbrev pub FailsBy : System → PlainPlan → CtlTree Cond → Configuration → How → List PlainLink
    → (CtlTree Cond → Configuration → Type 0) → Type 0
FailsBy sys plan (all gs) x (by_way []) after Inside = SomePart (λ g. Inside g x) gs
FailsBy sys plan (implication g h) x (by_way []) after Inside = Inside h x
FailsBy sys plan (ax g) x (by_way (step ∷ [])) after Inside =
    IsStepOf sys plan x step × Inside g step.after
FailsBy sys plan (ag g) x (by_way steps) after Inside =
    IsShortestThrough sys plan Anything (IsFalseIn sys plan g) x steps × Inside g (end_of x steps)
FailsBy sys plan (aw g h) x (by_way steps) after Inside =
    IsShortestThrough sys plan (IsFalseIn sys plan h) (IsFalseIn sys plan g) x steps
    × Inside g (end_of x steps)
FailsBy sys plan (au g h) x (by_way steps) after Inside =
    IsShortestThrough sys plan (IsFalseIn sys plan h) (IsFalseIn sys plan g) x steps
    × Inside g (end_of x steps)
FailsBy sys plan (au g h) x (by_lasso stem back) after Inside =
    IsLassoThrough sys plan (IsFalseIn sys plan h) x stem back × (after ≡ [])
FailsBy sys plan (af g) x (by_lasso stem back) after Inside =
    IsLassoThrough sys plan (IsFalseIn sys plan g) x stem back × (after ≡ [])
FailsBy sys plan (plain p) x is_false after Inside = after ≡ []
FailsBy sys plan (negation g) x is_false after Inside = after ≡ []
FailsBy sys plan (any gs) x is_false after Inside = after ≡ []
FailsBy sys plan (ex g) x is_false after Inside = after ≡ []
FailsBy sys plan (ef g) x is_false after Inside = after ≡ []
FailsBy sys plan (eg g) x is_false after Inside = after ≡ []
FailsBy sys plan (eu g h) x is_false after Inside = after ≡ []
FailsBy sys plan (ew g h) x is_false after Inside = after ≡ []
FailsBy sys plan goal x how after Inside = ⊥

-- the goal is false at x, and the parts show along which runs
abbrev pub FailsAlong : System → PlainPlan → CtlTree Cond → Configuration → List PlainLink → Type 0
FailsAlong sys plan goal x [] = ⊥
FailsAlong sys plan goal x (link ∷ links) =
    (link.part ≡ goal) × IsFalseIn sys plan goal x
    × FailsBy sys plan goal x link.how links (λ g y. FailsAlong sys plan g y links)
