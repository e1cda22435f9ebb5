-- Runs that come round.
use Rattle.std.specs.Prelude.{◌≡◌, ◌≤◌, List, ◌∷◌, length}
use Rattle.task_core.specs.Systems.{System}
use Rattle.task_core.specs.ContextPlans.{Configuration}
use Rattle.task_core.specs.Paths.{IsPath, last_of}
use Rattle.plan_rules.specs.Rules.{PlainPlan}
use Rattle.exec_graph.specs.Executions.{GoesTo}
use Rattle.plan_witness.specs.Runs.{IsRunOf, IsShortestRun, PlainRun, PlainStep, end_of}

-- some path of one step or more from x ends at x
pub record ComesBack (sys : System) (plan : PlainPlan) (x : Configuration) : Type 0 where
  pub next : Configuration
  pub rest : List Configuration
  pub path : IsPath (GoesTo sys plan) x (next ∷ rest)
  pub round : last_of next rest ≡ x

-- a run of one step or more from x back to x, than which no path back to x is shorter
pub record IsShortestRound (sys : System) (plan : PlainPlan) (x : Configuration)
    (steps : List PlainStep) : Type 0 where
  pub run_of : IsRunOf sys plan x steps
  pub round : end_of x steps ≡ x
  pub first : PlainStep
  pub others : List PlainStep
  pub some : steps ≡ first ∷ others
  pub shortest : (next : Configuration) (rest : List Configuration)
      → IsPath (GoesTo sys plan) x (next ∷ rest)
      → last_of next rest ≡ x
      → length steps ≤ length (next ∷ rest)

-- a run, and a run on from its end
pub record PlainLasso : Type 0 where
  pub stem : PlainRun
  pub round : List PlainStep

-- a shortest run to a configuration from which the plan may come back to it, and from there a shortest
-- run back
pub record IsLasso (sys : System) (plan : PlainPlan) (lasso : PlainLasso) : Type 0 where
  pub stem : IsShortestRun sys plan (ComesBack sys plan) lasso.stem
  pub round : IsShortestRound sys plan (end_of lasso.stem.start lasso.stem.steps) lasso.round
