-- The longest run of a plan.
use Rattle.std.specs.Prelude.{◌≤◌, ℕ, List, length}
use Rattle.task_core.specs.ContextPlans.{Configuration, IsInitial}
use Rattle.task_core.specs.Paths.{IsPath}
use Rattle.task_core.specs.Systems.{System}
use Rattle.plan_rules.specs.Rules.{PlainPlan}
use Rattle.exec_graph.specs.Executions.{GoesTo, IsReachedBy}
use Rattle.plan_witness.specs.Ends.{IsEnd}
use Rattle.plan_witness.specs.Runs.{IsRunOf, PlainRun, end_of}

-- no path of the plan has more steps than the bound says, wherever it begins that the plan may reach
abbrev pub HasPathsWithin : System → PlainPlan → ℕ → Type 0
HasPathsWithin sys plan bound = (x : Configuration) (rest : List Configuration)
    → IsReachedBy sys plan x → IsPath (GoesTo sys plan) x rest → length rest ≤ bound

-- a run from an initial state to an end, than which no path of the plan from an initial state is longer
pub record IsLongestRun (sys : System) (plan : PlainPlan) (run : PlainRun) : Type 0 where
  pub initial : IsInitial sys run.start
  pub run_of : IsRunOf sys plan run.start run.steps
  pub end : IsEnd sys plan (end_of run.start run.steps)
  pub longest : (start : Configuration) (rest : List Configuration) → IsInitial sys start
      → IsPath (GoesTo sys plan) start rest
      → length rest ≤ length run.steps
