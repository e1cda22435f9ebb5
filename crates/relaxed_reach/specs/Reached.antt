-- The states that are reached, whatever is done.
use Rattle.std.specs.Prelude.{◌≡◌, ℕ, List}
use Rattle.std.specs.List.{Contains}
use Rattle.task_core.specs.Paths.{IsPath, last_of}
use Rattle.task_core.specs.Systems.{HasOutcome, System}
use Rattle.task_core.specs.Vectors.{Vector}

-- some outcome of some action leads from s to t
pub record Steps (sys : System) (s t : Vector) : Type 0 where
  pub action : ℕ
  pub outcome : HasOutcome sys s action t

-- some actions and outcomes lead to the state from an initial state
pub record IsReachable (sys : System) (state : Vector) : Type 0 where
  pub start : Vector
  pub initial : Contains sys.initial start
  pub rest : List Vector
  pub path : IsPath (Steps sys) start rest
  pub ends : last_of start rest ≡ state
