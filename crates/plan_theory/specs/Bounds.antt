-- How long the paths of a table are.
use Rattle.std.specs.Prelude.{ℕ, ◌≤◌, List, length}
use Rattle.std.specs.List.{Contains}
use Rattle.task_core.specs.Vectors.{Vector}
use Rattle.task_core.specs.Systems.{System, goal_states}
use Rattle.task_core.specs.Tables.{Table, IsTerminal, Leads}
use Rattle.task_core.specs.Paths.{IsPath, last_of}

-- every path of the table from s has at most n steps
abbrev pub PathsAreWithin : System → Table → Vector → ℕ → Type 0
PathsAreWithin sys table s n =
    (rest : List Vector) → IsPath (Leads sys table) s rest → length rest ≤ n

-- some path of the table of at most n steps leads from s to a terminal goal state
pub record ReachesGoalWithin (sys : System) (table : Table) (s : Vector) (n : ℕ) : Type 0 where
  pub rest : List Vector
  pub path : IsPath (Leads sys table) s rest
  pub short : length rest ≤ n
  pub terminal : IsTerminal table (last_of s rest)
  pub goal : Contains (goal_states sys) (last_of s rest)
