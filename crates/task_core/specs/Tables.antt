-- State-action tables and their paths (Cimatti, Pistore, Roveri, Traverso 2003: a state-action
-- table and its execution structure).
use Rattle.std.specs.Prelude.{◌≡◌, ℕ, List}
use Rattle.std.specs.List.{Contains}
use Rattle.task_core.specs.Paths.{IsPath, last_of}
use Rattle.task_core.specs.Vectors.{Vector}
use Rattle.task_core.specs.Systems.{System, Exec, HasOutcome, IsState}

-- a list of pairs of a state and an action; it may hold several actions for one state
abbrev pub Table : Type 0
Table = List (Vector × ℕ)

-- each pair is of a state and an action that can be executed there
abbrev pub IsTable : System → Table → Type 0
IsTable sys table = (s : Vector) (a : ℕ) → Contains table (s, a) → IsState sys s × Exec sys s a

-- t is an outcome of a pair of s; so the paths of the table are those of this relation
pub record Leads (sys : System) (table : Table) (s t : Vector) : Type 0 where
  pub action : ℕ
  pub pair : Contains table (s, action)
  pub outcome : HasOutcome sys s action t

-- some path of the table leads from s to t
pub record Reaches (sys : System) (table : Table) (s t : Vector) : Type 0 where
  pub rest : List Vector
  pub path : IsPath (Leads sys table) s rest
  pub ends : last_of s rest ≡ t

-- a state that has no pair
abbrev pub IsTerminal : Table → Vector → Type 0
IsTerminal table s = (a : ℕ) → Contains table (s, a) → ⊥
