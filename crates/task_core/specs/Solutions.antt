-- When a table solves a planning problem: weak, strong and strong cyclic solutions (Cimatti,
-- Pistore, Roveri, Traverso 2003). They speak of the paths of a given table, and of no planner.
use Rattle.std.specs.Prelude.{◌≢◌, List, ◌∷◌}
use Rattle.std.specs.List.{Contains}
use Rattle.task_core.specs.Vectors.{Vector}
use Rattle.task_core.specs.Systems.{System, goal_states}
use Rattle.task_core.specs.Tables.{Table, IsTable, IsTerminal, Reaches, Leads}
use Rattle.task_core.specs.Paths.{IsPath, last_of}
use Rattle.task_core.specs.declared.classes.Class.{Class}
use Rattle.task_core.specs.declared.classes.Class.TheVariants.{Weak, Strong, Cyclic}

-- some path of the table leads from s to a terminal goal state
pub record MayReachGoal (sys : System) (table : Table) (s : Vector) : Type 0 where
  pub end : Vector
  pub reached : Reaches sys table s end
  pub terminal : IsTerminal table end
  pub goal : Contains (goal_states sys) end

-- some path of the table leads from s to a terminal state
pub record MayEnd (sys : System) (table : Table) (s : Vector) : Type 0 where
  pub end : Vector
  pub reached : Reaches sys table s end
  pub terminal : IsTerminal table end

-- s is a state of the table's execution structure: some path leads to it from an initial state
pub record IsReached (sys : System) (table : Table) (s : Vector) : Type 0 where
  pub start : Vector
  pub initial : Contains sys.initial start
  pub path : Reaches sys table start s

-- each state of the execution structure that is terminal is a goal state
abbrev pub EndsInGoal : System → Table → Type 0
EndsInGoal sys table =
    (s : Vector) → IsReached sys table s → IsTerminal table s → Contains (goal_states sys) s

-- no path of one step or more from a state of the execution structure ends where it began
abbrev pub HasNoCycle : System → Table → Type 0
HasNoCycle sys table = (s t : Vector) (rest : List Vector) → IsReached sys table s
    → IsPath (Leads sys table) s (t ∷ rest) → last_of t rest ≢ s

-- a weak solution: it may reach the goal from each initial state
abbrev pub IsWeakSolution : System → Table → Type 0
IsWeakSolution sys table = (s : Vector) → Contains sys.initial s → MayReachGoal sys table s

-- a strong solution: its executions have no cycle, and all end in the goal
pub record IsStrongSolution (sys : System) (table : Table) : Type 0 where
  pub no_cycle : HasNoCycle sys table
  pub ends_in_goal : EndsInGoal sys table

-- a strong cyclic solution: its executions end only in the goal, and from wherever they are they
-- may end
pub record IsStrongCyclicSolution (sys : System) (table : Table) : Type 0 where
  pub ends_in_goal : EndsInGoal sys table
  pub may_end : (s : Vector) → IsReached sys table s → MayEnd sys table s

-- a solution of the class
abbrev pub IsSolution : Class → System → Table → Type 0
IsSolution Weak = IsWeakSolution
IsSolution Strong = IsStrongSolution
IsSolution Cyclic = IsStrongCyclicSolution

-- no table is a solution of the class: not one with several actions for a state, nor one with
-- actions in goal states
abbrev pub HasNoSolution : Class → System → Type 0
HasNoSolution class sys = (table : Table) → IsTable sys table → IsSolution class sys table → ⊥
