-- States from which there is a plan of a class, or none.
use Rattle.std.specs.Prelude.{[], ◌∷◌}
use Rattle.task_core.specs.Solutions.{HasNoSolution, IsSolution}
use Rattle.task_core.specs.Systems.{System}
use Rattle.task_core.specs.Tables.{IsTable, Table}
use Rattle.task_core.specs.Vectors.{Vector}
use Rattle.task_core.specs.declared.classes.Class.{Class}

-- the system with this state as its only initial state
abbrev pub from_state : System → Vector → System
from_state sys s = record sys { initial = s ∷ [] }

-- a dead end for the class: no table is a solution of the class from this state
abbrev pub IsDeadEnd : Class → System → Vector → Type 0
IsDeadEnd class sys s = HasNoSolution class (from_state sys s)

-- some table is a solution of the class from this state
pub record HasPlanFrom (class : Class) (sys : System) (s : Vector) : Type 0 where
  pub rows : Table
  pub table : IsTable (from_state sys s) rows
  pub solves : IsSolution class (from_state sys s) rows
