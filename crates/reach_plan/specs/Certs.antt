-- Where there is a plan, and what the board has while a certificate that there is none is made.
use Rattle.std.specs.Prelude.{◌≡◌, ℕ, List, map, Option, Some, None}
use Rattle.std.specs.Prelude.{Vec}
use Rattle.std.specs.declared.alloc.Global.{Global}
use Rattle.dd_sets.specs.declared.slots.SetId.{SetId}
use Rattle.encode_task.specs.Slots.{Encoded}
use Rattle.plan_certs.specs.Named.{cube_of}
use Rattle.plan_certs.specs.Printed.{outside_layers, set_cubes}
use Rattle.plan_theory.specs.Layers.{IsLastLayer}
use Rattle.slot_board.specs.Board.{At, Start, set_at}
use Rattle.task_core.specs.Solutions.{HasNoSolution, IsSolution}
use Rattle.task_core.specs.Systems.{IsVector, System}
use Rattle.task_core.specs.Tables.{IsTable, Table}
use Rattle.task_core.specs.Tasks.{system_of}
use Rattle.task_core.specs.Vectors.{Vector, value_of}
use Rattle.task_core.specs.declared.classes.Class.{Class}
use Rattle.task_core.specs.declared.literals.Lit.{Lit}
use Rattle.task_core.specs.declared.tasks.Task.{Task}

-- some table is a solution of the class
pub record HasSolution (class : Class) (sys : System) : Type 0 where
  pub table : Table
  pub is_table : IsTable sys table
  pub solves : IsSolution class sys table

-- the cubes of the states in no layer where there is no solution; or else there is a last layer
abbrev pub IsLeft : Class → Task → Option (Vec (Vec Lit Global) Global) → Type 0
IsLeft class task None = (layers : ℕ) × IsLastLayer class (system_of task) layers
IsLeft class task (Some cubes) =
    HasNoSolution class (system_of task)
    × (map cube_of cubes.items ≡ set_cubes (system_of task) (outside_layers class (system_of task)))

-- a search for them leaves the board
pub record AreCubesLeft (class : Class) (start : Start) (now : Encoded) (slots : List SetId)
    (found : Option (Vec (Vec Lit Global) Global)) : Type 0 where
  pub at : At start now slots
  pub are_left : IsLeft class start.task found

-- there is no solution, and the third place has the states in no layer
pub record HasRest (class : Class) (start : Start) (now : Encoded) (slots : List SetId)
    : Type 0 where
  pub at : At start now slots
  pub none : HasNoSolution class (system_of start.task)
  pub holds : (v : Vector) → IsVector (system_of start.task) v
      → set_at now.sets slots 2 (value_of v) ≡ outside_layers class (system_of start.task) v
