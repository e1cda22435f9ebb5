-- What holds of a system and its reachable part: the statements of the laws.
use Rattle.std.specs.Prelude.{◌≡◌, ◌↔◌}
use Rattle.task_core.specs.Solutions.{HasNoSolution, IsReached, IsSolution}
use Rattle.task_core.specs.Systems.{System}
use Rattle.task_core.specs.Tables.{Table, IsTable}
use Rattle.task_core.specs.Vectors.{Vector}
use Rattle.task_core.specs.declared.classes.Class.{Class}
use Rattle.reachable_part.specs.Carried.{IsCarried, narrow_table, wide_table}
use Rattle.reachable_part.specs.Parts.{IsReachablePart, Part}

-- tables that mean the same are solutions together
abbrev pub SolutionsCarryOver : Type 0
SolutionsCarryOver =
    (class : Class) (large small : System) (part : Part) (narrow wide : Table)
    → IsReachablePart large small part → IsTable small narrow → IsCarried small part narrow wide
    → IsSolution class small narrow ↔ IsSolution class large wide

-- each table has a counterpart in the other system
pub record TablesAreCarried : Type 0 where
  pub wider : (large small : System) (part : Part) (narrow : Table) → IsReachablePart large small part
      → IsTable small narrow
      → IsTable large (wide_table part narrow) × IsCarried small part narrow (wide_table part narrow)
  pub narrower : (large small : System) (part : Part) (wide : Table) → IsReachablePart large small part
      → IsTable large wide
      → IsTable small (narrow_table part wide) × IsCarried small part (narrow_table part wide) wide

-- there is no solution in the one system exactly where there is none in the other
abbrev pub NoneCarriesOver : Type 0
NoneCarriesOver =
    (class : Class) (large small : System) (part : Part) → IsReachablePart large small part
    → HasNoSolution class small ↔ HasNoSolution class large

-- what a table of the larger system reaches stands for what its counterpart reaches
abbrev pub ReachedCarriesOver : Type 0
ReachedCarriesOver =
    (large small : System) (part : Part) (narrow wide : Table) (v : Vector)
    → IsReachablePart large small part → IsTable small narrow → IsCarried small part narrow wide
    → IsReached large wide v ↔ ((w : Vector) × IsReached small narrow w × (part.widened w ≡ v))
