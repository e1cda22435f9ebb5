-- How many nodes are enough for the sets of a planning problem, by its sizes alone, and when a limit may
-- be too small.
use Rattle.std.specs.Prelude.{ℕ, ◌+◌, ◌*◌, ◌^◌}
use Rattle.dd_sets.specs.Rooms.{Tight}
use Rattle.task_core.specs.Systems.{System, most_outcomes}

-- nodes that are enough for all sets that are live at a time and for one operation, where a plan for
-- so many stages or visits is looked for, or a plan of a class (no stages). Over F fluents a set has fewer
-- than 2 ^ F nodes and an operation makes fewer than 4 ^ F; an action has sets of its own, one for
-- each stage, and for each outcome one a fluent and one more (Bryant 1986: the size of a reduced
-- diagram)
abbrev pub enough : ℕ → System → ℕ
enough stages sys =
    2 * 4 ^ sys.fluents
    + (sys.actions * (most_outcomes sys * (sys.fluents + 1) + stages + 6) + 8 * stages + 256)
    * 2 ^ sys.fluents

-- a table for so many nodes may be too small for a problem: they are fewer than are enough, and
-- fewer than all sets that there are over its fluents. With as many as are enough no call finds the
-- table full, since it finds it so only where the live sets and its own pieces have more nodes than
-- the limit, once all others are dropped
abbrev pub IsTightLimit : ℕ → ℕ → System → Type 0
IsTightLimit stages nodes sys = Tight nodes sys.fluents (enough stages sys)
