-- What a sink in memory has: its meaning, as clauses see it.
use Rattle.std.specs.Prelude.{ℕ, ◌-◌, ◌<◌, ◌≤◌, List, Contains, length, min}
use Rattle.plan_io.specs.Counts.{raised}

-- bytes: what was written; most: how many bytes a put takes at most; room: how many bytes the sink
-- takes in all; calls: how many puts were made, in 64 bits; failing: the numbers of the puts that
-- fail; faults: how many puts failed
pub record MemSinkState : Type 0 where
  pub bytes : List ℕ
  pub most : ℕ
  pub room : ℕ
  pub calls : ℕ
  pub failing : List ℕ
  pub faults : ℕ

-- the next put fails by its number, counted from 1
abbrev pub PutFails : MemSinkState → Type 0
PutFails state = Contains state.failing (raised state.calls)

-- the room is used up, and the piece isn't empty
abbrev pub HasNoRoom : MemSinkState → List ℕ → Type 0
HasNoRoom state piece = (state.room ≤ length state.bytes) × (0 < length piece)

-- how many bytes of a piece a put takes: all, but at most what a put takes and what has room
abbrev pub taken_of : MemSinkState → List ℕ → ℕ
taken_of state piece = min (length piece) (min state.most (state.room - length state.bytes))
