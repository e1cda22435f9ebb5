-- The places of the board of a search. The first ones are working places; then, for each action,
-- there are the states in which it may be taken; then, for each stage and the end, or for each visit,
-- the states of its context and those where it is met; and then, for each of these, the states that
-- take each action.
use Rattle.std.specs.Prelude.{ℕ, ◌+◌, ◌*◌}

-- the first place after those of the states in which each action may be taken
abbrev pub pairs_end : ℕ → ℕ
pairs_end actions = 8 + actions

-- the states of the context of stage i, counted from 0, and those where the stage is met, or a visit
-- made
abbrev pub win_place : ℕ → ℕ → ℕ
win_place actions i = pairs_end actions + i

abbrev pub met_place : ℕ → ℕ → ℕ → ℕ
met_place actions count i = pairs_end actions + 1 + count + i

-- the first of the places of those that take actions towards stage i
abbrev pub takers_place : ℕ → ℕ → ℕ → ℕ
takers_place actions count i = pairs_end actions + 2 + 2 * count + i * actions

-- how many places there are, for so many actions and so many stages or visits
abbrev pub place_count : ℕ → ℕ → ℕ
place_count actions count = takers_place actions count (count + 1)
