-- Private: how many literals a set lacks.
use Rattle.std.specs.Prelude.{ℕ, zero, suc, ◌+◌, true, false, if◌then◌else◌}
use Rattle.relaxed_reach.specs.Literals.{LiteralSet}

-- the literals of the first n fluents that are not in the set
abbrev pub lacking : ℕ → LiteralSet → ℕ
lacking zero set = 0
lacking (suc n) set =
    lacking n set + (if set n true then 0 else 1) + (if set n false then 0 else 1)
