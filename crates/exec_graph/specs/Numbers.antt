-- Private: lists of numbers, of which the first ones take less room.
use Rattle.std.specs.Prelude.{◌≡◌, ◌≤◌, ◌⊎◌, ℕ, List, ◌++◌, length}
use Rattle.exec_graph.specs.declared.numbers.Numbers.{Numbers}

-- Private: all the numbers
abbrev pub numbers_of : Numbers → List ℕ
numbers_of numbers = numbers.small.items ++ numbers.large.items

-- Private: each place has room for a number below `most`
abbrev pub IsRoomy : ℕ → Numbers → Type 0
IsRoomy most numbers = (most ≤ 65536) ⊎ (length numbers.small.items ≡ 0)
