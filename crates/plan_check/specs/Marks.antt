-- Private: marks on numbers, and the list of the marked ones.
use Rattle.std.specs.Prelude.{ℕ, Bool, not, List, count_by}
use Rattle.std.specs.List.{All, Contains}
use Rattle.plan_check.specs.Walks.{IsMarked}

-- Private: the numbers with a mark are those of the list
pub record ListsMarked (marks : List Bool) (found : List ℕ) : Type 0 where
  pub listed : (i : ℕ) → IsMarked marks i → Contains found i
  pub all : All (IsMarked marks) found

-- Private: how many numbers have no mark
abbrev pub unmarked : List Bool → ℕ
unmarked marks = count_by not marks
