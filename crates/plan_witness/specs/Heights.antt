-- Private: how many steps walks through a finite graph have from each of its numbers.
use Rattle.std.specs.Prelude.{◌≡◌, ◌<◌, ◌≤◌, ◌+◌, ◌-◌, ℕ, true, List, [], ◌∷◌, length, nat_lt}
use Rattle.std.specs.List.{Contains}
use Rattle.exec_graph.specs.declared.graphs.Graph.{Graph}
use Rattle.plan_check.specs.Walks.{IsWalk}
use Rattle.plan_witness.specs.Ways.{at}

-- Private: no walk from a number below n has more steps than the bound says
abbrev pub HasWalksWithin : ℕ → (ℕ → List ℕ) → ℕ → Type 0
HasWalksWithin n next bound = (i : ℕ) (rest : List ℕ) → i < n → IsWalk next i rest
    → length rest ≤ bound

-- Private: some walk from i has so many steps
pub record GoesFor (next : ℕ → List ℕ) (i steps : ℕ) : Type 0 where
  pub rest : List ℕ
  pub walk : IsWalk next i rest
  pub long : length rest ≡ steps

-- Private: each number has a height, and some walk from it has as many steps
pub record AreAttained (n : ℕ) (next : ℕ → List ℕ) (heights : List ℕ) : Type 0 where
  pub count : length heights ≡ n
  pub each : (i : ℕ) → i < n → GoesFor next i (at heights i)

-- Private: i is higher than each number that follows it
abbrev pub IsAbove : (ℕ → List ℕ) → List ℕ → ℕ → Type 0
IsAbove next heights i = (j : ℕ) → Contains (next i) j → at heights j + 1 ≤ at heights i

-- Private: the height of each number is the number of steps of a longest walk from it
pub record AreHeights (n : ℕ) (next : ℕ → List ℕ) (heights : List ℕ) : Type 0 where
  pub attained : AreAttained n next heights
  pub above : (i : ℕ) → i < n → IsAbove next heights i

-- Private: a number that follows i, and whose height is one less than another
pub record IsOneBelow (next : ℕ → List ℕ) (heights : List ℕ) (i height j : ℕ) : Type 0 where
  pub follows : Contains (next i) j
  pub lower : at heights j + 1 ≡ height

-- Private: by how much the heights may still grow up to a bound, together
abbrev pub room_left : ℕ → List ℕ → ℕ
room_left bound [] = 0
room_left bound (h ∷ heights) = (bound - h) + room_left bound heights

-- Private: an execution may begin in the number i, and in none below n that is higher
pub record IsHighestStart (graph : Graph) (heights : List ℕ) (n i : ℕ) : Type 0 where
  pub below : i < n
  pub initial : nat_lt i graph.initials ≡ true
  pub highest : (j : ℕ) → j < n → nat_lt j graph.initials ≡ true → at heights j ≤ at heights i

-- Private: an execution may begin in no number below n
abbrev pub HasNoStart : Graph → ℕ → Type 0
HasNoStart graph n = (i : ℕ) → i < n → nat_lt i graph.initials ≡ true → ⊥

-- Private: a walk from a number, of so many steps
pub record IsWayDown (next : ℕ → List ℕ) (start : ℕ) (numbers : List ℕ) (steps : ℕ) : Type 0 where
  pub walk : IsWalk next start numbers
  pub long : length numbers ≡ steps
