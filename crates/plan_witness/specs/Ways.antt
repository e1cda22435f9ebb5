-- Private: the shortest ways through a finite graph whose nodes are the numbers below n, each with
-- the list of those that follow it.
use Rattle.std.specs.Prelude.{◌≡◌, ◌<◌, ◌≤◌, ◌+◌, ◌==◌, ◌↔◌, ℕ, Bool, true, false, List, ◌∷◌}
use Rattle.std.specs.Prelude.{count_by, length, slice_index_or}
use Rattle.std.specs.List.{Contains}
use Rattle.plan_check.specs.Walks.{IsMarked, IsWalk, last_number}

-- Private: the length of a way to a number that none leads to
abbrev pub far : ℕ
far = 4294967295

-- Private: the number at a place
abbrev pub at : List ℕ → ℕ → ℕ
at xs i = slice_index_or xs i 0

-- Private: to how many numbers no way is known
abbrev pub far_count : List ℕ → ℕ
far_count lengths = count_by (λ x. x == far) lengths

-- Private: the way to i comes from the number before it, by one step
pub record IsStepBack (n : ℕ) (next : ℕ → List ℕ) (lengths before : List ℕ) (i : ℕ) : Type 0 where
  pub below : at before i < n
  pub follows : Contains (next (at before i)) i
  pub longer : at lengths (at before i) + 1 ≡ at lengths i

-- Private: the numbers below `done` to which the way has `now` steps, and all to which it has fewer,
-- were visited: their followers have ways that are at most one step longer
pub record IsRound (n : ℕ) (next : ℕ → List ℕ) (lengths before : List ℕ) (now done : ℕ) : Type 0 where
  pub lengths_count : length lengths ≡ n
  pub before_count : length before ≡ n
  pub most : (i : ℕ) → i < n → at lengths i < far → at lengths i ≤ now + 1
  pub earlier : (i j : ℕ) → i < n → at lengths i < now → Contains (next i) j
      → at lengths j ≤ at lengths i + 1
  pub visited : (i j : ℕ) → i < n → i < done → at lengths i ≡ now → Contains (next i) j
      → at lengths j ≤ now + 1
  pub back : (i : ℕ) → i < n → 0 < at lengths i → at lengths i < far
      → IsStepBack n next lengths before i

-- Private: ways to more numbers are known, where some were found; those of no step are the same
pub record HasGrown (before after : List ℕ) (found : Bool) : Type 0 where
  pub zeros : (i : ℕ) → (at after i ≡ 0) ↔ (at before i ≡ 0)
  pub more : found ≡ true → far_count after < far_count before
  pub same : found ≡ false → after ≡ before
  pub fewer : far_count after ≤ far_count before

-- Private: of the followers of a number, to which the way has `now` steps, the first k have ways
pub record IsVisiting (n : ℕ) (next : ℕ → List ℕ) (lengths before : List ℕ) (now number k : ℕ) : Type 0 where
  pub round : IsRound n next lengths before now number
  pub here : at lengths number ≡ now
  pub passed : (m : ℕ) → m < k → at lengths (slice_index_or (next number) m 0) ≤ now + 1

-- Private: the ways are the shortest from the numbers with a mark
pub record AreWays (n : ℕ) (next : ℕ → List ℕ) (starts : List Bool) (lengths before : List ℕ) : Type 0 where
  pub lengths_count : length lengths ≡ n
  pub before_count : length before ≡ n
  pub begun : (i : ℕ) → i < n → IsMarked starts i ↔ (at lengths i ≡ 0)
  pub settled : (i j : ℕ) → i < n → at lengths i < far → Contains (next i) j
      → at lengths j ≤ at lengths i + 1
  pub reaches : (i j : ℕ) → i < n → at lengths i < far → Contains (next i) j → at lengths j < far
  pub back : (i : ℕ) → i < n → 0 < at lengths i → at lengths i < far
      → IsStepBack n next lengths before i

-- Private: number i has a mark and a way to it, and no number with a mark has a shorter one
pub record IsNearest (lengths : List ℕ) (marks : List Bool) (i : ℕ) : Type 0 where
  pub marked : IsMarked marks i
  pub reached : at lengths i < far
  pub least : (j : ℕ) → IsMarked marks j → at lengths i ≤ at lengths j

-- Private: the same, from whatever numbers
abbrev pub AreWaysFromSome : ℕ → (ℕ → List ℕ) → List ℕ → List ℕ → Type 0
AreWaysFromSome n next lengths before =
    (starts : List Bool) × AreWays n next starts lengths before

-- Private: a way to the number `end` from one to which the way has no step, in no more steps than the
-- way to it has
pub record IsWayBack (n : ℕ) (next : ℕ → List ℕ) (lengths : List ℕ) (end start : ℕ)
    (numbers : List ℕ) : Type 0 where
  pub below : start < n
  pub first : at lengths start ≡ 0
  pub walk : IsWalk next start numbers
  pub ends : last_number start numbers ≡ end
  pub long : length numbers ≤ at lengths end

-- Private: a way from a number with a mark to one with a property, to which none is shorter
pub record IsShortestWay (next : ℕ → List ℕ) (starts : List Bool) (P : ℕ → Type 0) (start : ℕ)
    (numbers : List ℕ) : Type 0 where
  pub begins : IsMarked starts start
  pub walk : IsWalk next start numbers
  pub shows : P (last_number start numbers)
  pub least : (i : ℕ) (rest : List ℕ) → IsMarked starts i → IsWalk next i rest
      → P (last_number i rest)
      → length numbers ≤ length rest

-- Private: no way leads from a number with a mark to one with a property
abbrev pub NoneLeads : (ℕ → List ℕ) → List Bool → (ℕ → Type 0) → Type 0
NoneLeads next starts P = (i : ℕ) (rest : List ℕ) → IsMarked starts i → IsWalk next i rest
    → P (last_number i rest) → ⊥

-- Private: some walk of one step or more from i ends at i
pub record IsOnRound (next : ℕ → List ℕ) (i : ℕ) : Type 0 where
  pub follower : ℕ
  pub rest : List ℕ
  pub walk : IsWalk next i (follower ∷ rest)
  pub round : last_number follower rest ≡ i

-- Private: some walk from number i comes back to it, and from no number with a shorter way
pub record IsNearestRound (n : ℕ) (next : ℕ → List ℕ) (lengths : List ℕ) (i : ℕ) : Type 0 where
  pub below : i < n
  pub on : IsOnRound next i
  pub reached : at lengths i < far
  pub least : (j : ℕ) → j < n → IsOnRound next j → at lengths i ≤ at lengths j

-- Private: a walk from i back to i, by the follower `start`, than which none is shorter
pub record IsShortestRoundAt (next : ℕ → List ℕ) (i start : ℕ) (numbers : List ℕ) : Type 0 where
  pub follows : Contains (next i) start
  pub walk : IsWalk next start numbers
  pub round : last_number start numbers ≡ i
  pub least : (follower : ℕ) (rest : List ℕ) → IsWalk next i (follower ∷ rest)
      → last_number follower rest ≡ i
      → length numbers ≤ length rest
