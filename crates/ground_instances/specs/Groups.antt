-- Private: types that have the same objects, found on the ways from the objects' types up.
use Rattle.std.specs.Prelude.{ℕ, ◌≡◌, ◌<◌, ◌≤◌, ◌⊎◌, Bool, true, false, List, All, length}
use Rattle.std.specs.Prelude.{slice_index, slice_index_or}
use Rattle.pddl_ast.specs.Fits.{ancestor}
use Rattle.pddl_system.specs.Objects.{is_kind_of}

-- Private: whether a way came to a type.
abbrev pub is_seen : List Bool → ℕ → Bool
is_seen seen t = slice_index_or seen t false

-- Private: what ways leave. Each goes on to the parent of a type that it came to. Where the parent
-- has another type than itself below it, no way came to it but from that one.
pub record AreWays (parents : List ℕ) (seen : List Bool) (below : List ℕ) : Type 0 where
  pub all_seen : length seen ≡ length parents
  pub all_below : length below ≡ length parents
  pub parent_seen : (t : ℕ) → is_seen seen t ≡ true → is_seen seen (slice_index parents t) ≡ true
  pub lone : (t : ℕ) → is_seen seen t ≡ true
      → (slice_index below (slice_index parents t) ≡ slice_index parents t)
      ⊎ (slice_index below (slice_index parents t) ≡ t)

-- Private: a way begins at a type.
pub record Begins (seen : List Bool) (below : List ℕ) (t : ℕ) : Type 0 where
  pub seen_first : is_seen seen t ≡ true
  pub below_none : slice_index below t ≡ t

-- Private: what the ways from some types leave.
pub record HasWays (parents types below : List ℕ) : Type 0 where
  pub seen : List Bool
  pub ways : AreWays parents seen below
  pub begun : All (Begins seen below) types

-- Private: from each type to itself, or to its parent where this has that type alone below it.
pub record AreSteps (parents below steps : List ℕ) : Type 0 where
  pub all_types : length steps ≡ length parents
  pub step : (t : ℕ) → t < length parents → (slice_index steps t ≡ t)
      ⊎ ((slice_index steps t ≡ slice_index parents t)
      × (slice_index below (slice_index parents t) ≡ t))

-- Private: where so many steps lead, as many as there are types or more.
pub record AreFar (steps far : List ℕ) : Type 0 where
  pub count : ℕ
  pub enough : length steps ≤ count
  pub all_types : length far ≡ length steps
  pub led : (t : ℕ) → t < length steps → slice_index far t ≡ ancestor steps count t

-- Private: groups of types by their topmost ones. A type has an object of one of the given types
-- just where the topmost type of its group has it, along the topmost types of the groups.
pub record AreGroups (parents types tops above : List ℕ) : Type 0 where
  pub all_tops : length tops ≡ length parents
  pub all_above : length above ≡ length parents
  pub tops_known : All (λ t. t < length parents) tops
  pub above_known : All (λ t. t < length parents) above
  pub same : All (λ d. (t : ℕ) → t < length parents
      → is_kind_of above (slice_index tops d) (slice_index tops t) ≡ is_kind_of parents d t) types
