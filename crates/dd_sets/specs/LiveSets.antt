-- What callers see of the sets of a table: a finite map from live slots to sets. A set of lists of
-- truth values is the test of its members, a function on lists of truth values (Bryant 1986: the
-- characteristic function).
use Rattle.std.specs.Prelude.{◌≡◌, ℕ, Bool, true, false, List, map, Option, Some, None, is_some}
use Rattle.std.specs.Prelude.{option_map, find, ◌==◌, filter_map, count_by, slice_index_or, All}
use Rattle.std.specs.Option.{option_map_or}
use Rattle.dd_nodes.specs.declared.node.Node.{Node}
use Rattle.dd_nodes.specs.declared.node.Ref.{Ref}
use Rattle.dd_nodes.specs.NodeList.{Values, IsNumber, function}
use Rattle.dd_nodes.specs.Subfunctions.{Function}
use Rattle.dd_nodes.specs.Table.{NodeTable, IsNodeTable}
use Rattle.task_core.specs.declared.literals.FluentId.{FluentId}
use Rattle.dd_sets.specs.Orders.{read, IsOrder}
use Rattle.dd_sets.specs.declared.slots.SetId.{SetId}

-- the number of fluents, the largest number of nodes, the fluent of each variable where a variable is
-- not just the fluent of its own number, the nodes in the order of their numbers, and for each slot
-- the number of the set that it holds, or nothing
pub record LiveSets : Type 0 where
  pub vars : ℕ
  pub limit : ℕ
  pub order : List ℕ
  pub nodes : List Node
  pub live : List (Option Ref)

-- the node table of the sets
abbrev pub table_of : LiveSets → NodeTable
table_of sets = record { vars = sets.vars; limit = sets.limit; nodes = sets.nodes }

-- the number of the set that a slot holds, if it holds one
abbrev pub number_at : LiveSets → ℕ → Option Ref
number_at sets slot = slice_index_or sets.live slot None

-- whether a slot holds a set
unfoldable pub is_live : LiveSets → ℕ → Bool
is_live sets slot = is_some (number_at sets slot)

-- the slot holds a set
abbrev pub IsLive : LiveSets → ℕ → Type 0
IsLive sets slot = is_live sets slot ≡ true

-- the empty set, and the set of all lists of truth values
abbrev pub nothing : Function
nothing values = false

abbrev pub everything : Function
everything values = true

-- the set that a slot holds: whether a list of truth values is in it, for every list; empty where
-- the slot is not live
unfoldable pub set_of : LiveSets → ℕ → Function
set_of sets slot =
    option_map_or (λ number. read sets.order (function sets.nodes number.0)) (number_at sets slot) nothing

-- how many slots are live, and the sets that they hold
unfoldable pub live_count : LiveSets → ℕ
live_count sets = count_by is_some sets.live

unfoldable pub live_sets : LiveSets → List Function
live_sets sets =
    map (λ (number : Ref). read sets.order (function sets.nodes number.0))
    (filter_map (λ slot. slot) sets.live)

-- the set that a list gives a fluent, if it lists the fluent; of two entries for a fluent the first
-- counts
abbrev pub listed_set : List (FluentId × SetId) → ℕ → Option SetId
listed_set map f = option_map (λ entry. entry.1) (find (λ entry. entry.0.0 == f) map)

-- the values in which each listed fluent is true where its set has these values
abbrev pub values_by_sets : LiveSets → List (FluentId × SetId) → Values → Values
values_by_sets sets map values f =
    option_map_or (λ set. set_of sets set.0 values) (listed_set map f) (values f)

-- the lists of truth values that are in a set once each listed fluent has the truth of its set, all
-- at once
abbrev pub subst_set : LiveSets → List (FluentId × SetId) → Function → Function
subst_set sets map set values = set (values_by_sets sets map values)

-- each slot that a list names is live
abbrev pub AllLive : LiveSets → List (FluentId × SetId) → Type 0
AllLive sets map = All (λ entry. IsLive sets entry.1.0) map

-- what is true of the sets of every table: the table is reduced and within its limit, each slot's
-- number is in it, and each variable stands for a fluent of its own
pub record IsSets (sets : LiveSets) : Type 0 where
  pub table : IsNodeTable (table_of sets)
  pub numbers : (slot : ℕ) (number : Ref) → number_at sets slot ≡ Some number
      → IsNumber sets.nodes number.0
  pub order : IsOrder sets.vars sets.order
