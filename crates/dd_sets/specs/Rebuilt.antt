-- A set of one table in another, whose variables are the fluents in their own order.
use Rattle.std.specs.Prelude.{◌≡◌, ℕ, ◌<◌, ◌≤◌, List, length, Option, Some, None, ⊤}
use Rattle.std.specs.List.{Contains}
use Rattle.dd_cache.specs.declared.key.Key.{Key}
use Rattle.dd_nodes.specs.declared.node.Node.{Node}
use Rattle.dd_nodes.specs.NodeList.{IsNumber, function}
use Rattle.dd_nodes.specs.Table.{NodeTable}
use Rattle.dd_sets.specs.LiveSets.{LiveSets}
use Rattle.dd_sets.specs.Orders.{at_place, read}
use Rattle.dd_sets.specs.declared.listing.Tables.{Tables}

-- r has the set that a number of another table has in an order
pub record IsRebuilt (from : List Node) (order : List ℕ) (to : List Node) (number r : ℕ) : Type 0 where
  pub in_table : IsNumber to r
  pub value : function to r ≡ read order (function from number)

-- the key of a number
abbrev pub key_of : ℕ → Key
key_of number = record { op = 0; a = number; b = 0; c = 0; call = 0 }

-- what is remembered for a number is that
abbrev pub IsMemo : List Node → List ℕ → List Node → List (Key × ℕ) → Type 0
IsMemo from order to pairs = (number r : ℕ) → Contains pairs (key_of number, r) → IsRebuilt from order to number r

-- the fluents of a table's variables are below a bound
abbrev pub StaysWithin : ℕ → List ℕ → ℕ → Type 0
StaysWithin vars order bound = (v : ℕ) → v < vars → at_place order v < bound

-- the numbers before have their functions after
pub record KeepsFunctions (before after : NodeTable) : Type 0 where
  pub vars : after.vars ≡ before.vars
  pub longer : length before.nodes ≤ length after.nodes
  pub earlier : (n : ℕ) → IsNumber before.nodes n → function after.nodes n ≡ function before.nodes n

-- tables are over so many variables, and have for numbers of other nodes what these became there
pub record AreTablesOf (vars : ℕ) (from : List Node) (order : List ℕ) (tables : Tables)
    : Type 0 where
  pub vars_are : tables.to.vars ≡ vars
  pub memo : IsMemo from order tables.to.nodes tables.memo.pairs

-- so are those of a listing, where it has some
abbrev pub IsListing : ℕ → List Node → List ℕ → Option Tables → Type 0
IsListing vars from order None = ⊤
IsListing vars from order (Some tables) = AreTablesOf vars from order tables

-- a listing is one of these sets: it has no tables yet, or tables that belong to their nodes
abbrev pub IsListingOf : LiveSets → Option Tables → Type 0
IsListingOf sets tables = IsListing sets.vars sets.nodes sets.order tables
