-- What a call leaves in the slots and in the table.
use Rattle.std.specs.Prelude.{◌≡◌, ◌≢◌, ℕ, ◌+◌, true, false, ◌⊎◌, List, []}
use Rattle.dd_nodes.specs.NodeList.{IsNumber, function}
use Rattle.dd_nodes.specs.Subfunctions.{Function}
use Rattle.dd_ops.specs.Growth.{IsPart}
use Rattle.dd_sets.specs.LiveSets.{LiveSets, IsLive, is_live, set_of, live_count}

-- the fluents, the limit and the order are the same, and each slot that was live is live and holds the set
-- that it held
pub record KeepsSets (before after : LiveSets) : Type 0 where
  pub vars : after.vars ≡ before.vars
  pub limit : after.limit ≡ before.limit
  pub order : after.order ≡ before.order
  pub live : (slot : ℕ) → IsLive before slot → IsLive after slot
  pub sets : (slot : ℕ) → IsLive before slot → set_of after slot ≡ set_of before slot

-- one slot became live, and holds this set; no other slot became live
pub record Adds (before after : LiveSets) (slot : ℕ) (set : Function) : Type 0 where
  pub free : is_live before slot ≡ false
  pub live : is_live after slot ≡ true
  pub holds : set_of after slot ≡ set
  pub others : (other : ℕ) → other ≢ slot → is_live after other ≡ is_live before other
  pub count : live_count after ≡ live_count before + 1

-- no slot became live
pub record AddsNone (before after : LiveSets) : Type 0 where
  pub others : (other : ℕ) → is_live after other ≡ is_live before other
  pub count : live_count after ≡ live_count before

-- a live slot is live no more; each other slot is live if it was, and holds the set that it held;
-- the nodes are as they were
pub record Releases (before after : LiveSets) (slot : ℕ) : Type 0 where
  pub vars : after.vars ≡ before.vars
  pub limit : after.limit ≡ before.limit
  pub order : after.order ≡ before.order
  pub nodes : after.nodes ≡ before.nodes
  pub ended : is_live after slot ≡ false
  pub live : (other : ℕ) → other ≢ slot → is_live after other ≡ is_live before other
  pub sets : (other : ℕ) → other ≢ slot → set_of after other ≡ set_of before other
  pub count : live_count after + 1 ≡ live_count before

-- a call with these pieces makes no other nodes: each number of the table after it has the function
-- of a number of the table before it, or of a subfunction of a piece. It is said of the order of the
-- fluents, as subfunctions are: in another order a call makes other nodes
pub record MakesOnly (pieces : List Function) (before after : LiveSets) : Type 0 where
  pub numbers : before.order ≡ [] → (n : ℕ) → IsNumber after.nodes n
      → ((m : ℕ) × IsNumber before.nodes m × (function after.nodes n ≡ function before.nodes m))
      ⊎ IsPart before.vars pieces (function after.nodes n)
