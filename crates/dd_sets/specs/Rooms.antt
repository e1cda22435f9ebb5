-- When a table may have no room for a call.
use Rattle.std.specs.Prelude.{◌≡◌, ℕ, suc, ◌+◌, ◌*◌, ◌^◌, ◌<◌, ◌≤◌, Bool, List, [], ◌∷◌, ◌++◌, length}
use Rattle.std.specs.Prelude.{Contains, ◌⊎◌, ⊤, map}
use Rattle.dd_nodes.specs.NodeList.{Values}
use Rattle.dd_nodes.specs.Subfunctions.{DependsOnly, Function, nodes}
use Rattle.dd_ops.specs.Growth.{subst_pieces}
use Rattle.dd_sets.specs.Frames.{Slots}
use Rattle.dd_sets.specs.LiveSets.{LiveSets, live_count, live_sets}

-- a limit on nodes is tight for sets over so many fluents that have so many nodes: it is less than
-- the number of these nodes, and less than the number of sets there are
unfoldable pub Tight : ℕ → ℕ → ℕ → Type 0
Tight limit fluents nodes = (limit < nodes) × (limit < 2 ^ (2 ^ fluents))

-- the table holds as many nodes as it may
abbrev pub IsAtLimit : LiveSets → Type 0
IsAtLimit sets = length sets.nodes ≡ sets.limit

-- a call with these pieces was refused for want of room: the table holds as many nodes as it may, and
-- where the variables are the fluents in their own order, its limit is tight for the sets that were
-- live before the call and the pieces. The nodes are counted in that order, so in another one nothing
-- more is said than that the table is full
pub record IsFull (before after : LiveSets) (pieces : List Function) : Type 0 where
  pub at_limit : IsAtLimit after
  pub tight : before.order ≡ []
      → Tight after.limit after.vars (nodes after.vars (live_sets before ++ pieces))

-- a bound on nodes by slots: each set over so many fluents has fewer than 2 ^ fluents nodes, as it
-- has fewer different subfunctions that are no constants, and the pieces of one call fewer than 4 ^
-- fluents
abbrev pub nodes_of_slots : ℕ → ℕ → ℕ
nodes_of_slots slots fluents = slots * 2 ^ fluents + 4 ^ fluents

-- where the variables are the fluents in their own order, the limit is tight for the live sets, so
-- many slots more, and the pieces of one call
abbrev pub IsTightFor : ℕ → LiveSets → Type 0
IsTightFor more sets =
    sets.order ≡ [] → Tight sets.limit sets.vars (nodes_of_slots (live_count sets + more) sets.vars)

-- the pieces of one substitution in a set over so many fluents
pub record IsSubstitution (vars : ℕ) (pieces : List Function) : Type 0 where
  pub set : Function
  pub fluents : DependsOnly 0 vars set
  pub is_listed : ℕ → Bool
  pub replaced : Values → Values
  pub are : pieces ≡ subst_pieces vars set is_listed replaced

-- the pieces of one operation: one function, or those of one substitution
abbrev pub IsOneCall : ℕ → List Function → Type 0
IsOneCall vars pieces =
    ((piece : Function) × (pieces ≡ piece ∷ [])) ⊎ IsSubstitution vars pieces

-- a set over so many fluents is small for w: with the two constants its diagram has at most w nodes
unfoldable pub Small : ℕ → ℕ → Function → Type 0
Small vars w set = nodes vars (set ∷ []) + 2 ≤ w

-- sets are rough for w: together they have at most as many nodes as there are pairs of nodes of two
-- small sets, the constants among them. An operation on two small sets makes such a one (Bryant 1986,
-- section 4.3)
unfoldable pub AreRough : ℕ → ℕ → List Function → Type 0
AreRough vars w sets = nodes vars sets ≤ w * w

abbrev pub Rough : ℕ → ℕ → Function → Type 0
Rough vars w set = AreRough vars w (set ∷ [])

-- a call found no room. It had, besides the slots that were live at entry, at most so many of its
-- own, each with a small set, or, in at most `others` of them, with a rough one; the table holds as
-- many nodes as it may; the pieces of the operation that was refused are rough; and where the
-- variables are the fluents in their own order, the limit is tight for the nodes of the sets that
-- were live at entry, these sets, and the pieces
pub record NoRoom (w most others : ℕ) (before after : LiveSets) : Type 0 where
  pub at_limit : IsAtLimit after
  pub own : List Function
  pub rough : List Function
  pub few : length own + length rough ≤ most
  pub few_rough : length rough ≤ others
  pub each : (set : Function) → Contains own set → Small before.vars w set
  pub each_rough : (set : Function) → Contains rough set → Rough before.vars w set
  pub pieces : List Function
  pub one_call : IsOneCall before.vars pieces
  pub made : AreRough before.vars w pieces
  pub tight : before.order ≡ [] → Tight before.limit before.vars
      (nodes before.vars (live_sets before ++ own ++ rough ++ pieces))

-- the sets that slots hold
abbrev pub sets_in : Slots → List Function
sets_in slots = map (λ entry. entry.1) slots

-- each slot's set is small, but for at most so many, which are rough
abbrev pub AreSized : ℕ → ℕ → ℕ → Slots → Type 0
AreSized vars w most_rough [] = ⊤
AreSized vars w most_rough (entry ∷ own) =
    (Small vars w entry.1 × AreSized vars w most_rough own)
    ⊎ (Rough vars w entry.1 × (rest : ℕ) × (most_rough ≡ suc rest) × AreSized vars w rest own)
