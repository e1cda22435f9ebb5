-- Private: an operation on slots, and what each step of a call with it leaves.
use Rattle.std.specs.Prelude.{◌≡◌, ℕ, ◌+◌, ◌<◌, ◌≤◌, List, [], ◌∷◌, length, Result, IfOk}
use Rattle.std.specs.Prelude.{IsErrOf, is_some}
use Rattle.dd_nodes.specs.declared.node.DdErr.{DdErr}
use Rattle.dd_nodes.specs.declared.node.Ref.{Ref}
use Rattle.dd_nodes.specs.NodeList.{IsNumber, function}
use Rattle.dd_nodes.specs.Subfunctions.{Function, nodes}
use Rattle.dd_nodes.specs.Table.{IsNodeTable}
use Rattle.dd_ops.specs.Growth.{grow, subst_pieces}
use Rattle.dd_ops.specs.Operations.{variable, not_of, and_of, or_of, minus_of, cofactor_of}
use Rattle.dd_sets.specs.Calls.{AddsNone, KeepsSets, MakesOnly}
use Rattle.dd_sets.specs.LiveSets.{LiveSets, IsLive, IsSets, AllLive, is_live, set_of, live_count}
use Rattle.dd_sets.specs.LiveSets.{live_sets, listed_set, subst_set, table_of, values_by_sets}
use Rattle.dd_sets.specs.Orders.{read}
use Rattle.dd_sets.specs.Rooms.{IsAtLimit, IsFull}
use Rattle.dd_sets.specs.declared.errors.SetErr.{SetErr}
use Rattle.dd_sets.specs.declared.operation.Operation.{Operation}
use Rattle.dd_sets.specs.declared.operation.Operation.TheVariants.{Variable, Not, And, Or, Minus}
use Rattle.dd_sets.specs.declared.operation.Operation.TheVariants.{Cofactor, Subst}

-- the slots of an operation are live, and its fluent is one of the table's
abbrev pub IsReady : LiveSets → Operation → Type 0
IsReady sets (Variable f) = f.0 < sets.vars
IsReady sets (Not a) = IsLive sets a.0
IsReady sets (And a b) = IsLive sets a.0 × IsLive sets b.0
IsReady sets (Or a b) = IsLive sets a.0 × IsLive sets b.0
IsReady sets (Minus a b) = IsLive sets a.0 × IsLive sets b.0
IsReady sets (Cofactor a f value) = IsLive sets a.0 × (f.0 < sets.vars)
IsReady sets (Subst a map) = IsLive sets a.0 × AllLive sets map.now

-- the set that an operation answers
abbrev pub wanted : LiveSets → Operation → Function
wanted sets (Variable f) = variable f.0
wanted sets (Not a) = not_of (set_of sets a.0)
wanted sets (And a b) = and_of (set_of sets a.0) (set_of sets b.0)
wanted sets (Or a b) = or_of (set_of sets a.0) (set_of sets b.0)
wanted sets (Minus a b) = minus_of (set_of sets a.0) (set_of sets b.0)
wanted sets (Cofactor a f value) = cofactor_of (set_of sets a.0) f.0 value
wanted sets (Subst a map) = subst_set sets map.now (set_of sets a.0)

-- the functions whose nodes it may have to make
abbrev pub pieces : LiveSets → Operation → List Function
pieces sets (Variable f) = variable f.0 ∷ []
pieces sets (Not a) = not_of (set_of sets a.0) ∷ []
pieces sets (And a b) = and_of (set_of sets a.0) (set_of sets b.0) ∷ []
pieces sets (Or a b) = or_of (set_of sets a.0) (set_of sets b.0) ∷ []
pieces sets (Minus a b) = minus_of (set_of sets a.0) (set_of sets b.0) ∷ []
pieces sets (Cofactor a f value) = cofactor_of (set_of sets a.0) f.0 value ∷ []
pieces sets (Subst a map) =
    subst_pieces sets.vars (set_of sets a.0) (λ v. is_some (listed_set map.now v))
    (values_by_sets sets map.now)

-- the numbers before have their functions after, and stand in a table
pub record KeepsNumbers (before after : LiveSets) : Type 0 where
  pub vars : after.vars ≡ before.vars
  pub limit : after.limit ≡ before.limit
  pub order : after.order ≡ before.order
  pub table : IsNodeTable (table_of after)
  pub longer : length before.nodes ≤ length after.nodes
  pub earlier : (n : ℕ) → IsNumber before.nodes n → function after.nodes n ≡ function before.nodes n

-- one try of an operation: the slots hold their numbers, its answer is a number with the set, and
-- it finds no room only where the nodes of its pieces that the table lacked go beyond the limit
pub record Computes (before after : LiveSets) (operation : Operation)
    (result : Result Ref DdErr) : Type 0 where
  pub slots : after.live ≡ before.live
  pub keeps : KeepsNumbers before after
  pub value : IfOk result (λ r. read after.order (function after.nodes r.0) ≡ wanted before operation)
  pub in_table : IfOk result (λ r. IsNumber after.nodes r.0)
  pub made : MakesOnly (pieces before operation) before after
  pub at_limit : IsErrOf result DdErr.Full → IsAtLimit after
  pub beyond : before.order ≡ [] → IsErrOf result DdErr.Full → after.limit
      < length before.nodes + grow before.vars before.nodes (pieces before operation)

-- a collection: each slot is as live as before, with its set, and the table has the nodes of these
-- sets alone
pub record Collects (before after : LiveSets) : Type 0 where
  pub vars : after.vars ≡ before.vars
  pub limit : after.limit ≡ before.limit
  pub order : after.order ≡ before.order
  pub sound : IsSets after
  pub live : (slot : ℕ) → is_live after slot ≡ is_live before slot
  pub sets : (slot : ℕ) → set_of after slot ≡ set_of before slot
  pub count : live_count after ≡ live_count before
  pub all : live_sets after ≡ live_sets before
  pub nodes_left : before.order ≡ [] → length after.nodes ≡ nodes after.vars (live_sets after)
  pub made : MakesOnly [] before after

-- an operation with its second try: the slots are as live as before, with their sets, and its answer
-- is a number with the set
pub record Tries (before after : LiveSets) (operation : Operation)
    (result : Result Ref SetErr) : Type 0 where
  pub sound : IsSets after
  pub kept : KeepsSets before after
  pub same : AddsNone before after
  pub value : IfOk result (λ r. read after.order (function after.nodes r.0) ≡ wanted before operation)
  pub in_table : IfOk result (λ r. IsNumber after.nodes r.0)
  pub full : IsErrOf result SetErr.Full → IsFull before after (pieces before operation)
  pub made : MakesOnly (pieces before operation) before after
