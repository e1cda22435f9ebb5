-- Private: numbers behind slots.
use Rattle.std.specs.Prelude.{◌≡◌, ◌≢◌, ℕ, ◌+◌, List, [], ◌∷◌, Option, Some, None, Result, IfOk}
use Rattle.std.specs.Prelude.{OnErr, IfErr, is_some, count_by, slice_index_or, map, unwrap_or, ◌-◌}
use Rattle.dd_nodes.specs.NodeList.{function}
use Rattle.task_core.specs.Cubes.{SetOfVectors}
use Rattle.task_core.specs.Vectors.{value_of}
use Rattle.task_core.specs.declared.literals.FluentId.{FluentId}
use Rattle.dd_nodes.specs.declared.node.Node.{Node}
use Rattle.dd_nodes.specs.Table.{NodeTable}
use Rattle.dd_sets.specs.declared.errors.SetErr.{SetErr}
use Rattle.dd_sets.specs.LiveSets.{LiveSets, number_at}
use Rattle.dd_sets.specs.Orders.{at_place, AreInverse}
use Rattle.dd_sets.specs.declared.slots.SetId.{SetId}
use Rattle.dd_nodes.specs.declared.node.Ref.{Ref}

-- a number stands in a slot that was free, and every other slot is as it was
pub record IsStored (before after : List (Option Ref)) (number : Ref) (slot : ℕ) : Type 0 where
  pub free : slice_index_or before slot None ≡ None
  pub changed : slice_index_or after slot None ≡ Some number
  pub others : (other : ℕ) → other ≢ slot → slice_index_or after other None
      ≡ slice_index_or before other None
  pub count : count_by is_some after ≡ count_by is_some before + 1

-- what a new slot for a number leaves in the list of slots
pub record Stored (before after : List (Option Ref)) (number : Ref)
    (result : Result SetId SetErr) : Type 0 where
  pub stored : IfOk result (λ slot. IsStored before after number slot.0)
  pub refused : OnErr result (after ≡ before)
  pub memory : IfErr result (λ e. e ≡ SetErr.Memory)

-- the slots with new numbers, one for each slot that has one, in their order
unfoldable pub renumbered : List (Option Ref) → List Ref → List (Option Ref)
renumbered [] numbers = []
renumbered (None ∷ slots) numbers = None ∷ renumbered slots numbers
renumbered (Some old ∷ slots) [] = Some old ∷ slots
renumbered (Some old ∷ slots) (number ∷ numbers) = Some number ∷ renumbered slots numbers

-- the sets of a table with these numbers in its slots, in an order
abbrev pub view_of : List ℕ → NodeTable → List (Option Ref) → LiveSets
view_of order table live = record {
  vars = table.vars;
  limit = table.limit;
  order = order;
  nodes = table.nodes;
  live = live;
}

-- the number that a slot holds, and that of the empty set where it holds none
abbrev pub ref_at : LiveSets → ℕ → Ref
ref_at sets slot = unwrap_or (number_at sets slot) (record { 0 = 0 })

-- the variables of a list's fluents, with the numbers of the sets that it gives them
abbrev pub refs_of : List ℕ → LiveSets → List (FluentId × SetId) → List (ℕ × Ref)
refs_of variables sets entries =
    map (λ entry. (at_place variables entry.0.0, ref_at sets entry.1.0)) entries

-- the variables and numbers for a substitution in an order
pub record AreRefs (sets : LiveSets) (entries : List (FluentId × SetId))
    (numbers : List (ℕ × Ref)) : Type 0 where
  pub variables : List ℕ
  pub inverse : AreInverse sets.vars sets.order variables
  pub are : numbers ≡ refs_of variables sets entries

-- the set of a number, over the fluents from the given one on
abbrev pub set_from : List Node → ℕ → ℕ → SetOfVectors
set_from nodes first number state = function nodes number (λ f. value_of state (f - first))
