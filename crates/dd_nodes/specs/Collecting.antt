-- Collection: what is left of a list of nodes when only those are kept that some numbers, the
-- roots, need.
use Rattle.std.specs.Prelude.{◌≡◌, ℕ, zero, suc, ◌+◌, ◌-◌, ◌<◌, ◌≤◌, Some, nat_lt, if◌then◌else◌}
use Rattle.std.specs.Prelude.{List, map, length, slice_get, slice_index, slice_set}
use Rattle.std.specs.List.{All, Any}
use Rattle.dd_nodes.specs.declared.node.Node.{Node}
use Rattle.dd_nodes.specs.declared.node.Ref.{Ref}
use Rattle.dd_nodes.specs.NodeList.{IsNumber, function}
use Rattle.dd_nodes.specs.Reached.{IsReached}

-- after a collection: as many roots as before, each at its place a number of the new list with the
-- function that it had, and each node of the new list is reached from a root
pub record Collected (before after : List Node) (old new : List Ref) : Type 0 where
  pub count : length new ≡ length old
  pub numbers : All (λ (r : Ref). IsNumber after r.0) new
  pub functions : map (λ (r : Ref). function after r.0) new ≡ map (λ (r : Ref). function before r.0) old
  pub reached : (n : ℕ) → 2 ≤ n → IsNumber after n → Any (λ (r : Ref). IsReached after r.0 n) new

-- a number is a constant, or its node has a mark, which is a number that is not 0
abbrev pub HasMark : List ℕ → ℕ → Type 0
HasMark marks n = 2 ≤ n → 0 < slice_index marks (n - 2)

-- the node at place i is a root's, or a child of a marked node
pub data IsCaused (nodes : List Node) (roots : List Ref) (marks : List ℕ) (i : ℕ) : Type 0 where
  as_root : Any (λ (r : Ref). r.0 ≡ i + 2) roots → IsCaused nodes roots marks i
  as_lo : (place : ℕ) (node : Node) → 0 < slice_index marks place → slice_get nodes place ≡ Some node → node.lo.0 ≡ i + 2
      → IsCaused nodes roots marks i
  as_hi : (place : ℕ) (node : Node) → 0 < slice_index marks place → slice_get nodes place ≡ Some node → node.hi.0 ≡ i + 2
      → IsCaused nodes roots marks i

-- the marks stand at the nodes that the roots need: at the roots, with each node at its children,
-- and nowhere without cause. From place `low` on they stand at the children
pub record AreMarks (nodes : List Node) (roots : List Ref) (marks : List ℕ) (low : ℕ) : Type 0 where
  pub size : length marks ≡ length nodes
  pub roots_have : All (λ (r : Ref). HasMark marks r.0) roots
  pub los_have : (i : ℕ) (node : Node) → low ≤ i → 0 < slice_index marks i → slice_get nodes i ≡ Some node → HasMark marks node.lo.0
  pub his_have : (i : ℕ) (node : Node) → low ≤ i → 0 < slice_index marks i → slice_get nodes i ≡ Some node → HasMark marks node.hi.0
  pub caused : (i : ℕ) → 0 < slice_index marks i → IsCaused nodes roots marks i

-- these marks and one at the node of a number; a constant has none
abbrev pub with_mark : List ℕ → ℕ → List ℕ
with_mark marks n = if nat_lt n 2 then marks else slice_set marks (n - 2) 1

-- each child stands before its parent
pub record AreInOrder (nodes : List Node) : Type 0 where
  pub lo_before : (i : ℕ) (node : Node) → slice_get nodes i ≡ Some node → node.lo.0 < i + 2
  pub hi_before : (i : ℕ) (node : Node) → slice_get nodes i ≡ Some node → node.hi.0 < i + 2

-- the children of each marked node have their marks
pub record AreClosed (nodes : List Node) (marks : List ℕ) : Type 0 where
  pub size : length marks ≡ length nodes
  pub los_have : (i : ℕ) (node : Node) → 0 < slice_index marks i → slice_get nodes i ≡ Some node → HasMark marks node.lo.0
  pub his_have : (i : ℕ) (node : Node) → 0 < slice_index marks i → slice_get nodes i ≡ Some node → HasMark marks node.hi.0

-- how many of the first k places have a mark
unfoldable pub marked_below : List ℕ → ℕ → ℕ
marked_below marks zero = 0
marked_below marks (suc k) = if nat_lt 0 (slice_index marks k) then suc (marked_below marks k) else marked_below marks k

-- the new number of a number: a constant keeps its own, and the marked nodes are counted anew
abbrev pub renumbered : List ℕ → ℕ → ℕ
renumbered marks n = if nat_lt n 2 then n else marked_below marks (n - 2) + 2

-- the same of a root
abbrev pub new_root : List ℕ → Ref → Ref
new_root marks r = record { 0 = renumbered marks r.0 }

-- a node with its children's new numbers
abbrev pub new_node : List ℕ → Node → Node
new_node marks node = record { var = node.var; lo = new_root marks node.lo; hi = new_root marks node.hi }

-- the list after has the marked nodes of the list before, in their order, with the new numbers of
-- their children
pub record Keeps (marks : List ℕ) (before after : List Node) : Type 0 where
  pub count : length after ≡ marked_below marks (length before)
  pub nodes : (i : ℕ) (node : Node) → 0 < slice_index marks i → slice_get before i ≡ Some node
      → slice_get after (marked_below marks i) ≡ Some (new_node marks node)

-- marks that are the new places, counted from 1, give the new number of a number
abbrev pub number_by : List ℕ → ℕ → ℕ
number_by marks n = if nat_lt n 2 then n else slice_index marks (n - 2) + 1

-- a root and a node with the new numbers that such marks give
abbrev pub root_by : List ℕ → Ref → Ref
root_by marks r = record { 0 = number_by marks r.0 }

abbrev pub node_by : List ℕ → Node → Node
node_by marks node = record { var = node.var; lo = root_by marks node.lo; hi = root_by marks node.hi }

-- the mark of a number, which is a constant or has a place among the marks, is a place of a table
abbrev pub HasPlace : List ℕ → ℕ → Type 0
HasPlace marks n = (n < length marks + 2) × (2 ≤ n → slice_index marks (n - 2) ≤ 16777216)

-- the marks after are the new places of the nodes that had marks before, counted from 1
abbrev pub AreNewPlaces : List ℕ → List ℕ → Type 0
AreNewPlaces before after = (i : ℕ) → 0 < slice_index before i → slice_index after i ≡ marked_below before i + 1

-- the list after has the nodes of the list before that the roots need, and the roots their new
-- numbers
pub record IsCollection (before after : List Node) (old new : List Ref) : Type 0 where
  pub marks : List ℕ
  pub needed : AreMarks before old marks 0
  pub kept : Keeps marks before after
  pub roots : new ≡ map (new_root marks) old
