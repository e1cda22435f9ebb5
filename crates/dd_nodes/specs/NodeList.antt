-- Reduced ordered binary decision diagrams in one list of nodes (R. E. Bryant, "Graph-Based
-- Algorithms for Boolean Function Manipulation", IEEE Transactions on Computers, 1986). Number 0
-- stands for false, 1 for true, and i + 2 for the i-th node of the list, counted from 0.
use Rattle.std.specs.Prelude.{◌≡◌, ◌≢◌, ℕ, zero, suc, ◌+◌, ◌-◌, ◌<◌, ◌≤◌, ◌==◌, ◌/◌, ◌%◌, Bool}
use Rattle.std.specs.Prelude.{if◌then◌else◌, List, [], ◌∷◌, ◌++◌, length, Option, Some, None}
use Rattle.std.specs.Prelude.{nat_lt, slice_get, slice_index}
use Rattle.std.specs.Int.{bit_at}
use Rattle.dd_nodes.specs.declared.node.Node.{Node}

-- a list of truth values: the value of each variable
abbrev pub Values : Type 0
Values = ℕ → Bool

-- the same values with one variable set
abbrev pub with_value : Values → ℕ → Bool → Values
with_value values v b u = if u == v then b else values u

-- the truth values that four words of 64 bits hold: variable v is bit v % 64 of word v / 64
abbrev pub values_of_bits : List ℕ → Values
values_of_bits words v = bit_at (slice_index words (v / 64)) (v % 64) == 1

-- n is a constant or the number of a node of the list
abbrev pub IsNumber : List Node → ℕ → Type 0
IsNumber nodes n = n < length nodes + 2

-- the node with a number; the constants have none
abbrev pub node_at : List Node → ℕ → Option Node
node_at nodes n = if nat_lt n 2 then None else slice_get nodes (n - 2)

-- where a walk goes from number n, whose node is given: to hi where the node's variable is true and
-- to lo where it is false
abbrev pub next_from : Values → ℕ → Option Node → ℕ
next_from values n None = n
next_from values n (Some node) = if values node.var then node.hi.0 else node.lo.0

-- one step of a walk; it stays at a constant
abbrev pub next : List Node → Values → ℕ → ℕ
next nodes values n = next_from values n (node_at nodes n)

-- where the walk from a number is after so many steps
unfoldable pub walk : List Node → Values → ℕ → ℕ → ℕ
walk nodes values zero n = n
walk nodes values (suc steps) n = walk nodes values steps (next nodes values n)

-- the function of a number: whether the walk from it ends at the constant true (as each step lowers
-- the number, n steps are enough)
unfoldable pub function : List Node → ℕ → Values → Bool
function nodes n values = walk nodes values n n == 1

-- a number stands below variable v in a diagram: it is a constant, or its node's variable is
-- greater
abbrev pub StandsBelow : List Node → ℕ → ℕ → Type 0
StandsBelow nodes v n = (node : Node) → node_at nodes n ≡ Some node → v < node.var

-- the same, or the node's variable is v itself
abbrev pub StandsFrom : List Node → ℕ → ℕ → Type 0
StandsFrom nodes v n = (node : Node) → node_at nodes n ≡ Some node → v ≤ node.var

-- no node of the list is this one
abbrev pub Lacks : List Node → Node → Type 0
Lacks nodes node = (n : ℕ) → node_at nodes n ≢ Some node

-- the list after has the nodes of the list before, under the numbers that they had, and maybe more
pub record Extends (before after : List Node) : Type 0 where
  pub more : List Node
  pub appended : after ≡ before ++ more

-- a node that was not in the list before, with different children, was appended and has the number
-- n
pub record Appends (before : List Node) (node : Node) (n : ℕ) (after : List Node) : Type 0 where
  pub tests : node.lo ≢ node.hi
  pub was_missing : Lacks before node
  pub number : n ≡ length before + 2
  pub appended : after ≡ before ++ node ∷ []

-- the list is reduced and ordered
pub record IsReduced (vars : ℕ) (nodes : List Node) : Type 0 where
  -- each variable is below the number of variables
  pub in_range : (n : ℕ) (node : Node) → node_at nodes n ≡ Some node → node.var < vars
  -- no node has equal children
  pub tests : (n : ℕ) (node : Node) → node_at nodes n ≡ Some node → node.lo ≢ node.hi
  -- no two nodes are equal
  pub distinct : (m n : ℕ) (node : Node) → node_at nodes m ≡ Some node → node_at nodes n ≡ Some node
      → m ≡ n
  -- each child has a lower number
  pub lo_before : (n : ℕ) (node : Node) → node_at nodes n ≡ Some node → node.lo.0 < n
  pub hi_before : (n : ℕ) (node : Node) → node_at nodes n ≡ Some node → node.hi.0 < n
  -- and, unless it is a constant, a greater variable
  pub lo_below : (n : ℕ) (node : Node) → node_at nodes n ≡ Some node
      → StandsBelow nodes node.var node.lo.0
  pub hi_below : (n : ℕ) (node : Node) → node_at nodes n ≡ Some node
      → StandsBelow nodes node.var node.hi.0
