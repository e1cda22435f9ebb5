-- The laws of growth.
use Rattle.std.specs.Prelude.{◌≡◌, ◌≢◌, ◌↔◌, Some, ℕ, ◌+◌, ◌^◌, ◌<◌, ◌≤◌, true, List, [], ◌∷◌, ◌++◌}
use Rattle.std.specs.Prelude.{length}
use Rattle.dd_nodes.specs.declared.node.Node.{Node}
use Rattle.dd_nodes.specs.NodeList.{node_at, IsNumber, IsReduced, StandsBelow, Lacks, function}
use Rattle.dd_nodes.specs.Reached.{IsReached}
use Rattle.dd_nodes.specs.Subfunctions.{Function}
use Rattle.dd_nodes.specs.Table.{NodeTable, IsNodeTable}
use Rattle.dd_nodes.specs.declared.node.Ref.{Ref}
use Rattle.dd_ops.specs.Operations.{variable, ite_of}
use Rattle.dd_ops.specs.Growth.{grow, AddsParts, LacksPart, depends_on, pieces_of_subst}

-- a list that adds parts of the pieces alone adds no more nodes than `grow` counts
abbrev pub GrowsWithin : Type 0
GrowsWithin =
    (vars : ℕ) (pieces : List Function) (before after : List Node) → IsReduced vars before
    → AddsParts vars pieces before after
    → length after ≤ length before + grow vars before pieces

-- and fewer where it still lacks a part: if it holds `limit` nodes, it held more than `limit` less
-- `grow` before
abbrev pub FullOnlyBeyond : Type 0
FullOnlyBeyond =
    (vars : ℕ) (pieces : List Function) (before after : List Node) → IsReduced vars before
    → AddsParts vars pieces before after → LacksPart vars pieces after
    → (limit : ℕ) → length after ≡ limit → limit < length before + grow vars before pieces

-- the function that a node would have which the list lacks is that of no number
abbrev pub RefusedNodeIsMissing : Type 0
RefusedNodeIsMissing =
    (vars : ℕ) (nodes : List Node) (node : Node) → IsReduced vars nodes → node.var < vars → node.lo
    ≢ node.hi → Lacks nodes node
    → IsNumber nodes node.lo.0 → IsNumber nodes node.hi.0 → StandsBelow nodes node.var node.lo.0
    → StandsBelow nodes node.var node.hi.0
    → LacksPart vars (ite_of (variable node.var) (function nodes node.hi.0)
    (function nodes node.lo.0) ∷ []) nodes

-- one piece needs fewer nodes than there are lists of truth values, and more pieces need no more
-- than each alone
abbrev pub PieceGrowsBelow : Type 0
PieceGrowsBelow =
    (vars : ℕ) (before : List Node) (piece : Function) → grow vars before (piece ∷ []) < 2 ^ vars

abbrev pub PiecesGrowTogether : Type 0
PiecesGrowTogether =
    (vars : ℕ) (before : List Node) (pieces others : List Function)
    → grow vars before (pieces ++ others) ≤ grow vars before pieces + grow vars before others

-- a substitution in a number of a table over `vars` variables needs at most `4 ^ vars` new nodes
abbrev pub SubstitutionGrowsWithin : Type 0
SubstitutionGrowsWithin =
    (table : NodeTable) → IsNodeTable table → (map : List (ℕ × Ref)) (n : ℕ)
    → IsNumber table.nodes n
    → grow table.vars table.nodes (pieces_of_subst table.vars table.nodes map n) ≤ 4 ^ table.vars

-- the variables on which a number's function depends are those of the nodes that are reached from
-- it
abbrev pub VariablesAreReached : Type 0
VariablesAreReached =
    (vars : ℕ) (nodes : List Node) → IsReduced vars nodes → (n : ℕ) → IsNumber nodes n → (v : ℕ)
    → (depends_on vars (function nodes n) v ≡ true)
    ↔ ((m : ℕ) × (node : Node) × IsReached nodes n m × (node_at nodes m ≡ Some node)
    × (node.var ≡ v))
