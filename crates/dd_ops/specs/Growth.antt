-- How many nodes a call adds at most, counted by functions: a call makes no node but those of its
-- pieces, which are the functions that its contract names. Equal functions have one node in a
-- reduced list (Bryant 1986), so what the call adds is at most the number of the pieces' different
-- subfunctions that no number of the list has.
use Rattle.std.specs.Prelude.{◌≡◌, ℕ, ◌+◌, ◌<◌, ◌≤◌, Bool, true, false, not, ◌&&◌, List, ◌++◌}
use Rattle.std.specs.Prelude.{length, map, filter, is_some, Result, IsErrOf}
use Rattle.std.specs.List.{Any, range_with_len}
use Rattle.dd_nodes.specs.declared.node.DdErr.{DdErr}
use Rattle.dd_nodes.specs.declared.node.DdErr.TheVariants.{Full}
use Rattle.dd_nodes.specs.declared.node.Node.{Node}
use Rattle.dd_nodes.specs.declared.node.Ref.{Ref}
use Rattle.dd_nodes.specs.NodeList.{Values, IsNumber, IsReduced, Extends, function}
use Rattle.dd_nodes.specs.Subfunctions.{Function, IsSubfunction, agree, subfunctions, nodes_beside}
use Rattle.dd_nodes.specs.Subfunctions.{functions}
use Rattle.dd_nodes.specs.Table.{NodeTable}
use Rattle.dd_ops.specs.Operations.{variable, cofactor_of, listed, replaced}

-- how many different subfunctions of the pieces no number of the list has; a constant is a number
-- of every list
abbrev pub grow : ℕ → List Node → List Function → ℕ
grow vars before pieces = nodes_beside vars (functions before) pieces

-- a function is a part of the pieces: it is a subfunction of one of them
abbrev pub IsPart : ℕ → List Function → Function → Type 0
IsPart vars pieces part = Any (λ piece. IsSubfunction vars piece part) pieces

-- a reduced list has the nodes of the list before, under the numbers that they had, and the
-- function of each other number is a part of the pieces
pub record AddsParts (vars : ℕ) (pieces : List Function) (before after : List Node) : Type 0 where
  pub extends : Extends before after
  pub reduced : IsReduced vars after
  pub parts : (n : ℕ) → length before + 2 ≤ n → IsNumber after n
      → IsPart vars pieces (function after n)

-- some part of the pieces is the function of no number of the list
pub record LacksPart (vars : ℕ) (pieces : List Function) (nodes : List Node) : Type 0 where
  pub missing : Function
  pub part : IsPart vars pieces missing
  pub nowhere : (n : ℕ) → IsNumber nodes n → agree vars missing (function nodes n) ≡ false

-- whether a function depends on a variable: fixed at true and at false it differs
abbrev pub depends_on : ℕ → Function → ℕ → Bool
depends_on vars f v = not (agree vars (cofactor_of f v true) (cofactor_of f v false))

-- the pieces of a substitution in f, where `replaced` gives each variable its value and `is_listed`
-- tells those that have another function: what each subfunction of f becomes, and each variable
-- that is not listed and on which f depends
unfoldable pub subst_pieces : ℕ → Function → (ℕ → Bool) → (Values → Values) → List Function
subst_pieces vars f is_listed replaced =
    map (λ g values. g (replaced values)) (subfunctions vars f)
    ++ map variable (filter (λ v. depends_on vars f v && not (is_listed v)) (range_with_len 0 vars))

-- the pieces of a substitution in a number, by a list of variables and the numbers that replace
-- them
abbrev pub pieces_of_subst : ℕ → List Node → List (ℕ × Ref) → ℕ → List Function
pieces_of_subst vars nodes map n =
    subst_pieces vars (function nodes n) (λ v. is_some (listed map v)) (replaced nodes map)

-- a call with these pieces adds at most `grow` nodes
abbrev pub AddsAtMost : List Function → NodeTable → NodeTable → Type 0
AddsAtMost pieces before after =
    length after.nodes ≤ length before.nodes + grow before.vars before.nodes pieces

-- a call with these pieces found the table full: it holds `limit` nodes, it still lacks a part of
-- the pieces, and it held more than `limit` less `grow` before the call
pub record IsFullBeyond (pieces : List Function) (before after : NodeTable) : Type 0 where
  pub at_limit : length after.nodes ≡ after.limit
  pub lacks : LacksPart before.vars pieces after.nodes
  pub beyond : after.limit < length before.nodes + grow before.vars before.nodes pieces

-- what a call with these pieces says of the table's growth: the nodes that it adds are those of
-- parts of the pieces, so `grow` bounds their number, and `Full` comes only beyond it
pub record Grows (pieces : List Function) (before after : NodeTable)
    (result : Result Ref DdErr) : Type 0 where
  pub adds : AddsParts before.vars pieces before.nodes after.nodes
  pub most : AddsAtMost pieces before after
  pub full : IsErrOf result Full → IsFullBeyond pieces before after
