-- What is true of every reduced list.
use Rattle.std.specs.Prelude.{◌≡◌, ◌≢◌, ℕ, ◌≤◌, List, map, length, ◌↔◌}
use Rattle.std.specs.List.{All, AllPairs, Any, Contains}
use Rattle.dd_nodes.specs.declared.node.Node.{Node}
use Rattle.dd_nodes.specs.NodeList.{IsNumber, IsReduced, function}
use Rattle.dd_nodes.specs.Reached.{IsReached}
use Rattle.dd_nodes.specs.Subfunctions.{Function, DependsOnly, IsSubfunction, nodes}
use Rattle.dd_nodes.specs.declared.node.Ref.{Ref}
use Rattle.dd_nodes.specs.Collecting.{Collected}

-- in a reduced list two numbers have the same function exactly where they are equal (Bryant 1986,
-- Theorem 1)
abbrev pub OneNumberPerFunction : Type 0
OneNumberPerFunction =
    (vars : ℕ) (list : List Node) → IsReduced vars list → (m n : ℕ) → IsNumber list m
    → IsNumber list n
    → (function list m ≡ function list n) ↔ (m ≡ n)

-- the function of a number of a reduced list depends on the first `vars` variables alone
abbrev pub DependsOnVariables : Type 0
DependsOnVariables =
    (vars : ℕ) (list : List Node) → IsReduced vars list → (n : ℕ) → IsNumber list n
    → DependsOnly 0 vars (function list n)

-- the subfunctions of a number's function are the functions of the numbers that are reached from it
abbrev pub SubfunctionsAreReached : Type 0
SubfunctionsAreReached =
    (vars : ℕ) (list : List Node) → IsReduced vars list → (n : ℕ) → IsNumber list n → (g : Function)
    → IsSubfunction vars (function list n) g
    ↔ ((m : ℕ) × IsReached list n m × (function list m ≡ g))

-- a list of the nodes' numbers that are reached from some numbers, each once
pub record AreReachedNodes (list : List Node) (from reached : List ℕ) : Type 0 where
  pub once : AllPairs (λ m n. m ≢ n) reached
  pub all : (m : ℕ) → Contains reached m ↔ ((2 ≤ m) × Any (λ n. IsReached list n m) from)

-- `nodes` of the functions of some numbers is the number of nodes that are reached from them
abbrev pub NodesAreReached : Type 0
NodesAreReached =
    (vars : ℕ) (list : List Node) → IsReduced vars list → (from reached : List ℕ)
    → All (IsNumber list) from
    → AreReachedNodes list from reached → nodes vars (map (function list) from) ≡ length reached

-- after a collection the list has exactly the nodes of the diagrams of its roots' functions
abbrev pub CollectedNodesAreCounted : Type 0
CollectedNodesAreCounted =
    (vars : ℕ) (before after : List Node) (old new : List Ref) → IsReduced vars after
    → Collected before after old new
    → length after ≡ nodes vars (map (λ (r : Ref). function after r.0) new)
