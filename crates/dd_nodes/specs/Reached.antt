-- The numbers to which a walk can come.
use Rattle.std.specs.Prelude.{◌≡◌, ℕ, Bool, List, [], ◌∷◌}
use Rattle.dd_nodes.specs.declared.node.Node.{Node}
use Rattle.dd_nodes.specs.NodeList.{next}

-- the number to which choices lead from a number: each goes to hi where it is true and to lo where
-- it is false
unfoldable pub descend : List Node → List Bool → ℕ → ℕ
descend nodes [] n = n
descend nodes (choice ∷ choices) n = descend nodes choices (next nodes (λ _. choice) n)

-- some choices lead from a number to another, or none to itself
pub record IsReached (nodes : List Node) (from to : ℕ) : Type 0 where
  pub choices : List Bool
  pub leads : descend nodes choices from ≡ to
