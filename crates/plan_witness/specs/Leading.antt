-- Private: numbers with marks in which an execution may begin.
use Rattle.std.specs.Prelude.{◌≡◌, ℕ, Bool, true, List, nat_lt}
use Rattle.exec_graph.specs.declared.graphs.Graph.{Graph}
use Rattle.plan_check.specs.Walks.{IsMarked}

-- Private: an execution may begin in i, which has a mark
pub record IsMarkedStart (graph : Graph) (marks : List Bool) (i : ℕ) : Type 0 where
  pub initial : nat_lt i graph.initials ≡ true
  pub marked : IsMarked marks i
