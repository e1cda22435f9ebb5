-- What a Graph says, as plain data. A state's vector has as many values as the task has fluents.
use Rattle.std.specs.Prelude.{ℕ, zero, suc, ◌+◌, List, [], length, nat_lt, slice_get}
use Rattle.std.specs.List.{All}
use Rattle.std.specs.Option.{option_map_or}
use Rattle.task_core.specs.Vectors.{Vector}
use Rattle.task_core.specs.States.{IsWithin, vector}
use Rattle.exec_graph.specs.Graphs.{PlainGraph}
use Rattle.exec_graph.specs.Rows.{row_of}
use Rattle.exec_graph.specs.declared.graphs.Place.{Place}
use Rattle.exec_graph.specs.declared.graphs.Graph.{Graph}

-- how many configurations it has
abbrev pub graph_size : Graph → ℕ
graph_size graph = length graph.places.keys

-- the state of a number, over n fluents; empty past the last one
abbrev pub state_at : ℕ → Graph → ℕ → Vector
state_at n graph i =
    option_map_or (λ (place : Place). vector n place.state) (slice_get graph.places.keys i) []

-- the context of a number; 0 past the last one
abbrev pub context_at : Graph → ℕ → ℕ
context_at graph i =
    option_map_or (λ (place : Place). place.context) (slice_get graph.places.keys i) 0

-- the numbers of those that follow it, and of those that it follows
abbrev pub followers_at : Graph → ℕ → List ℕ
followers_at graph = row_of graph.next

abbrev pub predecessors_at : Graph → ℕ → List ℕ
predecessors_at graph = row_of graph.prev

-- the sum of f at the numbers below n
abbrev pub sum_below : (ℕ → ℕ) → ℕ → ℕ
sum_below f zero = 0
sum_below f (suc n) = sum_below f n + f n

-- how many edges the numbers below n have together: one for each number in their lists
abbrev pub lengths_below : (ℕ → List ℕ) → ℕ → ℕ
lengths_below next n = sum_below (λ i. length (next i)) n

-- how many edges the graph has
abbrev pub edge_count : Graph → ℕ
edge_count graph = lengths_below (followers_at graph) (graph_size graph)

-- the graph over n fluents
abbrev pub plain_graph : ℕ → Graph → PlainGraph
plain_graph n graph = record {
  size = graph_size graph;
  configuration = λ i. record { state = state_at n graph i; context = context_at graph i };
  initial = λ i. nat_lt i graph.initials;
  next = followers_at graph;
  prev = predecessors_at graph;
  unexecutable = graph.unexecutable;
  stuck = graph.stuck;
}

-- no state has a true fluent from n on
abbrev pub IsWithinFluents : ℕ → Graph → Type 0
IsWithinFluents n graph = All (λ (place : Place). IsWithin n place.state) graph.places.keys
