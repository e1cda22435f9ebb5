-- The numbers so far, from the last one down, were passed.
use Rattle.exec_graph.specs.Values.{followers_at, graph_size}
use Rattle.plan_witness.proofs.Tall.{IsRaising}
use Rattle.plan_witness.proofs.heights.raise_all.Given as goal

abbrev pub invariant-loop-k : goal.invariant-loop-k
invariant-loop-k g l = IsRaising (graph_size l.graph) (followers_at l.graph) l.bound l.fn.heights.items l.heights.items l.found l.k
