-- The edges of the lists before are counted.
use Rattle.exec_graph.specs.Rows.{IsCounted, edges_of, row_count, row_of}
use Rattle.exec_graph.proofs.rows.counted.Given as goal

abbrev pub invariant-loop-i : goal.invariant-loop-i
invariant-loop-i l = IsCounted (row_count l.rows) l.counts.items (edges_of (row_of l.rows) l.i)
