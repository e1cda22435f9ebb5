-- The edges of the lists before, and of the front of this one, are counted.
use Rattle.std.proofs.Common.{◌++◌, map, take}
use Rattle.exec_graph.specs.Rows.{IsCounted, edge, edges_of, row_count, row_of}
use Rattle.exec_graph.proofs.rows.count_row.Given as goal

abbrev pub invariant-loop-k : goal.invariant-loop-k
invariant-loop-k l =
    IsCounted (row_count l.rows) l.counts.items (edges_of (row_of l.rows) l.i ++ map (edge l.i) (take l.k (row_of l.rows l.i)))
