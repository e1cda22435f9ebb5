-- The sources of the edges of the lists before are in their places.
use Rattle.std.proofs.Common.{◌≡◌, length}
use Rattle.exec_graph.specs.Rows.{IsFilled, edges_of, row_count, row_of}
use Rattle.exec_graph.specs.Numbers.{IsRoomy, numbers_of}
use Rattle.exec_graph.proofs.rows.filled.Given as goal

abbrev pub invariant-loop-i : goal.invariant-loop-i
invariant-loop-i l = record {
  count : length (numbers_of l.numbers) ≡ l.edges;
  roomy : IsRoomy (row_count l.rows) l.numbers;
  filled : IsFilled (row_count l.rows) l.starts l.ends.items (numbers_of l.numbers) (edges_of (row_of l.rows) l.i);
}
