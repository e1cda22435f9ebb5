-- The sources of the edges of the lists before, and of the front of this one, are in their places.
use Rattle.std.proofs.Common.{◌≡◌, ◌++◌, length, map, take}
use Rattle.exec_graph.specs.Rows.{IsFilled, edge, edges_of, row_count, row_of}
use Rattle.exec_graph.specs.Numbers.{IsRoomy, numbers_of}
use Rattle.exec_graph.proofs.rows.fill_row.Given as goal

abbrev pub invariant-loop-k : goal.invariant-loop-k
invariant-loop-k l = record {
  count : length (numbers_of l.numbers) ≡ length (numbers_of l.initial.numbers);
  roomy : IsRoomy (row_count l.rows) l.numbers;
  filled : IsFilled (row_count l.rows) l.starts l.ends.items (numbers_of l.numbers)
      (edges_of (row_of l.rows) l.i ++ map (edge l.i) (take l.k (row_of l.rows l.i)));
}
