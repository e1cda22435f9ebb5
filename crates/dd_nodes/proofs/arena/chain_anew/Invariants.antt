-- The cells before the place stand in their chains.
use Rattle.std.proofs.Common.{◌≡◌, length, vec_capacity}
use Rattle.dd_nodes.specs.Arena.{nodes_of, AreChained}
use Rattle.dd_nodes.proofs.arena.chain_anew.Given as goal

abbrev pub invariant-loop-place : goal.invariant-loop-place
invariant-loop-place l = record {
  nodes : nodes_of l.cells.items ≡ nodes_of l.fn.cells.items;
  size : length l.cells.items ≡ length l.fn.cells.items;
  count : length l.buckets.items ≡ l.count;
  chained : AreChained (length l.buckets.items) l.cells.items l.buckets.items l.place;
  room : vec_capacity l.cells ≡ vec_capacity l.fn.cells;
  bucket_room : vec_capacity l.buckets ≡ vec_capacity l.fn.buckets;
}
