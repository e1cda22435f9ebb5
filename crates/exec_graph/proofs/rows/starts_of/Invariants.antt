-- The starts so far are the sums of the lengths before.
use Rattle.std.proofs.Common.{◌≡◌, ◌≤◌, ◌+◌, ℕ, length, slice_index_or, take}
use Rattle.std.specs.List.{sum}
use Rattle.exec_graph.proofs.rows.starts_of.Given as goal

abbrev pub invariant-loop-count : goal.invariant-loop-count
invariant-loop-count l = record {
  start : l.start ≡ sum (take l.count-index l.counts);
  count : length l.starts.items ≡ l.count-index + 1;
  each : (j : ℕ) → j ≤ l.count-index → slice_index_or l.starts.items j 0 ≡ sum (take j l.counts);
}
