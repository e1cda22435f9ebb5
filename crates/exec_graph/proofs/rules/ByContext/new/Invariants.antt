-- So many lists as there are, each without rules.
use Rattle.std.proofs.Common.{◌≡◌, ◌≤◌, ◌-◌, ℕ, [], length, map, slice_get}
use Rattle.std.specs.Option.{option_map_or}
use Rattle.exec_graph.proofs.rules.ByContext.new.Given as goal

abbrev pub invariant-loop-alloc : goal.invariant-loop-alloc
invariant-loop-alloc l = record {
  few : length l.lists.items ≤ l.count;
  none : (c : ℕ) → option_map_or (λ rules. map (λ rule. rule.now) rules.items) (slice_get l.lists.items c) [] ≡ [];
}

abbrev pub decreases-loop-alloc : goal.decreases-loop-alloc
decreases-loop-alloc l = l.count - length l.lists.items
