-- The roots before the place have their new numbers.
use Rattle.std.proofs.Common.{◌≡◌, ◌<◌, ◌≤◌, ℕ, length, get_or}
use Rattle.dd_nodes.specs.Collecting.{root_by}
use Rattle.dd_nodes.proofs.Marking.{no_ref}
use Rattle.dd_nodes.proofs.collect.renumber_roots.Given as goal

abbrev pub invariant-loop-place : goal.invariant-loop-place
invariant-loop-place l = record {
  size : length l.roots.items ≡ length l.fn.roots.items;
  done : (k : ℕ) → k < l.place → get_or l.roots.items k no_ref ≡ root_by l.marks.items (get_or l.fn.roots.items k no_ref);
  rest : (k : ℕ) → l.place ≤ k → get_or l.roots.items k no_ref ≡ get_or l.fn.roots.items k no_ref;
}
