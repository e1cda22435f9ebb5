-- First the roots so far have their marks, and then the children of all nodes from a place on.
use Rattle.std.proofs.Common.{◌≡◌, ◌≤◌, take, length, vec_capacity}
use Rattle.dd_nodes.specs.Arena.{nodes_of}
use Rattle.dd_nodes.specs.Collecting.{AreMarks}
use Rattle.dd_nodes.proofs.collect.mark_needed.Given as goal

abbrev pub invariant-loop-root : goal.invariant-loop-root
invariant-loop-root l = record {
  marks : AreMarks (nodes_of l.cells.items) (take l.root-index l.roots.items) l.marks.items (length (nodes_of l.cells.items));
  room : vec_capacity l.marks ≡ vec_capacity l.fn.marks;
}

abbrev pub invariant-loop-place : goal.invariant-loop-place
invariant-loop-place l = record {
  within : l.place ≤ length l.cells.items;
  marks : AreMarks (nodes_of l.cells.items) l.roots.items l.marks.items l.place;
  room : vec_capacity l.marks ≡ vec_capacity l.fn.marks;
}

abbrev pub decreases-loop-place : goal.decreases-loop-place
decreases-loop-place l = l.place
