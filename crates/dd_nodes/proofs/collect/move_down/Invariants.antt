-- The nodes before the place have moved.
use Rattle.std.proofs.Common.{◌≡◌, vec_capacity}
use Rattle.dd_nodes.proofs.Moving.{AreMoved}
use Rattle.dd_nodes.proofs.collect.move_down.Given as goal

abbrev pub invariant-loop-place : goal.invariant-loop-place
invariant-loop-place l = record {
  moved : AreMoved l.fn.marks.items l.fn.cells.items l.cells.items l.marks.items l.place l.kept;
  room : vec_capacity l.cells ≡ vec_capacity l.fn.cells;
  marks_room : vec_capacity l.marks ≡ vec_capacity l.fn.marks;
}
