-- The lists are the same up to the place.
use Rattle.std.proofs.Common.{◌≡◌, take}
use Rattle.dd_ops.proofs.known.are_same.Given as goal

abbrev pub invariant-loop-place : goal.invariant-loop-place
invariant-loop-place l = take l.place l.part ≡ take l.place l.map
