use Rattle.std.specs.Prelude.{◌≡◌, ◌-◌, ◌++◌, map}
use Rattle.std.specs.List.{range_with_len}
use Rattle.task_gen.specs.Texts.{spaced}
use Rattle.task_gen.specs.Corridors.{room}
use Rattle.task_gen.proofs.corridors.push_rooms.Given as goal

abbrev pub invariant-loop-i : goal.invariant-loop-i
invariant-loop-i l = l.out.items ≡ l.fn.out.items ++ spaced (map room (range_with_len 1 (l.i - 1)))
