-- The bytes so far.
use Rattle.std.specs.Prelude.{◌≡◌, ◌++◌, take}
use Rattle.std.specs.List.{flat_map}
use Rattle.controller_code.specs.Texts.{frame_byte}
use Rattle.controller_code.proofs.texts.push_frame.Given as goal

abbrev pub invariant-loop-byte : goal.invariant-loop-byte
invariant-loop-byte l =
    l.out.items ≡ l.fn.out.items ++ flat_map (frame_byte l.name) (take l.byte-index l.frame)
