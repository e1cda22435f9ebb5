-- The lines so far.
use Rattle.std.specs.Prelude.{◌≡◌, ◌++◌, take}
use Rattle.std.specs.List.{flat_map}
use Rattle.controller_code.specs.Texts.{string_byte}
use Rattle.controller_code.proofs.texts.push_string.Given as goal

abbrev pub invariant-loop-byte : goal.invariant-loop-byte
invariant-loop-byte l = l.out.items ≡ l.fn.out.items ++ flat_map (string_byte l.language) (take l.byte-index l.bytes)
