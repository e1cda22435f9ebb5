-- The bytes so far may stand in a name.
use Rattle.std.specs.Prelude.{◌≡◌, drop}
use Rattle.std.specs.List.{list_all}
use Rattle.controller_code.specs.CodeNames.{is_code_byte}
use Rattle.controller_code.proofs.names.are_name_bytes.Given as goal

abbrev pub invariant-loop-byte : goal.invariant-loop-byte
invariant-loop-byte l = list_all is_code_byte (drop l.byte-index l.bytes) ≡ list_all is_code_byte l.bytes
