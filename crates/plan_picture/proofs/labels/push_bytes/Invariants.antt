use Rattle.std.proofs.Common.{◌≡◌, ◌++◌, take}
use Rattle.plan_picture.specs.Texts.{quoted}
use Rattle.plan_picture.proofs.labels.push_bytes.Given as goal

abbrev pub invariant-loop-byte : goal.invariant-loop-byte
invariant-loop-byte l = l.out.items ≡ l.fn.out.items ++ quoted (take l.byte-index l.bytes)
