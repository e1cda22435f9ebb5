use Rattle.std.proofs.Common.{◌≡◌, ◌++◌, take}
use Rattle.plan_page.specs.Pages.{escaped}
use Rattle.plan_page.proofs.escaped.push_escaped.Given as goal

abbrev pub invariant-loop-byte : goal.invariant-loop-byte
invariant-loop-byte l = l.out.items ≡ l.fn.out.items ++ escaped (take l.byte-index l.bytes)
