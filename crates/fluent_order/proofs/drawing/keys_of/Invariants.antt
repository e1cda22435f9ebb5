use Rattle.std.proofs.Common.{◌≡◌, length}
use Rattle.fluent_order.proofs.drawing.keys_of.Given as goal

-- each fluent so far has its key
abbrev pub invariant-loop-number : goal.invariant-loop-number
invariant-loop-number l = length l.keys.items ≡ l.number
