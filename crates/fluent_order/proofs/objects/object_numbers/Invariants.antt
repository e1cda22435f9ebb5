use Rattle.std.proofs.Common.{◌≡◌, length}
use Rattle.fluent_order.proofs.objects.object_numbers.Given as goal

-- each name so far has its number
abbrev pub invariant-loop-name : goal.invariant-loop-name
invariant-loop-name l = length l.numbers.items ≡ l.name-index
