use Rattle.std.proofs.Common.{◌≡◌, ℕ, ◌++◌, map}
use Rattle.slab.specs.Slab.{entries}
use Rattle.dd_nodes.specs.declared.node.Ref.{Ref}
use Rattle.dd_sets.proofs.slots.live_numbers.Given as goal

abbrev pub invariant-loop-number : goal.invariant-loop-number
invariant-loop-number l = l.numbers.items ++ map (λ (entry : ℕ × Ref). entry.1) l.number-iterator ≡ map (λ (entry : ℕ × Ref). entry.1) (entries l.slots)
