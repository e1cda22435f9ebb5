use Rattle.std.proofs.Common.{◌≡◌, ℕ, ◌++◌, map}
use Rattle.slab.specs.Slab.{entries}
use Rattle.dd_nodes.specs.declared.node.Ref.{Ref}
use Rattle.dd_sets.proofs.slots.live_slots.Given as goal

abbrev pub invariant-loop-key : goal.invariant-loop-key
invariant-loop-key l = l.keys.items ++ map (λ (entry : ℕ × Ref). entry.0) l.key-iterator ≡ map (λ (entry : ℕ × Ref). entry.0) (entries l.slots)
