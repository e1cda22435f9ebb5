-- At first the rest of the list is empty.
use Rattle.std.proofs.Common.{None, Option, refl, replicate}
use Rattle.dd_nodes.specs.declared.node.Ref.{Ref}
use Rattle.dd_ops.proofs.SubstLemmas.{fresh_table}
use Rattle.dd_ops.proofs.replacements.Replacements.new.Goals as goal

pub loop-place-init : goal.loop-place-init
loop-place-init c = fresh_table c.args.map.now 256 (replicate {A = Option Ref} 256 None) refl
