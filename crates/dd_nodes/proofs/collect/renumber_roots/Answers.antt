-- All roots have their new numbers.
use Rattle.std.proofs.Common.{arith}
use Rattle.dd_nodes.specs.Collecting.{root_by}
use Rattle.dd_nodes.proofs.Marking.{no_ref}
use Rattle.dd_nodes.proofs.Moving.{each_changed}
use Rattle.dd_nodes.proofs.collect.renumber_roots.Goals as goal

pub returns : goal.returns
returns c =
    each_changed (root_by c.args.marks.now.items) no_ref c.args.roots.now.items c.loop-place.roots.items c.loop-place.invariant.size
    (λ k within. c.loop-place.invariant.done k (omega (arith, c.args.roots.now.ok.0)))
