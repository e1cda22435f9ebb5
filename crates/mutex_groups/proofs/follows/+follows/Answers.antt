use Rattle.std.proofs.Common.{subst, sym}
use Rattle.list_laws.proofs.Elements.{all_reached}
use Rattle.mutex_groups.specs.Follows.{Follows}
use Rattle.mutex_groups.proofs.Soundness.{all_follow}
use Rattle.mutex_groups.proofs.follows.+follows.Goals as goal

pub returns-after-loop-part : goal.returns-after-loop-part
returns-after-loop-part t c = λ _.
    let groups = c.args.groups.now in
    subst (Follows groups) (sym c.in-All.is)
    (all_follow groups c.in-All.parts
    (all_reached (Follows groups) c.deref-part-items.result.now c.in-All.parts.items c.loop-part.part-index c.loop-part-test.false c.deref-part-items.ensures.value c.loop-part.invariant.each))
