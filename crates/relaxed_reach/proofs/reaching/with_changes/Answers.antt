use Rattle.std.proofs.Common.{ap, refl}
use Rattle.relaxed_reach.specs.Literals.{has}
use Rattle.relaxed_reach.specs.Relaxed.{change_gives}
use Rattle.relaxed_reach.proofs.Lacks.{all_looked_at, one_more}
use Rattle.relaxed_reach.proofs.reaching.with_changes.Goals as goal

pub loop-change-preserved : goal.loop-change-preserved
loop-change-preserved c = λ f value.
    let p = change_gives (has c.args.known.now) f value in
    one_more p c.args.changes.now c.loop-change.change-index c.change-item.result c.change-item.result (has c.args.literals.now f value) (has c.loop-change.more f value) (has c.with_change-more.result f value)
    c.loop-change-test.true (ap p c.change-item.is) (c.loop-change.invariant f value) (c.with_change-more.ensures f value)

pub returns : goal.returns
returns c = λ f value.
    all_looked_at (change_gives (has c.args.known.now) f value) c.args.changes.now c.args.changes.now c.loop-change.change-index (has c.args.literals.now f value) (has c.loop-change.more f value)
    c.loop-change-test.false refl (c.loop-change.invariant f value)
