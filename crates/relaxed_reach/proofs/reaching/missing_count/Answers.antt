use Rattle.std.proofs.Common.{arith}
use Rattle.relaxed_reach.specs.Literals.{has}
use Rattle.relaxed_reach.proofs.Lacks.{lacking_at, lacking_more}
use Rattle.relaxed_reach.proofs.reaching.missing_count.Goals as goal

pub loop-number-preserved : goal.loop-number-preserved
loop-number-preserved c = record {
  counted = lacking_more c.loop-number.number (has c.args.literals.now) c.loop-number.missing c.lacks-true_lacks.result c.lacks-false_lacks.result c.loop-number.invariant.counted c.lacks-true_lacks.ensures.counted c.lacks-false_lacks.ensures.counted;
  few = omega (arith, c.loop-number.invariant.few, c.lacks-true_lacks.ensures.small, c.lacks-false_lacks.ensures.small);
}

pub returns : goal.returns
returns c = lacking_at (has c.args.literals.now) c.loop-number.missing c.loop-number.number c.args.count c.loop-number.invariant.counted (omega (arith, c.loop-number-test.false, c.loop-number.auto.number-end))
