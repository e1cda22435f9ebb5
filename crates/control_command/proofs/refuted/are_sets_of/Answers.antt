use Rattle.plan_certs.specs.Named.{IsSetOf, set_of}
use Rattle.plan_document.proofs.Mapped.{all_taken, one_more}
use Rattle.control_command.proofs.refuted.are_sets_of.Goals as goal

pub loop-set-preserved : goal.loop-set-preserved
loop-set-preserved c =
    one_more (IsSetOf c.args.fluents) set_of c.args.sets.now c.loop-set.set-index c.set-item.result c.loop-set-test.true c.set-item.is c.loop-set.invariant
    (c.is_set_of.ensures c.if-not-is_set_of.false)

pub returns : goal.returns
returns c = λ _. all_taken (IsSetOf c.args.fluents) set_of c.args.sets.now c.loop-set.set-index c.loop-set-test.false c.loop-set.invariant
