use Rattle.std.proofs.Common.{refl}
use Rattle.list_laws.proofs.Elements.{all_reached, one_reached}
use Rattle.task_core.specs.States.{truth}
use Rattle.task_core.specs.declared.actions.Alternative.{Alternative}
use Rattle.mutex_groups.specs.Starts.{LeadsTo}
use Rattle.mutex_groups.proofs.starts.all_lead_to.Goals as goal

pub loop-alternative-preserved : goal.loop-alternative-preserved
loop-alternative-preserved c =
    one_reached (λ (a : Alternative). LeadsTo (truth c.args.members.now) c.args.known c.args.after a.lits.items) c.args.entry.now c.loop-alternative.alternative-index c.alternative-item.result
    c.loop-alternative-test.true c.alternative-item.is c.loop-alternative.invariant (rw c.deref.ensures.value at (c.leads_to.ensures c.if-not-leads_to.false))

pub returns : goal.returns
returns c = λ _.
    all_reached (λ (a : Alternative). LeadsTo (truth c.args.members.now) c.args.known c.args.after a.lits.items) c.args.entry.now c.args.entry.now c.loop-alternative.alternative-index
    c.loop-alternative-test.false refl c.loop-alternative.invariant
