use Rattle.std.proofs.Common.{◌+◌, ◌*◌, subst, sym, arith}
use Rattle.task_core.specs.Tasks.{action_count}
use Rattle.task_core.specs.declared.classes.Class.{Class}
use Rattle.task_core.specs.declared.classes.Class.TheVariants.{Strong, Weak}
use Rattle.plan_command.specs.Enough.{BoundsSets}
use Rattle.plan_command.specs.FoundPlans.{IsCertified}
use Rattle.plan_command.proofs.CertificateFound.{layers_certified, rounds_certified}
use Rattle.plan_command.proofs.class_search.find_certificate.Goals as goal

pub returns-in-Weak-clause-found : goal.returns-in-Weak-clause-found
returns-in-Weak-clause-found c =
    let e = c.cert_weak.ensures in
    subst (λ (k : Class). IsCertified k c.args.task.now c.cert_weak.result) (sym c.in-Weak.is)
    (layers_certified Weak c.args.task.now c.cert_weak.result e.printed e.in_task e.no_plan e.plan)

pub returns-in-Strong-clause-found : goal.returns-in-Strong-clause-found
returns-in-Strong-clause-found c =
    let e = c.cert_strong.ensures in
    subst (λ (k : Class). IsCertified k c.args.task.now c.cert_strong.result) (sym c.in-Strong.is)
    (layers_certified Strong c.args.task.now c.cert_strong.result e.printed e.in_task e.no_plan e.plan)

pub returns-in-Cyclic-clause-found : goal.returns-in-Cyclic-clause-found
returns-in-Cyclic-clause-found c =
    let e = c.cert_cyclic.ensures in
    subst (λ (k : Class). IsCertified k c.args.task.now c.cert_cyclic.result) (sym c.in-Cyclic.is)
    (rounds_certified c.args.task.now c.cert_cyclic.result e.printed e.no_plan e.plan)

pub returns-in-Weak-clause-full : goal.returns-in-Weak-clause-full
returns-in-Weak-clause-full c full w bounds =
    c.no_room_of_fewer.ensures w _ _ (action_count c.args.task.now + 24) (3 * action_count c.args.task.now + 32) 16 16 (omega arith) (omega arith)
    (c.cert_weak.ensures.full full w (subst (λ (k : Class). BoundsSets k c.args.task.now w) c.in-Weak.is bounds))

pub returns-in-Strong-clause-full : goal.returns-in-Strong-clause-full
returns-in-Strong-clause-full c full w bounds =
    c.no_room_of_fewer.ensures w _ _ (action_count c.args.task.now + 24) (3 * action_count c.args.task.now + 32) 16 16 (omega arith) (omega arith)
    (c.cert_strong.ensures.full full w (subst (λ (k : Class). BoundsSets k c.args.task.now w) c.in-Strong.is bounds))

pub returns-in-Cyclic-clause-full : goal.returns-in-Cyclic-clause-full
returns-in-Cyclic-clause-full c full w bounds =
    c.cert_cyclic.ensures.full full w (subst (λ (k : Class). BoundsSets k c.args.task.now w) c.in-Cyclic.is bounds)
