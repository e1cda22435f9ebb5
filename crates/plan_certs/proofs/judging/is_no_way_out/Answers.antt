use Rattle.std.proofs.Common.{◌+◌, map}
use Rattle.task_core.specs.States.{vector}
use Rattle.task_core.specs.Tasks.{fluent_count}
use Rattle.plan_certs.proofs.Judged.{cyclic-earlier, cyclic-not_earlier, first_sets}
use Rattle.plan_certs.proofs.judging.is_no_way_out.Goals as goal

pub hold_some-requires-in-Cyclic : goal.hold_some-requires-in-Cyclic
hold_some-requires-in-Cyclic c =
    first_sets (fluent_count c.args.task.now) c.args.number c.args.certificate.now.sets.items c.as_slice-sets.result.now c.as_slice-sets.ensures.value c.requires.in_task.sets

pub hold_each-requires-else-hold_some : goal.hold_each-requires-else-hold_some
hold_each-requires-else-hold_some c =
    first_sets (fluent_count c.args.task.now) (c.args.number + 1) c.args.certificate.now.sets.items c.as_slice-sets.result.now c.as_slice-sets.ensures.value c.requires.in_task.sets

pub returns-then-hold_some : goal.returns-then-hold_some
returns-then-hold_some c =
    cyclic-earlier c.args.certificate.now.class c.args.certificate.now.sets.items c.as_slice-sets.result.now c.args.number (map (vector (fluent_count c.args.task.now)) c.args.next.now)
    c.hold_some-in-Cyclic.result c.in-Cyclic.is c.as_slice-sets.ensures.value c.hold_some-in-Cyclic.ensures c.if-hold_some.true

pub returns-else-hold_some : goal.returns-else-hold_some
returns-else-hold_some c =
    cyclic-not_earlier c.args.certificate.now.class c.args.certificate.now.sets.items c.as_slice-sets.result.now c.args.number (map (vector (fluent_count c.args.task.now)) c.args.next.now)
    c.hold_some-in-Cyclic.result c.hold_each-else-hold_some.result c.in-Cyclic.is c.as_slice-sets.ensures.value c.hold_some-in-Cyclic.ensures c.if-hold_some.false c.hold_each-else-hold_some.ensures
