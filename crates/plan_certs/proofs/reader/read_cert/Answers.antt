use Rattle.std.proofs.Common.{length}
use Rattle.sexpr_text.specs.Forest.{forest_of}
use Rattle.task_core.specs.Tasks.{fluent_names}
use Rattle.plan_certs.proofs.Whole.{IsReadFrom, in_task, whole-fault, whole-read, with_names}
use Rattle.plan_certs.proofs.reader.read_cert.Goals as goal
use Rattle.plan_certs.proofs.reader.read_cert.Goals.{After-drop-forms-2}

read_from : (c : After-drop-forms-2) → IsReadFrom (fluent_names c.args.task.now) (forest_of c.in_ok-forms.forms.items) c.read_text.result
read_from c =
    with_names c.in_ok-fluents.fluents (fluent_names c.args.task.now)
    c.deref.result.now c.in_ok-forms.forms.items c.read_text.result c.in_ok-fluents.ensures c.deref.ensures.value
    (record { sound = c.read_text.ensures.sound; read = c.read_text.ensures.read; fault = c.read_text.ensures.fault })

pub returns-clause-read : goal.returns-clause-read
returns-clause-read c =
    whole-read (fluent_names c.args.task.now) c.args.bytes.now (forest_of c.in_ok-forms.forms.items) c.read_text.result
    c.in_ok-forms.ensures.forms (read_from c)

pub returns-clause-in_task : goal.returns-clause-in_task
returns-clause-in_task c = in_task c.args.task.now c.in_ok-forms.forms.items c.read_text.result (read_from c)

pub returns-clause-fault : goal.returns-clause-fault
returns-clause-fault c =
    whole-fault (fluent_names c.args.task.now) c.args.bytes.now (length c.args.bytes.now) (forest_of c.in_ok-forms.forms.items) c.read_text.result
    c.in_ok-forms.ensures.forms c.in_ok-forms.ensures.formed.rising (read_from c)
