use Rattle.task_core.specs.Tasks.{fluent_names}
use Rattle.plan_certs.specs.Named.{plain_certificate}
use Rattle.plan_certs.proofs.Spelled.{task_spells, spelled_if}
use Rattle.plan_certs.proofs.text.write_cert.Goals as goal

pub returns-clause-spells : goal.returns-clause-spells
returns-clause-spells c =
    spelled_if (fluent_names c.args.task.now) (plain_certificate c.args.certificate.now) c.write_text.result
    (task_spells c.args.task.now c.args.certificate.now c.requires.in_task) c.write_text.ensures
