use Rattle.plan_certs.specs.Named.{plain_certificate}
use Rattle.task_core.specs.Tasks.{fluent_names}
use Rattle.control_command.proofs.NoPlans.{both_told}
use Rattle.control_command.proofs.refuted.told_certificate.Goals as goal

pub returns : goal.returns
returns c = both_told (fluent_names c.args.task.now) (plain_certificate c.args.certificate.now) c.certified_text.result c.certified_text.ensures.text c.certified_text.ensures.spells
