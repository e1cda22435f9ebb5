use Rattle.std.proofs.Common.{◌∙◌}
use Rattle.task_core.proofs.NameChecks.{same_bytes}
use Rattle.task_core.proofs.checks.is_same_name.Goals as goal

pub returns : goal.returns
returns c = c.eq.ensures ∙ same_bytes c.args.name.now.items c.args.other.now.items
