use Rattle.std.proofs.Common.{rules}
use Rattle.controller_rules.proofs.Spelled.{task_spells}
use Rattle.controller_rules.proofs.texts.write_controller.Goals as goal

pub returns-in-Table-clause-spells : goal.returns-in-Table-clause-spells
returns-in-Table-clause-spells c =
    task_spells c.args.task.now c.args.plan.now c.args.steps.now c.requires.in_task c.requires.told
    (λ i. let fits = c.type_inv.steps i in search rules)

pub returns-in-Auto-clause-spells : goal.returns-in-Auto-clause-spells
returns-in-Auto-clause-spells c =
    task_spells c.args.task.now c.args.plan.now c.args.steps.now c.requires.in_task c.requires.told
    (λ i. let fits = c.type_inv.steps i in search rules)
