use Rattle.std.proofs.Common.{ap, ◌∙◌}
use Rattle.std.specs.List.{flat_map}
use Rattle.ground_instances.specs.Tables.{setting_in}
use Rattle.ground_task.specs.Built.{part_made}
use Rattle.ground_task.proofs.PartTrees.{draft_over}
use Rattle.ground_task.proofs.changes.drafted_outcome.Goals as goal

pub returns-clause-value : goal.returns-clause-value
returns-clause-value c =
    let at = setting_in c.args.setting.now in
    let fl = c.args.fluents.now in
    c.in_ok-outcome.ensures.value ∙ ap (λ l. flat_map (part_made at fl) l) c.deref.ensures.value ∙ draft_over at fl c.args.draft.now.parts.items
