use Rattle.std.proofs.Common.{map, ap, ◌∙◌}
use Rattle.ground_instances.specs.Tables.{setting_in}
use Rattle.pddl_system.specs.Tasks.{changed_if}
use Rattle.ground_task.specs.Built.{literal_made}
use Rattle.ground_task.specs.Drafts.{change_tree, guard_trees}
use Rattle.ground_task.proofs.PartTrees.{change_is_part}
use Rattle.ground_task.proofs.changes.part_change.Goals as goal

pub returns-clause-value : goal.returns-clause-value
returns-clause-value c =
    let at = setting_in c.args.setting.now in
    let fl = c.args.fluents.now in
    change_is_part at fl c.args.part.now (record { cond = c.in_ok-cond.cond; lits = c.in_ok-lits.lits })
    (c.in_ok-cond.ensures ∙ ap (λ guards. changed_if at fl (guard_trees guards)) c.deref.ensures.value)
    (c.in_ok-lits.ensures ∙ ap (λ changes. map (literal_made fl) (map change_tree changes)) c.deref-2.ensures.value)
