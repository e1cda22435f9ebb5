use Rattle.std.proofs.Common.{◌++◌, map, ap, ◌∙◌}
use Rattle.ground_task.specs.Drafts.{change_tree}
use Rattle.ground_task.proofs.PartTrees.{merged_trees}
use Rattle.ground_task.proofs.drafts.merged.Goals as goal

pub returns : goal.returns
returns c =
    let changes = c.args.first.changes.items in
    merged_trees c.args.first.guards.items c.args.second.now.guards.items _ (map change_tree changes) (map change_tree c.args.second.now.changes.items) c.requires.first c.requires.second
    (c.in_ok-add_changes.ensures ∙ ap (λ l. map change_tree changes ++ map change_tree l) c.deref.ensures.value)
