use Rattle.std.proofs.Common.{◌≡◌, ◌++◌, drop, map}
use Rattle.ground_task.specs.Built.{literal_made}
use Rattle.ground_task.specs.Drafts.{change_tree}
use Rattle.ground_task.proofs.changes.literals.Given as goal

abbrev pub invariant-loop-draft : goal.invariant-loop-draft
invariant-loop-draft l =
    l.lits.items ++ map (literal_made l.fluents) (map change_tree (drop l.draft-index l.drafts))
    ≡ map (literal_made l.fluents) (map change_tree l.drafts)
