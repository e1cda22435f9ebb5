use Rattle.std.proofs.Common.{◌≡◌, ◌++◌, drop, map}
use Rattle.ground_task.specs.Drafts.{draft_tree, draft_trees}
use Rattle.ground_task.proofs.products.push_products.Given as goal

abbrev pub invariant-loop-second : goal.invariant-loop-second
invariant-loop-second l =
    draft_trees l.products.items ++ map (λ second. draft_tree l.first ++ second) (draft_trees (drop l.second-index l.seconds))
    ≡ draft_trees l.fn.products.items ++ map (λ second. draft_tree l.first ++ second) (draft_trees l.seconds)
