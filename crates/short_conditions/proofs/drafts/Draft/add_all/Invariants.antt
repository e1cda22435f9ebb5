use Rattle.std.proofs.Common.{map, true}
use Rattle.std.specs.List.{list_all}
use Rattle.task_core.specs.Conditions.{depth, greatest, ids_below}
use Rattle.short_conditions.specs.Drafts.{Adds}
use Rattle.short_conditions.specs.Joining.{joined, truths}
use Rattle.short_conditions.proofs.drafts.Draft.add_all.Given as goal

abbrev pub invariant-loop-cond : goal.invariant-loop-cond
invariant-loop-cond l =
    Adds (λ all value. joined all (truths true l.yielded value)) (λ n. list_all (ids_below n) l.yielded) (greatest (map depth l.yielded)) l.fn.self l.self
