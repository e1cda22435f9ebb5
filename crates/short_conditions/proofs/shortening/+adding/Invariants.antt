use Rattle.std.proofs.Common.{map, take}
use Rattle.std.specs.List.{list_all}
use Rattle.task_core.specs.Conditions.{depth, greatest, ids_below}
use Rattle.short_conditions.specs.Drafts.{Adds}
use Rattle.short_conditions.specs.Joining.{joined, truths}
use Rattle.short_conditions.proofs.shortening.+adding.Given as goal

abbrev pub invariant-add_parts-loop-part : goal.invariant-add_parts-loop-part
invariant-add_parts-loop-part l =
    Adds (λ all value. joined all (truths l.positive (take l.part-index l.parts) value)) (λ n. list_all (ids_below n) (take l.part-index l.parts)) (greatest (map depth (take l.part-index l.parts))) l.fn.draft l.draft
