use Rattle.std.proofs.Common.{map}
use Rattle.std.specs.List.{list_all}
use Rattle.task_core.specs.Conditions.{depth, greatest, ids_below}
use Rattle.short_conditions.specs.Joining.{joined, truths}
use Rattle.short_conditions.proofs.SimpleLemmas.{draft_begun}
use Rattle.short_conditions.proofs.shortening.joined_draft.Goals as goal

pub returns : goal.returns
returns c =
    draft_begun c.args.all (λ all value. joined all (truths c.args.positive c.args.parts.now value)) (λ n. list_all (ids_below n) c.args.parts.now) (greatest (map depth c.args.parts.now))
    c.new-draft.result c.add_parts.new.draft c.new-draft.ensures c.in_ok-add_parts.ensures
