use Rattle.std.proofs.Common.{◌++◌, ap, ◌∙◌}
use Rattle.std.specs.List.{flat_map}
use Rattle.std.specs.Option.{option_to_list}
use Rattle.ground_task.specs.Drafts.{part_tree}
use Rattle.ground_task.proofs.PartTrees.{last_part}
use Rattle.ground_task.proofs.drafts.add_part.Goals as goal

pub returns-then-are_unconditional : goal.returns-then-are_unconditional
returns-then-are_unconditional c =
    ap (flat_map part_tree) c.in_ok-push-2.ensures.items
    ∙ last_part c.args.parts.now.items c.pop.new.self.items c.in-Some.last c.in_ok-merged.field-0 (part_tree c.args.part.now) (c.pop.ensures.items ∙ ap (λ o. c.pop.new.self.items ++ option_to_list o) c.in-Some.is) c.in_ok-merged.ensures
