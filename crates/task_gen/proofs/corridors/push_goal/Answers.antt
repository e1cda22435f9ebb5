use Rattle.std.proofs.Common.{◌++◌, ◌∙◌, [], ◌∷◌, ap, codes}
use Rattle.task_gen.specs.Texts.{line_feed}
use Rattle.task_gen.specs.Corridors.{room}
use Rattle.task_gen.proofs.Spaced.{line_of_parts}
use Rattle.task_gen.proofs.corridors.push_goal.Goals as goal

pub returns : goal.returns
returns c =
    let mid = room c.args.n in
    c.in_ok-extend_from_slice-2.ensures.items ∙ ap (λ t. t ++ 41 ∷ 41 ∷ 41 ∷ 10 ∷ []) (c.in_ok-push_name.ensures ∙ ap (λ t. t ++ mid) c.in_ok-extend_from_slice.ensures.items)
    ∙ line_of_parts c.args.out.now.items (codes "  (:goal (at ") mid (codes ")))") line_feed
