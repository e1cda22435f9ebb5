use Rattle.std.proofs.Common.{◌++◌, ◌∙◌, [], ◌∷◌, ap, codes, map}
use Rattle.std.specs.List.{range_with_len}
use Rattle.task_gen.specs.Texts.{line_feed, spaced}
use Rattle.task_gen.specs.Corridors.{room}
use Rattle.task_gen.proofs.Spaced.{line_of_parts}
use Rattle.task_gen.proofs.corridors.push_objects.Goals as goal

pub returns : goal.returns
returns c =
    let mid = spaced (map room (range_with_len 1 c.args.n)) in
    c.in_ok-extend_from_slice-2.ensures.items ∙ ap (λ t. t ++ 41 ∷ 10 ∷ []) (c.in_ok-push_rooms.ensures ∙ ap (λ t. t ++ mid) c.in_ok-extend_from_slice.ensures.items)
    ∙ line_of_parts c.args.out.now.items (codes "  (:objects") mid (codes ")") line_feed
