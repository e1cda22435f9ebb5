use Rattle.std.proofs.Common.{◌++◌, ◌∙◌, ◌-◌, [], ◌∷◌, ap, codes, map}
use Rattle.std.specs.List.{range_with_len}
use Rattle.task_gen.specs.Texts.{line_feed, spaced}
use Rattle.task_gen.specs.Corridors.{next_room}
use Rattle.task_gen.proofs.Spaced.{line_of_parts}
use Rattle.task_gen.proofs.corridors.push_init.Goals as goal

pub returns : goal.returns
returns c =
    let mid = spaced (map next_room (range_with_len 1 (c.args.n - 1))) in
    c.in_ok-extend_from_slice-2.ensures.items ∙ ap (λ t. t ++ 41 ∷ 10 ∷ []) (c.in_ok-push_moves.ensures ∙ ap (λ t. t ++ mid) c.in_ok-extend_from_slice.ensures.items)
    ∙ line_of_parts c.args.out.now.items (codes "  (:init (at r1)") mid (codes ")") line_feed
