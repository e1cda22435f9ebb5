use Rattle.std.proofs.Common.{◌++◌, ◌∙◌, [], ◌∷◌, ap, codes}
use Rattle.task_gen.specs.Texts.{line_feed}
use Rattle.task_gen.specs.Roads.{facts}
use Rattle.task_gen.proofs.Spaced.{line_of_parts}
use Rattle.task_gen.proofs.roads.push_init.Goals as goal

pub returns : goal.returns
returns c =
    let mid = facts c.args.n in
    c.in_ok-extend_from_slice-2.ensures.items ∙ ap (λ t. t ++ 41 ∷ 10 ∷ []) (c.in_ok-push_facts.ensures ∙ ap (λ t. t ++ mid) c.in_ok-extend_from_slice.ensures.items)
    ∙ line_of_parts c.args.out.now.items (codes "  (:init (car l1)") mid (codes ")") line_feed
