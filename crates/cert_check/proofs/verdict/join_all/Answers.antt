use Rattle.std.proofs.Common.{map, subst}
use Rattle.plan_certs.specs.Named.{set_of}
use Rattle.std.proofs.lemmas.Result.{err_from_is_err_and}
use Rattle.slot_board.proofs.BoardSlots.{left_with, passed, went}
use Rattle.cert_check.specs.Sizes.{HasUnion}
use Rattle.cert_check.proofs.UnionLemmas.{union_as}
use Rattle.cert_check.proofs.verdict.join_all.Goals as goal

pub clear_union-requires : goal.clear_union-requires
clear_union-requires c = let r = c.requires in (r.0, r.2, r.3.board)

pub returns-in_err-clear_union : goal.returns-in_err-clear_union
returns-in_err-clear_union c start class at fits =
    passed start c.clear_union.new.enc c.clear_union.new.board.slots.items _ _ c.clear_union.result c.from_residual.result _ c.in_err-clear_union.was (err_from_is_err_and c.from_residual.result c.from_residual.ensures.1) (c.clear_union.ensures start at fits.board)

pub join_sets-requires : goal.join_sets-requires
join_sets-requires c = let r = c.requires in (r.0, r.1, _, went r.0 c.clear_union.new.enc c.clear_union.new.board.slots.items _ c.clear_union.result _ c.in_ok-clear_union.was (c.clear_union.ensures r.0 r.2 r.3.board), r.3.sets_fit)

pub returns : goal.returns
returns c start class at fits =
    left_with start c.join_sets.new.enc c.join_sets.new.board.slots.items _ _ c.join_sets.result (λ union. subst (HasUnion start c.join_sets.new.enc c.join_sets.new.board.slots.items) (union_as start.task (map set_of c.args.sets.now)) union)
    (c.join_sets.ensures start class _ (went start c.clear_union.new.enc c.clear_union.new.board.slots.items _ c.clear_union.result _ c.in_ok-clear_union.was (c.clear_union.ensures start at fits.board)) fits.sets_fit)
