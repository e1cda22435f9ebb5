use Rattle.std.proofs.lemmas.Result.{err_from_is_err_and}
use Rattle.slot_board.proofs.BoardSlots.{passed, went}
use Rattle.cert_check.proofs.judging.add_set.Goals as goal

pub make_set-requires : goal.make_set-requires
make_set-requires c = let r = c.requires in (r.0, r.1, r.2, r.3)

pub returns-in_err-make_set : goal.returns-in_err-make_set
returns-in_err-make_set c start f union fits small =
    let p = err_from_is_err_and c.from_residual.result c.from_residual.ensures.1 in
    passed start c.make_set.new.enc c.make_set.new.board.slots.items _ _ c.make_set.result c.from_residual.result _ c.in_err-make_set.was p (c.make_set.ensures start f union fits)

pub join_set-requires : goal.join_set-requires
join_set-requires c =
    let r = c.requires in
    (r.0, r.1, _, went r.0 c.make_set.new.enc c.make_set.new.board.slots.items _ c.make_set.result _ c.in_ok-make_set.was (c.make_set.ensures r.0 r.1 r.2 r.3), r.3.board, r.4)

pub returns : goal.returns
returns c start f union fits small =
    c.join_set.ensures start f _ (went start c.make_set.new.enc c.make_set.new.board.slots.items _ c.make_set.result _ c.in_ok-make_set.was (c.make_set.ensures start f union fits)) fits.board small
