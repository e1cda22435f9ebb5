use Rattle.std.proofs.Common.{◌∙◌, sym, true≢false}
use Rattle.std.proofs.lemmas.Result.{err_from_is_err_and}
use Rattle.slot_board.proofs.BoardSlots.{went}
use Rattle.slot_board.proofs.Endings.{found_of, passed_on}
use Rattle.cert_check.proofs.judging.look_closer.Goals as goal

pub returns-in_err-some_is_way_out : goal.returns-in_err-some_is_way_out
returns-in_err-some_is_way_out c start f has fits =
    passed_on start c.some_is_way_out.new.enc c.some_is_way_out.new.board.slots.items _ _ c.some_is_way_out.result c.from_residual.result _ c.in_err-some_is_way_out.was (err_from_is_err_and c.from_residual.result c.from_residual.ensures.1)
    (c.some_is_way_out.ensures start f has fits)

pub returns-then-branch : goal.returns-then-branch
returns-then-branch c start f has fits =
    let now = found_of start c.some_is_way_out.new.enc c.some_is_way_out.new.board.slots.items _ c.some_is_way_out.result _ c.in_ok-some_is_way_out.was (c.some_is_way_out.ensures start f has fits) in
    record { at = now.0.by_union.at; sound = now.0.by_union.sound; is = sym c.if-branch.true ∙ now.1; union = λ false. absurd (true≢false false) }

pub join_set-requires : goal.join_set-requires
join_set-requires c =
    let r = c.requires.ready in
    let now = found_of r.0 c.some_is_way_out.new.enc c.some_is_way_out.new.board.slots.items _ c.some_is_way_out.result _ c.in_ok-some_is_way_out.was (c.some_is_way_out.ensures r.0 r.1 r.2 r.3) in
    (r.0, r.1, _, now.0, r.3.by_set.board, r.3.joined)

pub returns-in_err-join_set : goal.returns-in_err-join_set
returns-in_err-join_set c start f has fits =
    let now = found_of start c.some_is_way_out.new.enc c.some_is_way_out.new.board.slots.items _ c.some_is_way_out.result _ c.in_ok-some_is_way_out.was (c.some_is_way_out.ensures start f has fits) in
    passed_on start c.join_set.new.enc c.join_set.new.board.slots.items _ _ c.join_set.result c.from_residual-in_err-join_set.result _ c.in_err-join_set.was (err_from_is_err_and c.from_residual-in_err-join_set.result c.from_residual-in_err-join_set.ensures.1) (c.join_set.ensures start f _ now.0 fits.by_set.board fits.joined)

pub returns : goal.returns
returns c start f has fits =
    let now = found_of start c.some_is_way_out.new.enc c.some_is_way_out.new.board.slots.items _ c.some_is_way_out.result _ c.in_ok-some_is_way_out.was (c.some_is_way_out.ensures start f has fits) in
    let joined = went start c.join_set.new.enc c.join_set.new.board.slots.items _ c.join_set.result _ c.in_ok-join_set.was (c.join_set.ensures start f _ now.0 fits.by_set.board fits.joined) in
    record { at = joined.at; sound = joined.sound; is = sym c.if-branch.false ∙ now.1; union = λ false. joined }
