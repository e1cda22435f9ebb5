use Rattle.std.proofs.Common.{◌≡◌, ◌↔◌, IsTrue, arith, length, subst}
use Rattle.std.proofs.lemmas.Result.{err_from_is_err_and}
use Rattle.dd_sets.specs.LiveSets.{nothing}
use Rattle.dd_nodes.specs.Subfunctions.{Function}
use Rattle.slot_board.proofs.BoardSlots.{went}
use Rattle.slot_board.proofs.Endings.{passed_on}
use Rattle.cert_check.proofs.judging.has_nothing_new.Goals as goal

pub returns-in_err-put_new : goal.returns-in_err-put_new
returns-in_err-put_new c start f g has board f_small g_small =
    passed_on start c.put_new.new.enc c.put_new.new.board.slots.items _ _ c.put_new.result c.from_residual.result _ c.in_err-put_new.was (err_from_is_err_and c.from_residual.result c.from_residual.ensures.1) (c.put_new.ensures start f g has board f_small g_small)

pub is_empty-requires-clause-working : goal.is_empty-requires-clause-working
is_empty-requires-clause-working c =
    let r = c.requires in
    let left = went r.0 c.put_new.new.enc c.put_new.new.board.slots.items _ c.put_new.result _ c.in_ok-put_new.was (c.put_new.ensures r.0 r.1 r.2 r.3 r.4 r.5 r.6) in
    (r.0, left.by_set.by_union.at)

pub is_empty-requires-clause-place : goal.is_empty-requires-clause-place
is_empty-requires-clause-place c =
    let r = c.requires in
    let left = went r.0 c.put_new.new.enc c.put_new.new.board.slots.items _ c.put_new.result _ c.in_ok-put_new.was (c.put_new.ensures r.0 r.1 r.2 r.3 r.4 r.5 r.6) in
    let long : length c.put_new.new.board.slots.items ≡ r.0.places = left.by_set.by_union.at.long in
    let five : r.0.places ≡ 5 = r.4.five in
    omega arith

pub returns : goal.returns
returns c start f g has board f_small g_small =
    let left = went start c.put_new.new.enc c.put_new.new.board.slots.items _ c.put_new.result _ c.in_ok-put_new.was (c.put_new.ensures start f g has board f_small g_small) in
    (left.by_set, subst (λ (s : Function). IsTrue c.is_empty.result ↔ (s ≡ nothing)) left.left c.is_empty.ensures)
