use Rattle.std.proofs.Common.{arith, refl}
use Rattle.std.proofs.lemmas.List.{drop_all}
use Rattle.std.proofs.lemmas.Result.{err_from_is_err_and}
use Rattle.slot_board.proofs.BoardSlots.{passed, went}
use Rattle.cert_check.proofs.LoopLemmas.{joined_all, joined_more, next_fits}
use Rattle.board_steps.proofs.MakeLemmas.{drop_item}
use Rattle.cert_check.proofs.judging.join_sets.Goals as goal

pub loop-set-init : goal.loop-set-init
loop-set-init c start class f union fits = record { here = f; union = union; fits = fits; leads = refl }

pub add_set-requires : goal.add_set-requires
add_set-requires c =
    let r = c.requires in
    let half = c.loop-set.invariant r.0 r.1 r.2 r.3 r.4 in
    let more = drop_item c.args.sets.now c.loop-set.set-index c.set-item.result c.loop-set-test.true c.set-item.is in
    let next = next_fits r.0 r.1 half.here _ _ c.set-item.result more half.fits in
    (r.0, half.here, half.union, next.by_set, next.joined)

pub returns-in_err-add_set : goal.returns-in_err-add_set
returns-in_err-add_set c start class f union fits =
    let half = c.loop-set.invariant start class f union fits in
    let more = drop_item c.args.sets.now c.loop-set.set-index c.set-item.result c.loop-set-test.true c.set-item.is in
    let next = next_fits start class half.here _ _ c.set-item.result more half.fits in
    let p = err_from_is_err_and c.from_residual.result c.from_residual.ensures.1 in
    passed start c.add_set.new.enc c.add_set.new.board.slots.items _ _ c.add_set.result c.from_residual.result _ c.in_err-add_set.was p (c.add_set.ensures start half.here half.union next.by_set next.joined)

pub loop-set-preserved : goal.loop-set-preserved
loop-set-preserved c start class f union fits =
    let half = c.loop-set.invariant start class f union fits in
    let more = drop_item c.args.sets.now c.loop-set.set-index c.set-item.result c.loop-set-test.true c.set-item.is in
    let next = next_fits start class half.here _ _ c.set-item.result more half.fits in
    joined_more start class c.loop-set.enc c.add_set.new.enc c.loop-set.board.slots.items c.add_set.new.board.slots.items f _ _ c.args.sets.now c.set-item.result more half (went start c.add_set.new.enc c.add_set.new.board.slots.items _ c.add_set.result _ c.in_ok-add_set.was (c.add_set.ensures start half.here half.union next.by_set next.joined))

pub returns : goal.returns
returns c start class f union fits = joined_all start class c.loop-set.enc c.loop-set.board.slots.items f _ c.args.sets.now (drop_all c.loop-set.set-index c.args.sets.now (omega (arith, c.loop-set-test.false))) (c.loop-set.invariant start class f union fits)
