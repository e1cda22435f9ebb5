use Rattle.std.proofs.Common.{◌≡◌, ◌∙◌, arith, length, refl, sym}
use Rattle.std.proofs.lemmas.List.{drop_all}
use Rattle.std.proofs.lemmas.Result.{err_from_is_err_and}
use Rattle.slot_board.proofs.BoardSlots.{same_actions}
use Rattle.slot_board.proofs.Endings.{found_of, passed_on}
use Rattle.cert_check.proofs.LoopLemmas.{looked_all, looked_found, looked_more, next_fits}
use Rattle.board_steps.proofs.MakeLemmas.{drop_item}
use Rattle.cert_check.proofs.judging.some_set_is_left.Goals as goal

pub loop-set-init : goal.loop-set-init
loop-set-init c start f union fits kept = record { here = f; union = union; fits = fits; kept = kept; leads = refl }

pub look_at-requires-clause-ready : goal.look_at-requires-clause-ready
look_at-requires-clause-ready c =
    let r = c.requires.ready in
    let half = c.loop-set.invariant r.0 r.1 r.2 r.3 r.4 in
    let more = drop_item c.args.sets.now c.loop-set.set-index c.set-item.result c.loop-set-test.true c.set-item.is in
    (r.0, half.here, half.union, next_fits r.0 c.args.asked.class half.here _ _ c.set-item.result more half.fits, half.kept)

pub look_at-requires-clause-actions : goal.look_at-requires-clause-actions
look_at-requires-clause-actions c =
    let r = c.requires.ready in
    let half = c.loop-set.invariant r.0 r.1 r.2 r.3 r.4 in
    let e : length c.loop-set.enc.actions ≡ length c.args.enc.now.actions = same_actions r.0 c.args.enc.now c.loop-set.enc c.args.board.now.slots.items c.loop-set.board.slots.items r.2.at half.union.at in
    omega (arith, c.requires.actions)

pub returns-in_err-look_at : goal.returns-in_err-look_at
returns-in_err-look_at c start f union fits kept =
    let half = c.loop-set.invariant start f union fits kept in
    let more = drop_item c.args.sets.now c.loop-set.set-index c.set-item.result c.loop-set-test.true c.set-item.is in
    passed_on start c.look_at.new.enc c.look_at.new.board.slots.items _ _ c.look_at.result c.from_residual.result _ c.in_err-look_at.was (err_from_is_err_and c.from_residual.result c.from_residual.ensures.1) (c.look_at.ensures start half.here half.union (next_fits start c.args.asked.class half.here _ _ c.set-item.result more half.fits) half.kept)

pub returns-then-branch : goal.returns-then-branch
returns-then-branch c start f union fits kept =
    let half = c.loop-set.invariant start f union fits kept in
    let more = drop_item c.args.sets.now c.loop-set.set-index c.set-item.result c.loop-set-test.true c.set-item.is in
    let now = found_of start c.look_at.new.enc c.look_at.new.board.slots.items _ c.look_at.result _ c.in_ok-look_at.was (c.look_at.ensures start half.here half.union (next_fits start c.args.asked.class half.here _ _ c.set-item.result more half.fits) half.kept) in
    (now.at, looked_found start c.args.asked.class c.loop-set.enc c.loop-set.board.slots.items f _ _ c.args.sets.now c.set-item.result more half (sym c.if-branch.true ∙ now.is))

pub loop-set-preserved : goal.loop-set-preserved
loop-set-preserved c start f union fits kept =
    let half = c.loop-set.invariant start f union fits kept in
    let more = drop_item c.args.sets.now c.loop-set.set-index c.set-item.result c.loop-set-test.true c.set-item.is in
    let now = found_of start c.look_at.new.enc c.look_at.new.board.slots.items _ c.look_at.result _ c.in_ok-look_at.was (c.look_at.ensures start half.here half.union (next_fits start c.args.asked.class half.here _ _ c.set-item.result more half.fits) half.kept) in
    looked_more start c.args.asked.class c.loop-set.enc c.look_at.new.enc c.loop-set.board.slots.items c.look_at.new.board.slots.items f _ _ c.args.sets.now c.set-item.result more half (sym c.if-branch.false ∙ now.is) (now.union c.if-branch.false)

pub returns : goal.returns
returns c start f union fits kept =
    let half = c.loop-set.invariant start f union fits kept in
    (half.union.at, looked_all start c.args.asked.class c.loop-set.enc c.loop-set.board.slots.items f _ c.args.sets.now (drop_all c.loop-set.set-index c.args.sets.now (omega (arith, c.loop-set-test.false))) half)
