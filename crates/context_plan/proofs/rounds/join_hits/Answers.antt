use Rattle.context_plan.proofs.SizeSteps.{hits_small, lead_fits, small_same}
use Rattle.context_plan.proofs.NotedSteps.{adds_widened}
use Rattle.context_plan.proofs.RoundSteps.{hits_joined}
use Rattle.context_plan.proofs.SceneSteps.{moved_in}
use Rattle.context_plan.specs.Scenes.{board_of, states_at}
use Rattle.slot_board.proofs.BoardSlots.{went, passed, left_with}
use Rattle.std.proofs.Common.{◌||◌, arith, refl, sym}
use Rattle.std.proofs.lemmas.Result.{err_from_is_err_and}
use Rattle.context_plan.proofs.rounds.join_hits.Goals as goal

pub lead_inside-requires-clause-ready : goal.lead_inside-requires-clause-ready
lead_inside-requires-clause-ready c =
    let start = c.requires.ready.0 in
    let ready = c.requires.ready.1 in
    let fits = c.requires.ready.2 in
    (start, ready, lead_fits start (c.args.enc.now, c.args.board.now.slots.items) 0 c.args.leading.action.0 _ ready refl fits.lead)

pub returns-in_err-lead_inside : goal.returns-in_err-lead_inside
returns-in_err-lead_inside c start ready fits =
    let p = err_from_is_err_and c.from_residual.result c.from_residual.ensures.1 in
    passed (board_of start) c.lead_inside.new.enc c.lead_inside.new.board.slots.items _ _ c.lead_inside.result c.from_residual.result _ c.in_err-lead_inside.was p (c.lead_inside.ensures start ready (lead_fits start (c.args.enc.now, c.args.board.now.slots.items) 0 c.args.leading.action.0 _ ready refl fits.lead))

pub keep_hits-requires : goal.keep_hits-requires
keep_hits-requires c =
    let start = c.requires.ready.0 in
    let ready = c.requires.ready.1 in
    let fits = c.requires.ready.2 in
    let m = went (board_of start) c.lead_inside.new.enc c.lead_inside.new.board.slots.items _ c.lead_inside.result _ c.in_ok-lead_inside.was (c.lead_inside.ensures start ready (lead_fits start (c.args.enc.now, c.args.board.now.slots.items) 0 c.args.leading.action.0 _ ready refl fits.lead)) in
    record { ready = (start, (moved_in start (c.args.enc.now, c.args.board.now.slots.items) (c.lead_inside.new.enc, c.lead_inside.new.board.slots.items) 2 _ ready (λ e. absurd (omega arith)) m)) }

pub returns-in_err-keep_hits : goal.returns-in_err-keep_hits
returns-in_err-keep_hits c start ready fits =
    let p = err_from_is_err_and c.from_residual-in_err-keep_hits.result c.from_residual-in_err-keep_hits.ensures.1 in
    let m = went (board_of start) c.lead_inside.new.enc c.lead_inside.new.board.slots.items _ c.lead_inside.result _ c.in_ok-lead_inside.was (c.lead_inside.ensures start ready (lead_fits start (c.args.enc.now, c.args.board.now.slots.items) 0 c.args.leading.action.0 _ ready refl fits.lead)) in
    passed (board_of start) c.keep_hits.new.enc c.keep_hits.new.board.slots.items _ _ c.keep_hits.result c.from_residual-in_err-keep_hits.result _ c.in_err-keep_hits.was p (c.keep_hits.ensures start (moved_in start (c.args.enc.now, c.args.board.now.slots.items) (c.lead_inside.new.enc, c.lead_inside.new.board.slots.items) 2 _ ready (λ e. absurd (omega arith)) m) (hits_small start (c.args.enc.now, c.args.board.now.slots.items) (c.lead_inside.new.enc, c.lead_inside.new.board.slots.items) c.args.leading.action.0 ready m fits.hits))

pub widen-requires : goal.widen-requires
widen-requires c =
    let start = c.requires.ready.0 in
    let ready = c.requires.ready.1 in
    let fits = c.requires.ready.2 in
    let m = went (board_of start) c.lead_inside.new.enc c.lead_inside.new.board.slots.items _ c.lead_inside.result _ c.in_ok-lead_inside.was (c.lead_inside.ensures start ready (lead_fits start (c.args.enc.now, c.args.board.now.slots.items) 0 c.args.leading.action.0 _ ready refl fits.lead)) in
    let k = went (board_of start) c.keep_hits.new.enc c.keep_hits.new.board.slots.items _ c.keep_hits.result _ c.in_ok-keep_hits.was (c.keep_hits.ensures start (moved_in start (c.args.enc.now, c.args.board.now.slots.items) (c.lead_inside.new.enc, c.lead_inside.new.board.slots.items) 2 _ ready (λ e. absurd (omega arith)) m) (hits_small start (c.args.enc.now, c.args.board.now.slots.items) (c.lead_inside.new.enc, c.lead_inside.new.board.slots.items) c.args.leading.action.0 ready m fits.hits)) in
    let small = small_same start _ (λ v. states_at (c.keep_hits.new.enc, c.keep_hits.new.board.slots.items) 1 v || states_at (c.keep_hits.new.enc, c.keep_hits.new.board.slots.items) 2 v) (λ v is. sym (hits_joined c.args.leading.way start (c.args.enc.now, c.args.board.now.slots.items) (c.lead_inside.new.enc, c.lead_inside.new.board.slots.items) (c.keep_hits.new.enc, c.keep_hits.new.board.slots.items) c.args.leading.action.0 ready m k v is)) fits.joined in
    record { ready = (start, k.worked.ready, small) }

pub returns : goal.returns
returns c start ready fits =
    let m = went (board_of start) c.lead_inside.new.enc c.lead_inside.new.board.slots.items _ c.lead_inside.result _ c.in_ok-lead_inside.was (c.lead_inside.ensures start ready (lead_fits start (c.args.enc.now, c.args.board.now.slots.items) 0 c.args.leading.action.0 _ ready refl fits.lead)) in
    let k = went (board_of start) c.keep_hits.new.enc c.keep_hits.new.board.slots.items _ c.keep_hits.result _ c.in_ok-keep_hits.was (c.keep_hits.ensures start (moved_in start (c.args.enc.now, c.args.board.now.slots.items) (c.lead_inside.new.enc, c.lead_inside.new.board.slots.items) 2 _ ready (λ e. absurd (omega arith)) m) (hits_small start (c.args.enc.now, c.args.board.now.slots.items) (c.lead_inside.new.enc, c.lead_inside.new.board.slots.items) c.args.leading.action.0 ready m fits.hits)) in
    let small = small_same start _ (λ v. states_at (c.keep_hits.new.enc, c.keep_hits.new.board.slots.items) 1 v || states_at (c.keep_hits.new.enc, c.keep_hits.new.board.slots.items) 2 v) (λ v is. sym (hits_joined c.args.leading.way start (c.args.enc.now, c.args.board.now.slots.items) (c.lead_inside.new.enc, c.lead_inside.new.board.slots.items) (c.keep_hits.new.enc, c.keep_hits.new.board.slots.items) c.args.leading.action.0 ready m k v is)) fits.joined in
    left_with (board_of start) c.widen.new.enc c.widen.new.board.slots.items _ _ c.widen.result
    (λ w. adds_widened c.args.leading.way start (c.args.enc.now, c.args.board.now.slots.items) (c.lead_inside.new.enc, c.lead_inside.new.board.slots.items) (c.keep_hits.new.enc, c.keep_hits.new.board.slots.items) (c.widen.new.enc, c.widen.new.board.slots.items) c.args.leading.action c.args.steps.now.items c.widen.new.steps.items ready m k w)
    (c.widen.ensures start k.worked.ready small)
