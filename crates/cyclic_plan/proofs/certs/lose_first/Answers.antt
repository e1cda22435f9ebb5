use Rattle.std.proofs.Common.{◌≡◌, arith, length}
use Rattle.std.proofs.lemmas.Result.{err_from_is_err_and}
use Rattle.task_core.specs.Tasks.{system_of}
use Rattle.plan_theory.specs.PairRounds.{round}
use Rattle.slot_board.proofs.BoardSlots.{passed, same_actions, went}
use Rattle.cyclic_plan.proofs.certs.lose_first.Goals as goal

pub round-requires-clause-ready : goal.round-requires-clause-ready
round-requires-clause-ready c =
    let r = c.requires.ready in
    (r.0, round (system_of r.0.task) 0, went r.0 c.begin.new.enc c.begin.new.board.slots.items _ c.begin.result _ c.in_ok-begin.was (c.begin.ensures r.0 r.1))

pub round-requires-clause-actions : goal.round-requires-clause-actions
round-requires-clause-actions c =
    let r = c.requires.ready in
    let b = went r.0 c.begin.new.enc c.begin.new.board.slots.items _ c.begin.result _ c.in_ok-begin.was (c.begin.ensures r.0 r.1) in
    let e : length c.begin.new.enc.actions ≡ length c.args.enc.now.actions = same_actions r.0 c.args.enc.now c.begin.new.enc c.args.board.now.slots.items c.begin.new.board.slots.items r.1.at b.at in
    omega (arith, c.requires.actions)

pub first_lost-requires : goal.first_lost-requires
first_lost-requires c =
    let r = c.requires.ready in
    let b = went r.0 c.begin.new.enc c.begin.new.board.slots.items _ c.begin.result _ c.in_ok-begin.was (c.begin.ensures r.0 r.1) in
    record { ready = (r.0, (went r.0 c.round.new.enc c.round.new.board.slots.items _ c.round.result _ c.in_ok-round.was (c.round.ensures r.0 (round (system_of r.0.task) 0) b)).0) }

pub returns : goal.returns
returns c start ready =
    let b = went start c.begin.new.enc c.begin.new.board.slots.items _ c.begin.result _ c.in_ok-begin.was (c.begin.ensures start ready) in
    c.first_lost.ensures start (went start c.round.new.enc c.round.new.board.slots.items _ c.round.result _ c.in_ok-round.was (c.round.ensures start (round (system_of start.task) 0) b)).0

pub returns-in_err-begin : goal.returns-in_err-begin
returns-in_err-begin c start ready =
    let p = err_from_is_err_and c.from_residual.result c.from_residual.ensures.1 in
    passed start c.begin.new.enc c.begin.new.board.slots.items _ _ c.begin.result c.from_residual.result _ c.in_err-begin.was p (c.begin.ensures start ready)

pub returns-in_err-round : goal.returns-in_err-round
returns-in_err-round c start ready =
    let p = err_from_is_err_and c.from_residual-in_err-round.result c.from_residual-in_err-round.ensures.1 in
    let b = went start c.begin.new.enc c.begin.new.board.slots.items _ c.begin.result _ c.in_ok-begin.was (c.begin.ensures start ready) in
    passed start c.round.new.enc c.round.new.board.slots.items _ _ c.round.result c.from_residual-in_err-round.result _ c.in_err-round.was p (c.round.ensures start (round (system_of start.task) 0) b)
