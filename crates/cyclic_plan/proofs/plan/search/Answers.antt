use Rattle.std.proofs.Common.{suc, ◌≡◌, arith, length, subst, sym}
use Rattle.std.proofs.lemmas.Result.{err_from_is_err_and}
use Rattle.task_core.specs.Tasks.{system_of}
use Rattle.plan_theory.specs.PairRounds.{round}
use Rattle.slot_board.proofs.BoardSlots.{same_actions, went}
use Rattle.cyclic_plan.specs.Steps.{AreStepsFrom}
use Rattle.cyclic_plan.proofs.Answered.{ends_refused, last_takers, rounds_found, rounds_lost, rounds_refusal, table_is}
use Rattle.cyclic_plan.proofs.plan.search.Goals as goal

pub last_round-requires-clause-ready : goal.last_round-requires-clause-ready
last_round-requires-clause-ready c =
    let start = c.requires.ready.0 in
    (start, went start c.begin.new.enc c.begin.new.board.slots.items _ c.begin.result _ c.in_ok-begin.was (c.begin.ensures start c.requires.ready.1))

pub returns-in_err-last_round : goal.returns-in_err-last_round
returns-in_err-last_round c start ready =
    let p = err_from_is_err_and c.from_residual-in_err-last_round.result c.from_residual-in_err-last_round.ensures.1 in
    let b = went start c.begin.new.enc c.begin.new.board.slots.items _ c.begin.result _ c.in_ok-begin.was (c.begin.ensures start ready) in
    rounds_refusal start c.last_round.new.enc c.last_round.new.board.slots.items c.last_round.new.steps.items c.last_round.result c.from_residual-in_err-last_round.result _ c.in_err-last_round.was p (c.last_round.ensures start b)

pub returns-then-not-branch : goal.returns-then-not-branch
returns-then-not-branch c start ready =
    let b = went start c.begin.new.enc c.begin.new.board.slots.items _ c.begin.result _ c.in_ok-begin.was (c.begin.ensures start ready) in
    rounds_lost start c.last_round.new.enc c.last_round.new.board.slots.items c.last_round.new.steps.items c.last_round.result c.in_ok-last_round.field-0 c.in_ok-last_round.was (let h = c.if-not-branch.true in cc) (c.last_round.ensures start b)

pub retrace-requires-clause-ready : goal.retrace-requires-clause-ready
retrace-requires-clause-ready c =
    let start = c.requires.ready.0 in
    let b = went start c.begin.new.enc c.begin.new.board.slots.items _ c.begin.result _ c.in_ok-begin.was (c.begin.ensures start c.requires.ready.1) in
    let l = rounds_found start c.last_round.new.enc c.last_round.new.board.slots.items c.last_round.new.steps.items c.last_round.result c.in_ok-last_round.field-0 c.in_ok-last_round.was (let h = c.if-not-branch.false in cc) (c.last_round.ensures start b) in
    let sys = system_of start.task in
    (start, round sys l.0, round sys (suc l.0), l.3, last_takers start l.0 l.3.round.fit l.1 l.2, subst (AreStepsFrom start (round sys l.0) 0 0) (sym c.deref.ensures.value) l.4)

pub retrace-requires-clause-actions : goal.retrace-requires-clause-actions
retrace-requires-clause-actions c =
    let start = c.requires.ready.0 in
    let b = went start c.begin.new.enc c.begin.new.board.slots.items _ c.begin.result _ c.in_ok-begin.was (c.begin.ensures start c.requires.ready.1) in
    let l = rounds_found start c.last_round.new.enc c.last_round.new.board.slots.items c.last_round.new.steps.items c.last_round.result c.in_ok-last_round.field-0 c.in_ok-last_round.was (let h = c.if-not-branch.false in cc) (c.last_round.ensures start b) in
    let e : length c.last_round.new.enc.actions ≡ length c.args.enc.now.actions = same_actions start c.args.enc.now c.last_round.new.enc c.args.board.now.slots.items c.last_round.new.board.slots.items c.requires.ready.1.at l.3.round.at in
    omega (arith, c.requires.actions)

pub returns-in_err-retrace : goal.returns-in_err-retrace
returns-in_err-retrace c start ready =
    let p = err_from_is_err_and c.from_residual-in_err-retrace.result c.from_residual-in_err-retrace.ensures.1 in
    let b = went start c.begin.new.enc c.begin.new.board.slots.items _ c.begin.result _ c.in_ok-begin.was (c.begin.ensures start ready) in
    let l = rounds_found start c.last_round.new.enc c.last_round.new.board.slots.items c.last_round.new.steps.items c.last_round.result c.in_ok-last_round.field-0 c.in_ok-last_round.was (let h = c.if-not-branch.false in cc) (c.last_round.ensures start b) in
    let sys = system_of start.task in
    ends_refused start c.retrace.new.enc c.retrace.new.board.slots.items _ c.retrace.result c.from_residual-in_err-retrace.result _ c.in_err-retrace.was p (c.retrace.ensures start (round sys l.0) (round sys (suc l.0)) l.3 (last_takers start l.0 l.3.round.fit l.1 l.2) (subst (AreStepsFrom start (round sys l.0) 0 0) (sym c.deref.ensures.value) l.4))

pub returns : goal.returns
returns c start ready =
    let b = went start c.begin.new.enc c.begin.new.board.slots.items _ c.begin.result _ c.in_ok-begin.was (c.begin.ensures start ready) in
    let l = rounds_found start c.last_round.new.enc c.last_round.new.board.slots.items c.last_round.new.steps.items c.last_round.result c.in_ok-last_round.field-0 c.in_ok-last_round.was (let h = c.if-not-branch.false in cc) (c.last_round.ensures start b) in
    let sys = system_of start.task in
    let s = went start c.retrace.new.enc c.retrace.new.board.slots.items _ c.retrace.result _ c.in_ok-retrace.was (c.retrace.ensures start (round sys l.0) (round sys (suc l.0)) l.3 (last_takers start l.0 l.3.round.fit l.1 l.2) (subst (AreStepsFrom start (round sys l.0) 0 0) (sym c.deref.ensures.value) l.4)) in
    table_is start l.0 l.1 l.2 c.retrace.new.enc c.retrace.new.board.slots.items _ s
