use Rattle.std.proofs.Common.{suc, ◌≡◌, ◌+◌, arith, length, ◌∙◌, sym, false}
use Rattle.std.specs.List.{list_all}
use Rattle.std.proofs.lemmas.Result.{err_from_is_err_and}
use Rattle.task_core.specs.Tasks.{action_count, system_of}
use Rattle.plan_theory.specs.PairRounds.{round}
use Rattle.cyclic_plan.specs.Stages.{none_taken}
use Rattle.slot_board.proofs.BoardSlots.{same_actions, same_fluents, went}
use Rattle.cyclic_plan.proofs.Answered.{lost_is, near_covered_is, rounds_ended, rounds_refused}
use Rattle.cyclic_plan.proofs.PlanMade.{near_stays}
use Rattle.cyclic_plan.proofs.Premises.{test_left, test_near}
use Rattle.cyclic_plan.proofs.RoundsMade.{round_last, round_less}
use Rattle.cyclic_plan.proofs.rounds.last_round.Goals as goal

pub round-requires-clause-ready : goal.round-requires-clause-ready
round-requires-clause-ready c = let r = c.requires.ready in (r.0, round (system_of r.0.task) 0, r.1)

pub returns-in_err-round : goal.returns-in_err-round
returns-in_err-round c start ready =
    let p = err_from_is_err_and c.from_residual.result c.from_residual.ensures.1 in
    rounds_refused start c.round.new.enc c.round.new.board.slots.items c.round.new.steps.items _ c.round.result c.from_residual.result _ c.in_err-round.was p (c.round.ensures start (round (system_of start.task) 0) ready)

pub loop-alloc-init : goal.loop-alloc-init
loop-alloc-init c start ready =
    let found = went start c.round.new.enc c.round.new.board.slots.items _ c.round.result _ c.in_ok-round.was (c.round.ensures start (round (system_of start.task) 0) ready) in
    (0, found.0, found.1)

pub is_same-requires-clause-working : goal.is_same-requires-clause-working
is_same-requires-clause-working c = let r = c.requires.ready in (r.0, (c.loop-alloc.invariant r.0 r.1).1.round.at)

pub is_same-requires-clause-a : goal.is_same-requires-clause-a
is_same-requires-clause-a c =
    let r = c.requires.ready in
    let e : length c.loop-alloc.board.slots.items ≡ 7 + action_count r.0.task + action_count r.0.task = (c.loop-alloc.invariant r.0 r.1).1.round.at.long ∙ (c.loop-alloc.invariant r.0 r.1).1.round.places in
    omega arith

pub is_same-requires-clause-b : goal.is_same-requires-clause-b
is_same-requires-clause-b c =
    let r = c.requires.ready in
    let e : length c.loop-alloc.board.slots.items ≡ 7 + action_count r.0.task + action_count r.0.task = (c.loop-alloc.invariant r.0 r.1).1.round.at.long ∙ (c.loop-alloc.invariant r.0 r.1).1.round.places in
    omega arith

pub covers_initial-requires-clause-working : goal.covers_initial-requires-clause-working
covers_initial-requires-clause-working c = let r = c.requires.ready in (r.0, (c.loop-alloc.invariant r.0 r.1).1.round.at)

pub covers_initial-requires-clause-place : goal.covers_initial-requires-clause-place
covers_initial-requires-clause-place c =
    let r = c.requires.ready in
    let e : length c.loop-alloc.board.slots.items ≡ 7 + action_count r.0.task + action_count r.0.task = (c.loop-alloc.invariant r.0 r.1).1.round.at.long ∙ (c.loop-alloc.invariant r.0 r.1).1.round.places in
    omega arith

pub returns-in_err-covers_initial : goal.returns-in_err-covers_initial
returns-in_err-covers_initial c start ready =
    let p = err_from_is_err_and c.from_residual-in_err-covers_initial.result c.from_residual-in_err-covers_initial.ensures.1 in
    let k = c.loop-alloc.invariant start ready in
    rounds_refused start c.covers_initial.new.enc c.loop-alloc.board.slots.items c.loop-alloc.steps.items _ c.covers_initial.result c.from_residual-in_err-covers_initial.result _ c.in_err-covers_initial.was p (c.covers_initial.ensures.left start k.1.round.at (test_near start c.loop-alloc.enc c.loop-alloc.board.slots.items _ _ k.1.round))

pub returns-then-not-branch : goal.returns-then-not-branch
returns-then-not-branch c start ready =
    let k = c.loop-alloc.invariant start ready in
    let sys = system_of start.task in
    let e : c.in_ok-covers_initial.field-0 ≡ list_all (round sys (suc k.0)) sys.initial =
    c.in_ok-covers_initial.ensures.answer start k.1.round.at ∙ near_covered_is start c.loop-alloc.enc c.loop-alloc.board.slots.items (round sys k.0) none_taken (round sys (suc k.0)) k.1 in
    let short : list_all (round sys (suc k.0)) sys.initial ≡ false = sym e ∙ (let h = c.if-not-branch.true in cc) in
    ((near_stays start c.loop-alloc.enc c.covers_initial.new.enc c.loop-alloc.board.slots.items (round sys k.0) none_taken (round sys (suc k.0)) k.1 (c.in_ok-covers_initial.ensures.left start k.1.round.at (test_near start c.loop-alloc.enc c.loop-alloc.board.slots.items _ _ k.1.round))).round.at, lost_is start.task (suc k.0) short)

pub next_round-requires-clause-ready : goal.next_round-requires-clause-ready
next_round-requires-clause-ready c =
    let r = c.requires.ready in
    let k = c.loop-alloc.invariant r.0 r.1 in
    let sys = system_of r.0.task in
    (r.0, k.0, near_stays r.0 c.loop-alloc.enc c.covers_initial.new.enc c.loop-alloc.board.slots.items (round sys k.0) none_taken (round sys (suc k.0)) k.1 (c.in_ok-covers_initial.ensures.left r.0 k.1.round.at (test_near r.0 c.loop-alloc.enc c.loop-alloc.board.slots.items _ _ k.1.round)))

pub next_round-requires-clause-actions : goal.next_round-requires-clause-actions
next_round-requires-clause-actions c =
    let r = c.requires.ready in
    let k = c.loop-alloc.invariant r.0 r.1 in
    let sys = system_of r.0.task in
    let t = near_stays r.0 c.loop-alloc.enc c.covers_initial.new.enc c.loop-alloc.board.slots.items (round sys k.0) none_taken (round sys (suc k.0)) k.1 (c.in_ok-covers_initial.ensures.left r.0 k.1.round.at (test_near r.0 c.loop-alloc.enc c.loop-alloc.board.slots.items _ _ k.1.round)) in
    let e : length c.covers_initial.new.enc.actions ≡ length c.args.enc.now.actions = same_actions r.0 c.args.enc.now c.covers_initial.new.enc c.args.board.now.slots.items c.loop-alloc.board.slots.items r.1.at t.round.at in
    omega (arith, c.requires.actions)

pub returns-in_err-next_round : goal.returns-in_err-next_round
returns-in_err-next_round c start ready =
    let p = err_from_is_err_and c.from_residual-in_err-next_round.result c.from_residual-in_err-next_round.ensures.1 in
    let k = c.loop-alloc.invariant start ready in
    let sys = system_of start.task in
    let t = near_stays start c.loop-alloc.enc c.covers_initial.new.enc c.loop-alloc.board.slots.items (round sys k.0) none_taken (round sys (suc k.0)) k.1 (c.in_ok-covers_initial.ensures.left start k.1.round.at (test_near start c.loop-alloc.enc c.loop-alloc.board.slots.items _ _ k.1.round)) in
    rounds_refused start c.next_round.new.enc c.next_round.new.board.slots.items c.next_round.new.steps.items _ c.next_round.result c.from_residual-in_err-next_round.result _ c.in_err-next_round.was p (c.next_round.ensures start k.0 t)

pub loop-alloc-smaller : goal.loop-alloc-smaller
loop-alloc-smaller c =
    let r = c.requires.ready in
    let k = c.loop-alloc.invariant r.0 r.1 in
    let sys = system_of r.0.task in
    let now = c.next_round.new.enc in
    let slots = c.next_round.new.board.slots.items in
    let t = near_stays r.0 c.loop-alloc.enc c.covers_initial.new.enc c.loop-alloc.board.slots.items (round sys k.0) none_taken (round sys (suc k.0)) k.1 (c.in_ok-covers_initial.ensures.left r.0 k.1.round.at (test_near r.0 c.loop-alloc.enc c.loop-alloc.board.slots.items _ _ k.1.round)) in
    let after = went r.0 now slots _ c.next_round.result _ c.in_ok-next_round.was (c.next_round.ensures r.0 k.0 t) in
    round_less r.0 c.loop-alloc.enc now c.loop-alloc.board.slots.items slots k.0 c.args.enc.now.fluents k.1
    (λ same. let e = c.is_same.ensures.1 same in let f = c.loop-alloc-test.true in cc)
    (same_fluents r.0 c.args.enc.now c.args.board.now.slots.items r.1.at) _ _ after.0

pub loop-alloc-preserved : goal.loop-alloc-preserved
loop-alloc-preserved c start ready =
    let k = c.loop-alloc.invariant start ready in
    let sys = system_of start.task in
    let t = near_stays start c.loop-alloc.enc c.covers_initial.new.enc c.loop-alloc.board.slots.items (round sys k.0) none_taken (round sys (suc k.0)) k.1 (c.in_ok-covers_initial.ensures.left start k.1.round.at (test_near start c.loop-alloc.enc c.loop-alloc.board.slots.items _ _ k.1.round)) in
    let found = went start c.next_round.new.enc c.next_round.new.board.slots.items _ c.next_round.result _ c.in_ok-next_round.was (c.next_round.ensures start k.0 t) in
    (suc k.0, found.0, found.1 k.2)

pub covers_initial-requires-2-clause-working : goal.covers_initial-requires-2-clause-working
covers_initial-requires-2-clause-working c = let r = c.requires.ready in (r.0, (c.loop-alloc.invariant r.0 r.1).1.round.at)

pub covers_initial-requires-2-clause-place : goal.covers_initial-requires-2-clause-place
covers_initial-requires-2-clause-place c =
    let r = c.requires.ready in
    let e : length c.loop-alloc.board.slots.items ≡ 7 + action_count r.0.task + action_count r.0.task = (c.loop-alloc.invariant r.0 r.1).1.round.at.long ∙ (c.loop-alloc.invariant r.0 r.1).1.round.places in
    omega arith

pub returns : goal.returns
returns c start ready =
    let k = c.loop-alloc.invariant start ready in
    rounds_ended start c.loop-alloc.enc c.covers_initial-2.new.enc c.loop-alloc.board.slots.items c.loop-alloc.steps.items k.0 c.covers_initial-2.result
    (round_last start c.loop-alloc.enc c.loop-alloc.board.slots.items k.0 k.1 (c.is_same.ensures.0 (let f = c.loop-alloc-test.false in cc))) k.1 k.2
    (c.covers_initial-2.ensures.left start k.1.round.at (test_left start c.loop-alloc.enc c.loop-alloc.board.slots.items _ _ k.1.round)) (c.covers_initial-2.ensures.answer start k.1.round.at)
