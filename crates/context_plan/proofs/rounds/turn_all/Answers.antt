use Rattle.context_plan.proofs.NotedSteps.{led_first, led_last, led_more}
use Rattle.context_plan.proofs.SizeSteps.{turns_fit_at, turns_fit_first}
use Rattle.context_plan.proofs.RoundSteps.{turned_first, turned_next, turned_less, turned_last}
use Rattle.context_plan.proofs.SceneSteps.{low}
use Rattle.context_plan.proofs.SpentSteps.{none_marked}
use Rattle.context_plan.specs.Scenes.{board_of, states_at}
use Rattle.task_core.specs.Tasks.{action_count}
use Rattle.slot_board.proofs.BoardSlots.{made_at, went, same_actions, same_fluents}
use Rattle.slot_board.proofs.Endings.{memory_passed, passed_on}
use Rattle.std.proofs.Common.{◌≡◌, arith, length, suc}
use Rattle.std.proofs.lemmas.Result.{err_from_is_err_and}
use Rattle.context_plan.proofs.rounds.turn_all.Goals as goal

pub returns-in_err-spent : goal.returns-in_err-spent
returns-in_err-spent c start ready fits =
    memory_passed (board_of start) c.args.enc.now c.args.board.now.slots.items _ c.none_spent.result c.from_residual.result _ c.in_err-spent.was (err_from_is_err_and c.from_residual.result c.from_residual.ensures.1) c.none_spent.ensures.never_full ready.at

pub turn_from-requires-clause-ready : goal.turn_from-requires-clause-ready
turn_from-requires-clause-ready c = let r = c.requires.ready in (r.0, r.1, turns_fit_first c.args.way r.0 _ r.2, (none_marked c.args.way r.0 (states_at (c.args.enc.now, c.args.board.now.slots.items) c.args.place) c.in_ok-spent.spent.items c.args.means.actions (let e : length c.args.enc.now.actions ≡ action_count r.0.task = (made_at (board_of r.0) c.args.enc.now c.args.board.now.slots.items r.1.at).actions in omega (arith, c.requires.actions)) c.in_ok-spent.ensures.long c.in_ok-spent.ensures.none))

pub returns-in_err-turn_from : goal.returns-in_err-turn_from
returns-in_err-turn_from c start ready fits =
    passed_on (board_of start) c.turn_from.new.enc c.turn_from.new.board.slots.items _ _ c.turn_from.result c.from_residual-in_err-turn_from.result _ c.in_err-turn_from.was (err_from_is_err_and c.from_residual-in_err-turn_from.result c.from_residual-in_err-turn_from.ensures.1)
    (c.turn_from.ensures start ready (turns_fit_first c.args.way start _ fits) (none_marked c.args.way start (states_at (c.args.enc.now, c.args.board.now.slots.items) c.args.place) c.in_ok-spent.spent.items c.args.means.actions (let e : length c.args.enc.now.actions ≡ action_count start.task = (made_at (board_of start) c.args.enc.now c.args.board.now.slots.items ready.at).actions in omega (arith, c.requires.actions)) c.in_ok-spent.ensures.long c.in_ok-spent.ensures.none))

pub loop-first-init : goal.loop-first-init
loop-first-init c start ready fits =
    let t = went (board_of start) c.turn_from.new.enc c.turn_from.new.board.slots.items _ c.turn_from.result _ c.in_ok-turn_from.was (c.turn_from.ensures start ready (turns_fit_first c.args.way start _ fits) (none_marked c.args.way start (states_at (c.args.enc.now, c.args.board.now.slots.items) c.args.place) c.in_ok-spent.spent.items c.args.means.actions (let e : length c.args.enc.now.actions ≡ action_count start.task = (made_at (board_of start) c.args.enc.now c.args.board.now.slots.items ready.at).actions in omega (arith, c.requires.actions)) c.in_ok-spent.ensures.long c.in_ok-spent.ensures.none)) in (
      0,
      turned_first c.args.way start (c.args.enc.now, c.args.board.now.slots.items) (c.turn_from.new.enc, c.turn_from.new.board.slots.items) c.args.place t.0,
      t.1,
      led_first c.args.way start (states_at (c.args.enc.now, c.args.board.now.slots.items) c.args.place) c.new-steps.result.items c.turn_from.new.steps.items c.new-steps.ensures.items t.2,
    )

pub is_same-requires-clause-working : goal.is_same-requires-clause-working
is_same-requires-clause-working c = let r = c.requires.ready in (board_of r.0, (c.loop-first.invariant r.0 r.1 r.2).1.worked.ready.at)

pub is_same-requires-clause-a : goal.is_same-requires-clause-a
is_same-requires-clause-a c = let r = c.requires.ready in low r.0 (c.loop-first.enc, c.loop-first.board.slots.items) (c.loop-first.invariant r.0 r.1 r.2).1.worked.ready.at 1 (omega arith)

pub is_same-requires-clause-b : goal.is_same-requires-clause-b
is_same-requires-clause-b c = let r = c.requires.ready in low r.0 (c.loop-first.enc, c.loop-first.board.slots.items) (c.loop-first.invariant r.0 r.1 r.2).1.worked.ready.at 0 (omega arith)

pub returns-in_err-note : goal.returns-in_err-note
returns-in_err-note c start ready fits =
    memory_passed (board_of start) c.loop-first.enc c.loop-first.board.slots.items _ c.note.result c.from_residual-in_err-note.result _ c.in_err-note.was (err_from_is_err_and c.from_residual-in_err-note.result c.from_residual-in_err-note.ensures.1) c.note.ensures.never_full (c.loop-first.invariant start ready fits).1.worked.ready.at

pub turn_from-requires-in-loop-first-clause-ready : goal.turn_from-requires-in-loop-first-clause-ready
turn_from-requires-in-loop-first-clause-ready c = let r = c.requires.ready in let k = c.loop-first.invariant r.0 r.1 r.2 in (r.0, k.1.worked.ready, turns_fit_at c.args.way r.0 _ _ (suc k.0) k.1.next r.2, k.2)

pub turn_from-requires-in-loop-first-clause-actions : goal.turn_from-requires-in-loop-first-clause-actions
turn_from-requires-in-loop-first-clause-actions c =
    let r = c.requires.ready in
    let e : length c.loop-first.enc.actions ≡ length c.args.enc.now.actions = same_actions (board_of r.0) c.args.enc.now c.loop-first.enc c.args.board.now.slots.items c.loop-first.board.slots.items r.1.at (c.loop-first.invariant r.0 r.1 r.2).1.worked.ready.at in
    omega (arith, c.requires.actions)

pub turn_from-requires-in-loop-first-clause-place : goal.turn_from-requires-in-loop-first-clause-place
turn_from-requires-in-loop-first-clause-place c = let r = c.requires.ready in low r.0 (c.loop-first.enc, c.loop-first.board.slots.items) (c.loop-first.invariant r.0 r.1 r.2).1.worked.ready.at 1 (omega arith)

pub returns-in_err-turn_from-2 : goal.returns-in_err-turn_from-2
returns-in_err-turn_from-2 c start ready fits =
    let k = c.loop-first.invariant start ready fits in
    passed_on (board_of start) c.turn_from-in-loop-first.new.enc c.turn_from-in-loop-first.new.board.slots.items _ _ c.turn_from-in-loop-first.result c.from_residual-in_err-turn_from-2.result _ c.in_err-turn_from-2.was (err_from_is_err_and c.from_residual-in_err-turn_from-2.result c.from_residual-in_err-turn_from-2.ensures.1)
    (c.turn_from-in-loop-first.ensures start k.1.worked.ready (turns_fit_at c.args.way start _ _ (suc k.0) k.1.next fits) k.2)

pub loop-first-smaller : goal.loop-first-smaller
loop-first-smaller c =
    let start = c.requires.ready.0 in
    let ready = c.requires.ready.1 in
    let fits = c.requires.ready.2 in
    let k = c.loop-first.invariant start ready fits in
    turned_less c.args.way start (c.args.enc.now, c.args.board.now.slots.items) (c.loop-first.enc, c.loop-first.board.slots.items) (c.turn_from-in-loop-first.new.enc, c.turn_from-in-loop-first.new.board.slots.items) _ k.0 c.args.enc.now.fluents k.1
    (λ same. let e = c.is_same.ensures.1 same in let f = c.loop-first-test.true in cc)
    (same_fluents (board_of start) c.args.enc.now c.args.board.now.slots.items ready.at)
    ((went (board_of start) c.turn_from-in-loop-first.new.enc c.turn_from-in-loop-first.new.board.slots.items _ c.turn_from-in-loop-first.result _ c.in_ok-turn_from-2.was (c.turn_from-in-loop-first.ensures start k.1.worked.ready (turns_fit_at c.args.way start _ _ (suc k.0) k.1.next fits) k.2)).0)

pub loop-first-preserved : goal.loop-first-preserved
loop-first-preserved c start ready fits =
    let k = c.loop-first.invariant start ready fits in
    let t = went (board_of start) c.turn_from-in-loop-first.new.enc c.turn_from-in-loop-first.new.board.slots.items _ c.turn_from-in-loop-first.result _ c.in_ok-turn_from-2.was (c.turn_from-in-loop-first.ensures start k.1.worked.ready (turns_fit_at c.args.way start _ _ (suc k.0) k.1.next fits) k.2) in (
      suc k.0,
      turned_next c.args.way start (c.args.enc.now, c.args.board.now.slots.items) (c.loop-first.enc, c.loop-first.board.slots.items) (c.turn_from-in-loop-first.new.enc, c.turn_from-in-loop-first.new.board.slots.items) _ k.0 k.1 t.0,
      t.1,
      led_more c.args.way start (c.args.enc.now, c.args.board.now.slots.items) (c.loop-first.enc, c.loop-first.board.slots.items) _ k.0 c.loop-first.steps.items c.note.new.steps.items c.turn_from-in-loop-first.new.steps.items k.1 c.in_ok-note.ensures.noted k.3 t.2,
    )

pub returns-in_err-note-2 : goal.returns-in_err-note-2
returns-in_err-note-2 c start ready fits =
    memory_passed (board_of start) c.loop-first.enc c.loop-first.board.slots.items _ c.note-2.result c.from_residual-in_err-note-2.result _ c.in_err-note-2.was (err_from_is_err_and c.from_residual-in_err-note-2.result c.from_residual-in_err-note-2.ensures.1) c.note-2.ensures.never_full (c.loop-first.invariant start ready fits).1.worked.ready.at

pub returns : goal.returns
returns c start ready fits =
    let k = c.loop-first.invariant start ready fits in
    let same = c.is_same.ensures.0 (let f = c.loop-first-test.false in cc) in (
      turned_last c.args.way start (c.args.enc.now, c.args.board.now.slots.items) (c.loop-first.enc, c.loop-first.board.slots.items) _ k.0 k.1 same,
      led_last c.args.way start (c.args.enc.now, c.args.board.now.slots.items) (c.loop-first.enc, c.loop-first.board.slots.items) _ k.0 c.loop-first.steps.items c.note-2.new.steps.items k.1 same c.in_ok-note-2.ensures.noted k.3,
    )
