use Rattle.context_plan.proofs.SpentSteps.{none_marked}
use Rattle.context_plan.specs.Scenes.{board_of, states_at}
use Rattle.slot_board.proofs.BoardSlots.{left_with, made_at}
use Rattle.slot_board.proofs.Endings.{memory_passed}
use Rattle.std.proofs.Common.{◌≡◌, arith, length}
use Rattle.std.proofs.lemmas.Result.{err_from_is_err_and}
use Rattle.task_core.specs.Tasks.{action_count}
use Rattle.context_plan.proofs.rounds.turn_once.Goals as goal

pub returns-in_err-spent : goal.returns-in_err-spent
returns-in_err-spent c start ready fits =
    memory_passed (board_of start) c.args.enc.now c.args.board.now.slots.items _ c.none_spent.result c.from_residual.result _ c.in_err-spent.was (err_from_is_err_and c.from_residual.result c.from_residual.ensures.1) c.none_spent.ensures.never_full ready.at

pub turn_from-requires-clause-ready : goal.turn_from-requires-clause-ready
turn_from-requires-clause-ready c = let r = c.requires.ready in (r.0, r.1, r.2, (none_marked c.args.way r.0 (states_at (c.args.enc.now, c.args.board.now.slots.items) c.args.place) c.in_ok-spent.spent.items c.args.means.actions (let e : length c.args.enc.now.actions ≡ action_count r.0.task = (made_at (board_of r.0) c.args.enc.now c.args.board.now.slots.items r.1.at).actions in omega (arith, c.requires.actions)) c.in_ok-spent.ensures.long c.in_ok-spent.ensures.none))

pub returns : goal.returns
returns c start ready fits =
    left_with (board_of start) c.turn_from.new.enc c.turn_from.new.board.slots.items _ _ c.turn_from.result (λ t. t.0)
    (c.turn_from.ensures start ready fits (none_marked c.args.way start (states_at (c.args.enc.now, c.args.board.now.slots.items) c.args.place) c.in_ok-spent.spent.items c.args.means.actions (let e : length c.args.enc.now.actions ≡ action_count start.task = (made_at (board_of start) c.args.enc.now c.args.board.now.slots.items ready.at).actions in omega (arith, c.requires.actions)) c.in_ok-spent.ensures.long c.in_ok-spent.ensures.none))
