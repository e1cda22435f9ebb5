use Rattle.context_plan.proofs.SkipSteps.{same_hits}
use Rattle.context_plan.proofs.SpentSteps.{spent_noted}
use Rattle.context_plan.specs.Scenes.{board_of, states_at}
use Rattle.context_plan.specs.Steps.{AreSpent}
use Rattle.context_plan.specs.declared.rounds.Way.TheVariants.{Growing}
use Rattle.slot_board.proofs.BoardSlots.{action_within, passed, went}
use Rattle.std.proofs.Common.{◌∙◌, Bool, List, ap, false, sym, subst}
use Rattle.std.proofs.lemmas.Result.{err_from_is_err_and}
use Rattle.std.specs.Prelude.{slice_index_or}
use Rattle.context_plan.proofs.rounds.find_spent.Goals as goal

pub returns-then-is_spent-clause-left : goal.returns-then-is_spent-clause-left
returns-then-is_spent-clause-left c start ready fits = same_hits start (c.args.enc.now, c.args.board.now.slots.items) ready

pub returns-then-is_spent-clause-joined : goal.returns-then-is_spent-clause-joined
returns-then-is_spent-clause-joined c start ready fits marks is =
    marks.each c.args.a.0 (action_within (board_of start) c.args.enc.now c.args.board.now.slots.items c.args.a.0 ready.at c.requires.action)
    (sym (ap (λ spent. slice_index_or spent c.args.a.0 false) c.deref.ensures.value) ∙ sym c.is_spent.ensures ∙ c.if-is_spent.true)

pub is_joined-requires-clause-ready : goal.is_joined-requires-clause-ready
is_joined-requires-clause-ready c = let r = c.requires.ready in (r.0, r.1, r.2)

pub returns-in_err-joined-clause-left : goal.returns-in_err-joined-clause-left
returns-in_err-joined-clause-left c start ready fits =
    let p = err_from_is_err_and c.from_residual.result c.from_residual.ensures.1 in
    passed (board_of start) c.is_joined.new.enc c.is_joined.new.board.slots.items _ _ c.is_joined.result c.from_residual.result _ c.in_err-joined.was p (c.is_joined.ensures.left start ready fits)

pub returns-clause-left : goal.returns-clause-left
returns-clause-left c start ready fits = went (board_of start) c.is_joined.new.enc c.is_joined.new.board.slots.items _ c.is_joined.result _ c.in_ok-joined.was (c.is_joined.ensures.left start ready fits)

pub returns-clause-spent : goal.returns-clause-spent
returns-clause-spent c start ready fits marks =
    subst (λ (now : List Bool). AreSpent Growing start (states_at (c.args.enc.now, c.args.board.now.slots.items) 1) now) (sym c.note_spent.ensures)
    (spent_noted start (states_at (c.args.enc.now, c.args.board.now.slots.items) 1) c.args.spent.now.items c.args.a.0 c.in_ok-joined.joined (action_within (board_of start) c.args.enc.now c.args.board.now.slots.items c.args.a.0 ready.at c.requires.action) marks
    (c.in_ok-joined.ensures.joined start ready fits))

pub returns-clause-joined : goal.returns-clause-joined
returns-clause-joined c start ready fits marks = c.in_ok-joined.ensures.joined start ready fits
