use Rattle.std.proofs.lemmas.Result.{err_from_is_err_and}
use Rattle.std.proofs.Common.{suc, ◌≡◌, ◌+◌, ◌++◌, [], ◌∷◌, arith, length, ◌∙◌}
use Rattle.task_core.specs.Tasks.{action_count}
use Rattle.slot_board.specs.declared.steps.Step.TheVariants.{Advance}
use Rattle.slot_board.proofs.BoardSlots.{on_ok, same_actions, went, passed}
use Rattle.slot_board.proofs.Endings.{memory_passed}
use Rattle.cyclic_plan.proofs.Followed.{begun_next}
use Rattle.cyclic_plan.proofs.Premises.{copy_next}
use Rattle.cyclic_plan.proofs.rounds.next_step.Goals as goal

pub copy_of-requires-clause-working : goal.copy_of-requires-clause-working
copy_of-requires-clause-working c = (c.requires.ready.0, c.requires.ready.3.by_next.by_near.round.at)

pub copy_of-requires-clause-place : goal.copy_of-requires-clause-place
copy_of-requires-clause-place c =
    let h = c.requires.ready.3.by_next.by_near.round in
    let e : length c.args.board.now.slots.items ≡ 7 + action_count c.requires.ready.0.task + action_count c.requires.ready.0.task = h.at.long ∙ h.places in
    omega arith

pub copy_of-requires-clause-from : goal.copy_of-requires-clause-from
copy_of-requires-clause-from c =
    let h = c.requires.ready.3.by_next.by_near.round in
    let e : length c.args.board.now.slots.items ≡ 7 + action_count c.requires.ready.0.task + action_count c.requires.ready.0.task = h.at.long ∙ h.places in
    omega arith

pub grow-requires-clause-ready : goal.grow-requires-clause-ready
grow-requires-clause-ready c =
    let r = c.requires.ready in
    let now = c.copy_of.new.enc in
    let slots = c.copy_of.new.self.slots.items in
    let m = went r.0 now slots _ c.copy_of.result _ c.in_ok-copy_of.was (c.copy_of.ensures r.0 r.3.by_next.by_near.round.at (copy_next r.0 c.args.enc.now c.args.board.now.slots.items _ _ r.3.by_next.by_near.round 3)) in
    (r.0, r.1, suc r.2, begun_next r.0 c.args.enc.now now c.args.board.now.slots.items slots r.1 r.2 c.args.steps.now.items c.note.new.steps.items c.args.spent.now.items r.3 m (on_ok c.note.result (c.note.new.steps.items ≡ c.args.steps.now.items ++ Advance ∷ []) _ c.in_ok-note.was c.note.ensures.noted))

pub grow-requires-clause-actions : goal.grow-requires-clause-actions
grow-requires-clause-actions c =
    let r = c.requires.ready in
    let now = c.copy_of.new.enc in
    let slots = c.copy_of.new.self.slots.items in
    let m = went r.0 now slots _ c.copy_of.result _ c.in_ok-copy_of.was (c.copy_of.ensures r.0 r.3.by_next.by_near.round.at (copy_next r.0 c.args.enc.now c.args.board.now.slots.items _ _ r.3.by_next.by_near.round 3)) in
    let e : length now.actions ≡ length c.args.enc.now.actions = same_actions r.0 c.args.enc.now now c.args.board.now.slots.items slots r.3.by_next.by_near.round.at m.at in
    omega (arith, c.requires.actions)

pub returns : goal.returns
returns c start left k ready =
    let mid = c.copy_of.new.enc in
    let slots = c.copy_of.new.self.slots.items in
    let m = went start mid slots _ c.copy_of.result _ c.in_ok-copy_of.was (c.copy_of.ensures start ready.by_next.by_near.round.at (copy_next start c.args.enc.now c.args.board.now.slots.items _ _ ready.by_next.by_near.round 3)) in
    c.grow.ensures start left (suc k) (begun_next start c.args.enc.now mid c.args.board.now.slots.items slots left k c.args.steps.now.items c.note.new.steps.items c.args.spent.now.items ready m (on_ok c.note.result (c.note.new.steps.items ≡ c.args.steps.now.items ++ Advance ∷ []) _ c.in_ok-note.was c.note.ensures.noted))

pub returns-in_err-copy_of : goal.returns-in_err-copy_of
returns-in_err-copy_of c start left k ready =
    let p = err_from_is_err_and c.from_residual.result c.from_residual.ensures.1 in
    passed start c.copy_of.new.enc c.copy_of.new.self.slots.items _ _ c.copy_of.result c.from_residual.result _ c.in_err-copy_of.was p (c.copy_of.ensures start ready.by_next.by_near.round.at (copy_next start c.args.enc.now c.args.board.now.slots.items _ _ ready.by_next.by_near.round 3))

pub returns-in_err-note : goal.returns-in_err-note
returns-in_err-note c start left k ready =
    let p = err_from_is_err_and c.from_residual-in_err-note.result c.from_residual-in_err-note.ensures.1 in
    let m = went start c.copy_of.new.enc c.copy_of.new.self.slots.items _ c.copy_of.result _ c.in_ok-copy_of.was (c.copy_of.ensures start ready.by_next.by_near.round.at (copy_next start c.args.enc.now c.args.board.now.slots.items _ _ ready.by_next.by_near.round 3)) in
    memory_passed start c.copy_of.new.enc c.copy_of.new.self.slots.items _ c.note.result c.from_residual-in_err-note.result _ c.in_err-note.was p c.note.ensures.never_full m.at
