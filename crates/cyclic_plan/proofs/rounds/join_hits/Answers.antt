-- The join first, then its place.
use Rattle.std.proofs.Common.{◌≡◌, ◌++◌, ◌+◌, [], ◌∷◌, ◌∙◌, arith, length, subst, sym}
use Rattle.std.proofs.lemmas.Result.{err_from_is_err_and}
use Rattle.task_core.specs.Tasks.{action_count}
use Rattle.slot_board.specs.Board.{Fits}
use Rattle.slot_board.proofs.BoardSlots.{passed, went}
use Rattle.slot_board.proofs.Endings.{noted_then}
use Rattle.cyclic_plan.specs.Stages.{none_taken}
use Rattle.slot_board.specs.declared.steps.Step.TheVariants.{Grow}
use Rattle.cyclic_plan.proofs.Followed.{joined_new, joined_none}
use Rattle.cyclic_plan.proofs.Premises.{joined_fits}
use Rattle.cyclic_plan.proofs.rounds.join_hits.Goals as goal

pub combine-requires-clause-working : goal.combine-requires-clause-working
combine-requires-clause-working c = let r = c.requires.ready in (r.0, r.5.by_next.by_near.round.at)

pub combine-requires-clause-place : goal.combine-requires-clause-place
combine-requires-clause-place c =
    let h = c.requires.ready.5.by_next.by_near.round in
    let e : length c.args.board.now.slots.items ≡ 7 + action_count c.requires.ready.0.task + action_count c.requires.ready.0.task = h.at.long ∙ h.places in
    omega arith

pub combine-requires-clause-a : goal.combine-requires-clause-a
combine-requires-clause-a c =
    let h = c.requires.ready.5.by_next.by_near.round in
    let e : length c.args.board.now.slots.items ≡ 7 + action_count c.requires.ready.0.task + action_count c.requires.ready.0.task = h.at.long ∙ h.places in
    omega arith

pub combine-requires-clause-b : goal.combine-requires-clause-b
combine-requires-clause-b c =
    let h = c.requires.ready.5.by_next.by_near.round in
    let e : length c.args.board.now.slots.items ≡ 7 + action_count c.requires.ready.0.task + action_count c.requires.ready.0.task = h.at.long ∙ h.places in
    omega arith

pub returns-in_err-combine : goal.returns-in_err-combine
returns-in_err-combine c start left near next hits ready small =
    let p = err_from_is_err_and c.from_residual.result c.from_residual.ensures.1 in
    passed start c.combine.new.enc c.combine.new.self.slots.items _ _ c.combine.result c.from_residual.result _ c.in_err-combine.was p (c.combine.ensures start ready.by_next.by_near.round.at (joined_fits start c.args.enc.now c.args.board.now.slots.items 6 left none_taken near next hits ready small))

pub is_same-requires-clause-working : goal.is_same-requires-clause-working
is_same-requires-clause-working c =
    let r = c.requires.ready in
    (r.0, (went r.0 c.combine.new.enc c.combine.new.self.slots.items _ c.combine.result _ c.in_ok-combine.was (c.combine.ensures r.0 r.5.by_next.by_near.round.at (joined_fits r.0 c.args.enc.now c.args.board.now.slots.items 6 r.1 none_taken r.2 r.3 r.4 r.5 r.6))).at)

pub is_same-requires-clause-a : goal.is_same-requires-clause-a
is_same-requires-clause-a c =
    let r = c.requires.ready in
    let m = went r.0 c.combine.new.enc c.combine.new.self.slots.items _ c.combine.result _ c.in_ok-combine.was (c.combine.ensures r.0 r.5.by_next.by_near.round.at (joined_fits r.0 c.args.enc.now c.args.board.now.slots.items 6 r.1 none_taken r.2 r.3 r.4 r.5 r.6)) in
    let e : length c.combine.new.self.slots.items ≡ 7 + action_count r.0.task + action_count r.0.task = m.at.long ∙ r.5.by_next.by_near.round.places in
    omega arith

pub is_same-requires-clause-b : goal.is_same-requires-clause-b
is_same-requires-clause-b c =
    let r = c.requires.ready in
    let m = went r.0 c.combine.new.enc c.combine.new.self.slots.items _ c.combine.result _ c.in_ok-combine.was (c.combine.ensures r.0 r.5.by_next.by_near.round.at (joined_fits r.0 c.args.enc.now c.args.board.now.slots.items 6 r.1 none_taken r.2 r.3 r.4 r.5 r.6)) in
    let e : length c.combine.new.self.slots.items ≡ 7 + action_count r.0.task + action_count r.0.task = m.at.long ∙ r.5.by_next.by_near.round.places in
    omega arith

pub returns-then-is_same : goal.returns-then-is_same
returns-then-is_same c start left near next hits ready small =
    let m = went start c.combine.new.enc c.combine.new.self.slots.items _ c.combine.result _ c.in_ok-combine.was (c.combine.ensures start ready.by_next.by_near.round.at (joined_fits start c.args.enc.now c.args.board.now.slots.items 6 left none_taken near next hits ready small)) in
    joined_none start c.args.enc.now c.combine.new.enc c.args.board.now.slots.items c.combine.new.self.slots.items left near next hits ready m c.args.a c.args.steps.now.items (c.is_same.ensures.0 c.if-is_same.true)

pub copy_of-requires-clause-working : goal.copy_of-requires-clause-working
copy_of-requires-clause-working c =
    let r = c.requires.ready in
    (r.0, (went r.0 c.combine.new.enc c.combine.new.self.slots.items _ c.combine.result _ c.in_ok-combine.was (c.combine.ensures r.0 r.5.by_next.by_near.round.at (joined_fits r.0 c.args.enc.now c.args.board.now.slots.items 6 r.1 none_taken r.2 r.3 r.4 r.5 r.6))).at)

pub copy_of-requires-clause-place : goal.copy_of-requires-clause-place
copy_of-requires-clause-place c =
    let r = c.requires.ready in
    let m = went r.0 c.combine.new.enc c.combine.new.self.slots.items _ c.combine.result _ c.in_ok-combine.was (c.combine.ensures r.0 r.5.by_next.by_near.round.at (joined_fits r.0 c.args.enc.now c.args.board.now.slots.items 6 r.1 none_taken r.2 r.3 r.4 r.5 r.6)) in
    let e : length c.combine.new.self.slots.items ≡ 7 + action_count r.0.task + action_count r.0.task = m.at.long ∙ r.5.by_next.by_near.round.places in
    omega arith

pub copy_of-requires-clause-from : goal.copy_of-requires-clause-from
copy_of-requires-clause-from c =
    let r = c.requires.ready in
    let m = went r.0 c.combine.new.enc c.combine.new.self.slots.items _ c.combine.result _ c.in_ok-combine.was (c.combine.ensures r.0 r.5.by_next.by_near.round.at (joined_fits r.0 c.args.enc.now c.args.board.now.slots.items 6 r.1 none_taken r.2 r.3 r.4 r.5 r.6)) in
    let e : length c.combine.new.self.slots.items ≡ 7 + action_count r.0.task + action_count r.0.task = m.at.long ∙ r.5.by_next.by_near.round.places in
    omega arith

pub returns-in_err-copy_of : goal.returns-in_err-copy_of
returns-in_err-copy_of c start left near next hits ready small =
    let p = err_from_is_err_and c.from_residual-in_err-copy_of.result c.from_residual-in_err-copy_of.ensures.1 in
    let m = went start c.combine.new.enc c.combine.new.self.slots.items _ c.combine.result _ c.in_ok-combine.was (c.combine.ensures start ready.by_next.by_near.round.at (joined_fits start c.args.enc.now c.args.board.now.slots.items 6 left none_taken near next hits ready small)) in
    passed start c.copy_of.new.enc c.copy_of.new.self.slots.items _ _ c.copy_of.result c.from_residual-in_err-copy_of.result _ c.in_err-copy_of.was p (c.copy_of.ensures start m.at (subst (Fits start 4) (sym m.here) (joined_fits start c.args.enc.now c.args.board.now.slots.items 4 left none_taken near next hits ready small)))

pub returns : goal.returns
returns c start left near next hits ready small =
    let m = went start c.combine.new.enc c.combine.new.self.slots.items _ c.combine.result _ c.in_ok-combine.was (c.combine.ensures start ready.by_next.by_near.round.at (joined_fits start c.args.enc.now c.args.board.now.slots.items 6 left none_taken near next hits ready small)) in
    let w = went start c.copy_of.new.enc c.copy_of.new.self.slots.items _ c.copy_of.result _ c.in_ok-copy_of.was (c.copy_of.ensures start m.at (subst (Fits start 4) (sym m.here) (joined_fits start c.args.enc.now c.args.board.now.slots.items 4 left none_taken near next hits ready small))) in
    noted_then start c.copy_of.new.enc c.copy_of.new.self.slots.items (c.note.new.steps.items ≡ c.args.steps.now.items ++ Grow c.args.a ∷ []) _ c.note.result c.note.ensures.never_full c.note.ensures.noted w.at
    (λ done. joined_new start c.args.enc.now c.combine.new.enc c.args.board.now.slots.items c.combine.new.self.slots.items left near next hits ready m c.copy_of.new.enc c.copy_of.new.self.slots.items c.args.a c.args.steps.now.items c.note.new.steps.items w done)
